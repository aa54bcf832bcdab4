-- What is known of a total and weights within the limits.
use Rattle.std.specs.Prelude.{◌≡◌, ℕ, ◌≤◌, max, true, false, not, ◌&&◌, List, length, ℤ, pos, negsuc, Ok, sum, ◌==◌, unsigned_abs}
use Rattle.std.proofs.Common.{sym, ap, ◌∙◌, arith}
use Rattle.std.proofs.lemmas.Bool.{and_parts, leb-true, eqb-true}
use Rattle.std.proofs.lemmas.Bool.Decides.{nat_tests}
use Rattle.ledger.specs.Laws.{Shares, in_limits, most_total, most_weights, most_weight_sum, nothing_to_share_by}
use Rattle.ledger.specs.Sharing.{Shared, unless_refused}
use Rattle.ledger.specs.Grounds.{told}
use Rattle.ledger.specs.GroundsLemmas.{demanded}
use Rattle.ledger.specs.Outcomes.{accepts, takes}

pub record Limited (t : ℤ) (ws : List ℕ) : Type 0 where
  pub total_small : unsigned_abs t ≤ most_total
  pub weights_some : 1 ≤ length ws
  pub weights_few : length ws ≤ most_weights
  pub weights_small : sum ws ≤ most_weight_sum

pub limited : (t : ℤ) (ws : List ℕ) → in_limits t ws ≡ true → Limited t ws
limited t ws h =
    let a = and_parts _ _ h in
    let b = and_parts _ _ a.1 in
    let c = and_parts _ _ b.1 in
    record {
      total_small = leb-true _ _ a.0;
      weights_some = leb-true _ _ b.0;
      weights_few = leb-true _ _ c.0;
      weights_small = leb-true _ _ c.1;
    }

-- only nothing can be divided by weights that add up to nothing
abbrev pub Divisible : ℤ → List ℕ → Type 0
Divisible t ws = sum ws ≡ 0 → t ≡ pos 0

zero_size : (t : ℤ) → unsigned_abs t ≡ 0 → t ≡ pos 0
zero_size (pos n) e = ap pos e
zero_size (negsuc n) e = absurd (omega arith)

pub divisible : (t : ℤ) (ws : List ℕ) → nothing_to_share_by t ws ≡ false → Divisible t ws
divisible t ws h e = zero_size t (none (unsigned_abs t) h)
  where
    none : (n : ℕ) → (sum ws == 0) && not (n == 0) ≡ false → n ≡ 0
    none n k = grind (arith, nat_tests)

-- what is known once a call is accepted
pub record Accepted (t : ℤ) (ws : List ℕ) (places : ℕ) : Type 0 where
  pub limits : Limited t ws
  pub long : places ≡ length ws
  pub divides : Divisible t ws

pub accepted : {Y : Type 0} (t : ℤ) (ws : List ℕ) (places : ℕ) (x y : Y) → unless_refused nothing_to_share_by t ws places x ≡ Ok y → Accepted t ws places
accepted t ws places x y h =
    let a = demanded (in_limits t ws && places == length ws) _ _ _ h in
    let k = takes nothing_to_share_by t ws places x y h in
    record { limits = limited t ws k.0; long = eqb-true _ _ (and_parts _ _ a.0).1; divides = divisible t ws k.1 }

-- the same, with the size and the divisor that both rules take
pub record Ready (t : ℤ) (ws : List ℕ) (places w s d : ℕ) : Type 0 where
  pub answered : unless_refused nothing_to_share_by t ws places (sum ws) ≡ Ok w
  pub accepted : Accepted t ws places
  pub size : s ≡ unsigned_abs t
  pub divisor : d ≡ max (sum ws) 1
  pub size_small : s ≤ most_total

pub ready : (t : ℤ) (ws : List ℕ) (places w s d : ℕ) → unless_refused nothing_to_share_by t ws places (sum ws) ≡ Ok w → s ≡ unsigned_abs t → d ≡ max w 1 → Ready t ws places w s d
ready t ws places w s d h es ed =
    let a = accepted t ws places (sum ws) w h in
    let e : sum ws ≡ w = cc (h, accepts nothing_to_share_by t ws places (sum ws) (sum ws) (ap told h)) in
    record { answered = h; accepted = a; size = es; divisor = ed ∙ ap (λ n. max n 1) (sym e); size_small = omega (arith, es, a.limits.total_small) }

-- a call that was accepted and left its shares
pub shared_by : {t : ℤ} {ws : List ℕ} {w s d : ℕ} {shares : Shares} {before after : List ℤ} → Ready t ws (length before) w s d → after ≡ shares t ws → Shared nothing_to_share_by shares t ws before after (Ok tt)
shared_by {t} {ws} {w} {s} {d} {shares} {before} k e =
    let o = accepts nothing_to_share_by t ws (length before) (sum ws) (shares t ws) (ap told k.answered) in
    record { answered = rw o; left = rw o e }
