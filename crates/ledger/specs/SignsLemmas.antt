-- A rule that divides sizes, with the total's sign put on, keeps the laws.
use Rattle.std.specs.Prelude.{◌≡◌, ℕ, zero, suc, ◌+◌, ◌*◌, ◌<◌, ◌≤◌, List, [], ◌∷◌, map, length, ℤ, pos, negsuc, ◌+ℤ◌, ◌-ℤ◌, ◌*ℤ◌, ◌≤ℤ◌, sum, slice_index, unsigned_abs, refl}
use Rattle.std.proofs.Common.{sym, ap, ◌∙◌, arith}
use Rattle.std.proofs.lemmas.List.{length-map, get_or-map}
use Rattle.std.proofs.lemmas.List.Sums.{sum_by-cons, get_or-le-sum_by}
use Rattle.std.proofs.lemmas.Int.{ints}
use Rattle.ledger.specs.Laws.{Lawful, Shares, nothing_to_share_by, sumℤ, at}
use Rattle.ledger.specs.Signs.{signed}
use Rattle.ledger.specs.Limits.{Divisible, divisible}

-- ---- signs
signed_abs : (t : ℤ) → signed t (unsigned_abs t) ≡ t
signed_abs (pos m) = refl
signed_abs (negsuc m) = refl

signed_zero : (t : ℤ) → signed t 0 ≡ pos 0
signed_zero (pos m) = refl
signed_zero (negsuc m) = refl

signed_add : (t : ℤ) (a b : ℕ) → signed t a +ℤ signed t b ≡ signed t (a + b)
signed_add (pos m) a b = refl
signed_add (negsuc m) a b = omega (arith, ints)

signed_sum : (t : ℤ) (gs : List ℕ) → sumℤ (map (signed t) gs) ≡ signed t (sum gs)
signed_sum t [] = sym (signed_zero t)
signed_sum t (g ∷ gs) = ap (λ z. signed t g +ℤ z) (signed_sum t gs) ∙ signed_add t g (sum gs) ∙ ap (signed t) (sym (sum_by-cons (λ x. x) g gs))

signed_not_below : (t : ℤ) (n : ℕ) → pos 0 ≤ℤ t → pos 0 ≤ℤ signed t n
signed_not_below (pos m) n h = record { le = omega (arith, ints) }
signed_not_below (negsuc m) n h = absurd h.le

signed_not_above : (t : ℤ) (n : ℕ) → t ≤ℤ pos 0 → n ≤ unsigned_abs t → signed t n ≤ℤ pos 0
signed_not_above (pos m) n h z = omega (arith, ints)
signed_not_above (negsuc m) n h z = omega (arith, ints)

-- ---- what a rule owes for sizes
-- g is nearer to s * x / w than 1
abbrev pub Near : (s w x g : ℕ) → Type 0
Near s w x g = (g * w < s * x + w) × (s * x < g * w + w)

pub record Parts (parts : ℕ → List ℕ → List ℕ) : Type 0 where
  pub one_each : (s : ℕ) (ws : List ℕ) → length (parts s ws) ≡ length ws
  pub adds_up : (s : ℕ) (ws : List ℕ) → (sum ws ≡ 0 → s ≡ 0) → sum (parts s ws) ≡ s
  pub near : (s : ℕ) (ws : List ℕ) (k : ℕ) → 0 < sum ws → k < length ws → Near s (sum ws) (slice_index ws k) (slice_index (parts s ws) k)
  pub none : (s : ℕ) (ws : List ℕ) (k : ℕ) → (sum ws ≡ 0 → s ≡ 0) → k < length ws → slice_index ws k ≡ 0 → slice_index (parts s ws) k ≡ 0

signed_near : (t : ℤ) (w x g : ℕ) → Near (unsigned_abs t) w x g → unsigned_abs (signed t g *ℤ pos w -ℤ t *ℤ pos x) < w
signed_near (pos m) w x g n = omega (arith, ints)
signed_near (negsuc m) w x zero n = omega (arith, ints)
signed_near (negsuc m) w x (suc g) n = omega (arith, ints)

abbrev with_signs : (ℕ → List ℕ → List ℕ) → Shares
with_signs parts t ws = map (signed t) (parts (unsigned_abs t) ws)

module _ {parts : ℕ → List ℕ → List ℕ} (p : Parts parts) where
  at_place : (t : ℤ) (ws : List ℕ) (k : ℕ) → k < length ws → at (with_signs parts t ws) k ≡ signed t (slice_index (parts (unsigned_abs t) ws) k)
  at_place t ws k l = get_or-map (signed t) _ k 0 (pos 0) (omega (arith, p.one_each (unsigned_abs t) ws))

  sizes : (t : ℤ) (ws : List ℕ) → Divisible t ws → sum (parts (unsigned_abs t) ws) ≡ unsigned_abs t
  sizes t ws d = p.adds_up (unsigned_abs t) ws (λ e. ap unsigned_abs (d e))

  le_size : (t : ℤ) (ws : List ℕ) (k : ℕ) → Divisible t ws → k < length ws → slice_index (parts (unsigned_abs t) ws) k ≤ unsigned_abs t
  le_size t ws k d l = omega (arith, sizes t ws d, get_or-le-sum_by (λ x. x) (parts (unsigned_abs t) ws) k 0 (omega (arith, p.one_each (unsigned_abs t) ws)))

  nothing : (t : ℤ) (ws : List ℕ) (k : ℕ) → Divisible t ws → k < length ws → slice_index ws k ≡ 0 → at (with_signs parts t ws) k ≡ pos 0
  nothing t ws k d l e = at_place t ws k l ∙ ap (signed t) (p.none (unsigned_abs t) ws k (λ z. ap unsigned_abs (d z)) l e) ∙ signed_zero t

  pub lawful_parts : Lawful nothing_to_share_by (with_signs parts)
  lawful_parts = record {
    one_share_each = λ t ws _. length-map _ (signed t) ∙ p.one_each (unsigned_abs t) ws;
    shares_add_up = λ t ws h. signed_sum t (parts (unsigned_abs t) ws) ∙ ap (signed t) (sizes t ws (divisible t ws h.1)) ∙ signed_abs t;
    shares_are_proportional = λ t ws k _ h l. rw (at_place t ws k l) (signed_near t (sum ws) (slice_index ws k) _ (p.near (unsigned_abs t) ws k h l));
    shares_keep_their_side = record {
      no_weight_no_share = λ t ws k h l e. nothing t ws k (divisible t ws h.1) l e;
      same_side = λ t ws k h l. record {
        not_below = λ b. rw (at_place t ws k l) (signed_not_below t _ b);
        not_above = λ b. rw (at_place t ws k l) (signed_not_above t _ b (le_size t ws k (divisible t ws h.1) l));
      };
    };
    refuses_only_without_weight = record {
      exactly = λ t ws _. refl;
      nothing_of_nothing = λ ws k _ e l. nothing (pos 0) ws k (λ _. refl) l (omega (arith, e, get_or-le-sum_by (λ x. x) ws k 0 l));
    };
  }
