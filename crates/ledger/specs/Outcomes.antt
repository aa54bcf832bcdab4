-- The two ways a call of a share rule can go, and what is known on each.
use Rattle.std.specs.Prelude.{◌≡◌, ℕ, Bool, true, false, not, ◌&&◌, List, length, ℤ, Ok, Err, ◌==◌, refl}
use Rattle.std.proofs.Common.{sym, ap, ◌∙◌}
use Rattle.std.proofs.lemmas.Bool.{and_parts}
use Rattle.ledger.specs.Grounds.{demand, told, on_ok}
use Rattle.ledger.specs.Laws.{Refuses, Shares, Takes, in_limits}
use Rattle.ledger.specs.Sharing.{Shared, outcome, unless_refused}
use Rattle.ledger.specs.declared.rule.ShareFault.{ShareFault}
use Rattle.ledger.specs.declared.rule.ShareFault.TheVariants.{OutsideLimits, NothingToShareBy}
use Rattle.ledger.specs.GroundsLemmas.{demanded, never, off}

module _ {X Y : Type 0} (refuses : Refuses) (t : ℤ) (ws : List ℕ) (places : ℕ) (x : X) (y : Y) where
  -- whatever a call would answer, it answers where another is accepted
  pub accepts : told (unless_refused refuses t ws places x) ≡ Ok tt → unless_refused refuses t ws places y ≡ Ok y
  accepts = go (in_limits t ws && places == length ws) (not (refuses t ws))
    where
      go : (a b : Bool) → told (demand a OutsideLimits (demand b NothingToShareBy (Ok x))) ≡ Ok tt → demand a OutsideLimits (demand b NothingToShareBy (Ok y)) ≡ Ok y
      go true true h = refl
      go true false h = never _ _ h
      go false b h = never _ _ h

  -- and is refused as another is
  pub rejects : (e : ShareFault) → told (unless_refused refuses t ws places x) ≡ Err e → unless_refused refuses t ws places y ≡ Err e
  rejects e = go (in_limits t ws && places == length ws) (not (refuses t ws))
    where
      go : (a b : Bool) → told (demand a OutsideLimits (demand b NothingToShareBy (Ok x))) ≡ Err e → demand a OutsideLimits (demand b NothingToShareBy (Ok y)) ≡ Err e
      go true true h = never _ _ (sym h)
      go true false h = cc
      go false b h = cc

-- what is known of a total and weights that are taken
pub takes : {Y : Type 0} (refuses : Refuses) (t : ℤ) (ws : List ℕ) (places : ℕ) (x y : Y) → unless_refused refuses t ws places x ≡ Ok y → Takes refuses t ws
takes refuses t ws places x y h =
    let a = demanded (in_limits t ws && places == length ws) _ _ _ h in
    let b = demanded (not (refuses t ws)) _ _ _ a.1 in
    ((and_parts _ _ a.0).0, off (refuses t ws) b.0)

-- an accepted call leaves the rule's shares
pub record Given (refuses : Refuses) (shares : Shares) (t : ℤ) (ws : List ℕ) (before after : List ℤ) : Type 0 where
  pub resolved : outcome refuses shares t ws (length before) ≡ Ok (shares t ws)
  pub taken : Takes refuses t ws
  pub shared : after ≡ shares t ws

module _ {refuses : Refuses} {shares : Shares} {t : ℤ} {ws : List ℕ} {before after : List ℤ} where
  pub given : (u : Unit {0}) → Shared refuses shares t ws before after (Ok u) → Given refuses shares t ws before after
  given u h =
      let o = accepts refuses t ws (length before) (shares t ws) (shares t ws) (sym h.answered) in
      record { resolved = o; taken = takes refuses t ws (length before) _ _ o; shared = h.left ∙ ap (λ r. on_ok r (λ given. given) before) o }

  -- a refused one leaves all as it was
  pub refused : (e : ShareFault) → Shared refuses shares t ws before after (Err e) → (outcome refuses shares t ws (length before) ≡ Err e) × (after ≡ before)
  refused e h =
      let o = rejects refuses t ws (length before) (shares t ws) (shares t ws) e (sym h.answered) in
      (o, h.left ∙ ap (λ r. on_ok r (λ given. given) before) o)
