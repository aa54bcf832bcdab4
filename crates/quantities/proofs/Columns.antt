-- A quantity that was shared out and its users' column, under any lawful rule.
use Rattle.std.proofs.Common.{◌≡◌, ℕ, ◌≤◌, List, length, take, ℤ, nat_abs, Ok, Err, sym, ap, ◌∙◌, arith}
use Rattle.ledger.specs.Grounds.{told}
use Rattle.ledger.specs.Laws.{Lawful, Refuses, Shares, most_total, nothing_to_share_by, sumℤ}
use Rattle.ledger.specs.Sharing.{Shared, unless_refused}
use Rattle.ledger.specs.declared.rule.ShareFault.{ShareFault}
use Rattle.ledger.proofs.Lawful.{same_refusal}
use Rattle.ledger.specs.Limits.{limited}
use Rattle.ledger.specs.Outcomes.{accepts, rejects, given, refused}
use Rattle.ledger.proofs.SameSide.{front_within}

module _ {refuses : Refuses} {shares : Shares} (lawful : Lawful refuses shares) {q : ℤ} {ws : List ℕ} {before column : List ℤ} where
  pub fronts_small : (u : Unit {0}) → Shared refuses shares q ws before column (Ok u) → (n : ℕ) → nat_abs (sumℤ (take n column)) ≤ most_total
  fronts_small u s n =
      let h = given u s in
      let few = limited q ws h.taken.0 in
      let e : nat_abs (sumℤ (take n column)) ≡ nat_abs (sumℤ (take n (shares q ws))) = ap (λ xs. nat_abs (sumℤ (take n xs))) h.shared in
      omega (arith, few.total_small, front_within lawful ws q n h.taken)

  pub column_adds_up : (u : Unit {0}) → Shared refuses shares q ws before column (Ok u) → sumℤ column ≡ q
  column_adds_up u s = let h = given u s in ap sumℤ h.shared ∙ lawful.shares_add_up q ws h.taken

  pub answers_quantity : (u : Unit {0}) → Shared refuses shares q ws before column (Ok u) → Ok q ≡ unless_refused nothing_to_share_by q ws (length before) q
  answers_quantity u s = sym (accepts refuses q ws (length before) (shares q ws) q (ap told (given u s).resolved)) ∙ same_refusal lawful q ws (length before) q

  pub answers_fault : (e : ShareFault) → Shared refuses shares q ws before column (Err e) → Err e ≡ unless_refused nothing_to_share_by q ws (length before) q
  answers_fault e s = sym (rejects refuses q ws (length before) (shares q ws) q e (ap told (refused e s).0)) ∙ same_refusal lawful q ws (length before) q
