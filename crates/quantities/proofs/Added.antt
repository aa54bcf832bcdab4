-- The sum of a column by the library's method, where each front of the column has a small sum.
use Rattle.std.proofs.Common.{◌≡◌, ℕ, ◌≤◌, List, [], ◌∷◌, length, take, ℤ, pos, ◌+ℤ◌, nat_abs, FitsSigned, w64, Option, subst, sym, ap, ◌∙◌, arith}
use Rattle.std.proofs.lemmas.List.{map-id}
use Rattle.std.proofs.lemmas.Int.{ints}
use Rattle.std.proofs.lemmas.Iterator.{YieldsList}
use Rattle.std.proofs.lemmas.Iterator.Consumers.{YieldsList-so_far}
use Rattle.std.specs.Iterator.{Yields}
use Rattle.std.specs.Iterator.Runs.{EachRunFrom, YieldsRun}
use Rattle.std.specs.List.{fold}
use Rattle.ledger.specs.Laws.{most_total, sumℤ}

pub fold_is_sum : (a : ℤ) (xs : List ℤ) → fold ◌+ℤ◌ a xs ≡ a +ℤ sumℤ xs
fold_is_sum a [] = omega (arith, ints)
fold_is_sum a (x ∷ xs) = omega (arith, ints, fold_is_sum (a +ℤ x) xs)

small_fits : (z : ℤ) → nat_abs z ≤ most_total → FitsSigned w64 z
small_fits z h = omega (arith, ints)

module _ {S : Type 0} {steps : S → Option ℤ → S → Type 0} {s : S} {column : List ℤ} (road : YieldsList steps (λ x. x) s column) where
  pub sum_fits : ((n : ℕ) → nat_abs (sumℤ (take n column)) ≤ most_total) → EachRunFrom steps s (λ p. FitsSigned w64 (fold ◌+ℤ◌ (pos 0) p.items))
  unfolding YieldsRun
  sum_fits small = λ p _ at.
      let front = sym (map-id p.items) ∙ YieldsList-so_far road p.items p.gave.0.0 (subst (λ u. Yields steps u p.items p.gave.0.0) at p.gave.0.1) in
      let e : fold ◌+ℤ◌ (pos 0) p.items ≡ sumℤ (take (length p.items) column) = fold_is_sum (pos 0) p.items ∙ omega (arith, ints) ∙ ap sumℤ front in
      subst (λ z. FitsSigned w64 z) (sym e) (small_fits _ (small (length p.items)))
