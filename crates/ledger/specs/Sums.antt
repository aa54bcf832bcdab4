-- Sums over the numbers below n of a function of them.
use Rattle.std.specs.Prelude.{ℕ, zero, suc, ◌+◌, List, ℤ, pos, ◌+ℤ◌, fold}

-- f 0 + .. + f (n - 1)
abbrev pub sum_to : ℕ → (ℕ → ℕ) → ℕ
sum_to zero f = 0
sum_to (suc n) f = sum_to n f + f n

abbrev pub sumℤ_to : ℕ → (ℕ → ℤ) → ℤ
sumℤ_to zero f = pos 0
sumℤ_to (suc n) f = sumℤ_to n f +ℤ f n

-- the sum of f over a list
abbrev pub sumℤ_by : {X : Type 0} → (X → ℤ) → List X → ℤ
sumℤ_by f xs = fold (λ a x. a +ℤ f x) (pos 0) xs
