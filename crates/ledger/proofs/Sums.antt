-- The laws of sums over the numbers below n.
use Rattle.std.proofs.Common.{◌≡◌, ℕ, zero, suc, ◌+◌, ◌-◌, ◌<◌, ◌≤◌, ℤ, pos, ◌+ℤ◌, ◌-ℤ◌, map, sum, sym, refl, ap, ⊎_elim, add-one, arith}
use Rattle.std.proofs.lemmas.Int.{ints}
use Rattle.std.proofs.lemmas.Bool.{cases_eq}
use Rattle.std.proofs.lemmas.List.FromFn.{sum_by-map-range_with_len_more}
use Rattle.std.specs.List.{range_with_len}
use Rattle.ledger.specs.Sums.{sum_to, sumℤ_to}
use Rattle.ledger.specs.SumLaws.{Agree, AgreeBut, SumLaws}

-- naturals
pub sum_same : (n : ℕ) (f g : ℕ → ℕ) → Agree n f g → sum_to n f ≡ sum_to n g
sum_same zero f g h = refl
sum_same (suc n) f g h = omega (arith, sum_same n f g (λ k l. h k (omega arith)), h n (omega arith))

pub sum_none : (n : ℕ) (f : ℕ → ℕ) → ((k : ℕ) → k < n → f k ≡ 0) → sum_to n f ≡ 0
sum_none zero f h = refl
sum_none (suc n) f h = omega (arith, sum_none n f (λ k l. h k (omega arith)), h n (omega arith))

pub sum_add : (n : ℕ) (f g : ℕ → ℕ) → sum_to n (λ k. f k + g k) ≡ sum_to n f + sum_to n g
sum_add zero f g = refl
sum_add (suc n) f g = omega (arith, sum_add n f g)

pub sum_subtract : (n : ℕ) (f g : ℕ → ℕ) → ((k : ℕ) → k < n → g k ≤ f k) → sum_to n (λ k. f k - g k) + sum_to n g ≡ sum_to n f
sum_subtract zero f g h = refl
sum_subtract (suc n) f g h = omega (arith, sum_subtract n f g (λ k l. h k (omega arith)), h n (omega arith))

pub sum_swap : (m n : ℕ) (f : ℕ → ℕ → ℕ) → sum_to m (λ i. sum_to n (λ k. f i k)) ≡ sum_to n (λ k. sum_to m (λ i. f i k))
sum_swap zero n f = sym (sum_none n (λ k. 0) (λ k l. refl))
sum_swap (suc m) n f = omega (arith, sum_swap m n f, sum_add n (λ k. sum_to m (λ i. f i k)) (f m))

pub sum_change : (n i : ℕ) (f g : ℕ → ℕ) → i < n → AgreeBut n i f g → sum_to n f + g i ≡ sum_to n g + f i
sum_change zero i f g l h = absurd (omega arith)
sum_change (suc n) i f g l h =
    ⊎_elim
    (λ e. omega (arith, ap f e, ap g e, sum_same n f g (λ k b. h k (omega arith) (omega arith))))
    (λ ne. omega (arith, sum_change n i f g (omega arith) (λ k b. h k (omega arith)), h n (omega arith) (λ e. ne (sym e))))
    (cases_eq i n)

pub sum_term : (n i : ℕ) (f : ℕ → ℕ) → i < n → f i ≤ sum_to n f
sum_term zero i f l = absurd (omega arith)
sum_term (suc n) i f l =
    ⊎_elim (λ e. omega (arith, ap f e)) (λ ne. omega (arith, sum_term n i f (omega arith))) (cases_eq i n)

pub sum_at_most : (n : ℕ) (f g : ℕ → ℕ) → ((k : ℕ) → k < n → f k ≤ g k) → sum_to n f ≤ sum_to n g
sum_at_most zero f g h = omega arith
sum_at_most (suc n) f g h = omega (arith, sum_at_most n f g (λ k l. h k (omega arith)), h n (omega arith))

-- the sum of the list that a chain over the numbers below n gives
pub sum_of_range : (n : ℕ) (f : ℕ → ℕ) → sum (map f (range_with_len 0 n)) ≡ sum_to n f
sum_of_range zero f = refl
sum_of_range (suc n) f =
    let e : suc n ≡ n + 1 = omega arith in
    omega (arith, ap (λ k. sum (map f (range_with_len 0 k))) e, sum_by-map-range_with_len_more (λ x. x) f 0 n n (omega arith), sum_of_range n f)

-- integers
pub sumℤ_same : (n : ℕ) (f g : ℕ → ℤ) → Agree n f g → sumℤ_to n f ≡ sumℤ_to n g
sumℤ_same zero f g h = refl
sumℤ_same (suc n) f g h = let a = sumℤ_same n f g (λ k l. h k (omega arith)) in let b = h n (omega arith) in omega (arith, ints)

pub sumℤ_none : (n : ℕ) (f : ℕ → ℤ) → ((k : ℕ) → k < n → f k ≡ pos 0) → sumℤ_to n f ≡ pos 0
sumℤ_none zero f h = refl
sumℤ_none (suc n) f h = let a = sumℤ_none n f (λ k l. h k (omega arith)) in let b = h n (omega arith) in omega (arith, ints)

pub sumℤ_add : (n : ℕ) (f g : ℕ → ℤ) → sumℤ_to n (λ k. f k +ℤ g k) ≡ sumℤ_to n f +ℤ sumℤ_to n g
sumℤ_add zero f g = refl
sumℤ_add (suc n) f g = let a = sumℤ_add n f g in omega (arith, ints)

pub sumℤ_subtract : (n : ℕ) (f g : ℕ → ℤ) → sumℤ_to n (λ k. f k -ℤ g k) ≡ sumℤ_to n f -ℤ sumℤ_to n g
sumℤ_subtract zero f g = refl
sumℤ_subtract (suc n) f g = let a = sumℤ_subtract n f g in omega (arith, ints)

pub sumℤ_swap : (m n : ℕ) (f : ℕ → ℕ → ℤ) → sumℤ_to m (λ i. sumℤ_to n (λ k. f i k)) ≡ sumℤ_to n (λ k. sumℤ_to m (λ i. f i k))
sumℤ_swap zero n f = sym (sumℤ_none n (λ k. pos 0) (λ k l. refl))
sumℤ_swap (suc m) n f =
    let a = sumℤ_swap m n f in
    let b = sumℤ_add n (λ k. sumℤ_to m (λ i. f i k)) (f m) in
    omega (arith, ints)

pub sumℤ_change : (n i : ℕ) (f g : ℕ → ℤ) → i < n → AgreeBut n i f g → sumℤ_to n f +ℤ g i ≡ sumℤ_to n g +ℤ f i
sumℤ_change zero i f g l h = absurd (omega arith)
sumℤ_change (suc n) i f g l h =
    ⊎_elim
    (λ e. let a = ap f e in let b = ap g e in let s = sumℤ_same n f g (λ k b. h k (omega arith) (omega arith)) in omega (arith, ints))
    (λ ne. let a = sumℤ_change n i f g (omega arith) (λ k b. h k (omega arith)) in let b = h n (omega arith) (λ e. ne (sym e)) in omega (arith, ints))
    (cases_eq i n)

pub sumℤ_more : (n : ℕ) (f : ℕ → ℤ) → sumℤ_to (n + 1) f ≡ sumℤ_to n f +ℤ f n
sumℤ_more n f = rw add-one

pub sum_as_ℤ : (n : ℕ) (f : ℕ → ℕ) → sumℤ_to n (λ k. pos (f k)) ≡ pos (sum_to n f)
sum_as_ℤ zero f = refl
sum_as_ℤ (suc n) f = let a = sum_as_ℤ n f in omega (arith, ints)

pub sum_laws : SumLaws
sum_laws =
    record {
      same = sum_same;
      none = sum_none;
      add = sum_add;
      subtract = sum_subtract;
      swap = sum_swap;
      change = sum_change;
      term = sum_term;
      at_most = sum_at_most;
      sameℤ = sumℤ_same;
      noneℤ = sumℤ_none;
      addℤ = sumℤ_add;
      subtractℤ = sumℤ_subtract;
      swapℤ = sumℤ_swap;
      changeℤ = sumℤ_change;
      as_ℤ = sum_as_ℤ;
    }
