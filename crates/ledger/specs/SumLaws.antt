-- The laws of sums over the numbers below n, of naturals and of integers.
use Rattle.std.specs.Prelude.{◌≡◌, ℕ, ◌+◌, ◌-◌, ◌<◌, ◌≤◌, ℤ, pos, ◌+ℤ◌, ◌-ℤ◌, ◌≢◌}
use Rattle.ledger.specs.Sums.{sum_to, sumℤ_to}

-- two functions of an index that agree below n
abbrev pub Agree : {Y : Type 0} → ℕ → (ℕ → Y) → (ℕ → Y) → Type 0
Agree n f g = (k : ℕ) → k < n → f k ≡ g k

-- .. that agree below n but at i
abbrev pub AgreeBut : {Y : Type 0} → ℕ → ℕ → (ℕ → Y) → (ℕ → Y) → Type 0
AgreeBut n i f g = (k : ℕ) → k < n → (k ≢ i) → f k ≡ g k

pub record SumLaws : Type 0 where
  pub same : (n : ℕ) (f g : ℕ → ℕ) → Agree n f g → sum_to n f ≡ sum_to n g
  pub none : (n : ℕ) (f : ℕ → ℕ) → ((k : ℕ) → k < n → f k ≡ 0) → sum_to n f ≡ 0
  pub add : (n : ℕ) (f g : ℕ → ℕ) → sum_to n (λ k. f k + g k) ≡ sum_to n f + sum_to n g
  pub subtract : (n : ℕ) (f g : ℕ → ℕ) → ((k : ℕ) → k < n → g k ≤ f k) → sum_to n (λ k. f k - g k) + sum_to n g ≡ sum_to n f
  pub swap : (m n : ℕ) (f : ℕ → ℕ → ℕ) → sum_to m (λ i. sum_to n (λ k. f i k)) ≡ sum_to n (λ k. sum_to m (λ i. f i k))
  pub change : (n i : ℕ) (f g : ℕ → ℕ) → i < n → AgreeBut n i f g → sum_to n f + g i ≡ sum_to n g + f i
  pub term : (n i : ℕ) (f : ℕ → ℕ) → i < n → f i ≤ sum_to n f
  pub at_most : (n : ℕ) (f g : ℕ → ℕ) → ((k : ℕ) → k < n → f k ≤ g k) → sum_to n f ≤ sum_to n g
  pub sameℤ : (n : ℕ) (f g : ℕ → ℤ) → Agree n f g → sumℤ_to n f ≡ sumℤ_to n g
  pub noneℤ : (n : ℕ) (f : ℕ → ℤ) → ((k : ℕ) → k < n → f k ≡ pos 0) → sumℤ_to n f ≡ pos 0
  pub addℤ : (n : ℕ) (f g : ℕ → ℤ) → sumℤ_to n (λ k. f k +ℤ g k) ≡ sumℤ_to n f +ℤ sumℤ_to n g
  pub subtractℤ : (n : ℕ) (f g : ℕ → ℤ) → sumℤ_to n (λ k. f k -ℤ g k) ≡ sumℤ_to n f -ℤ sumℤ_to n g
  pub swapℤ : (m n : ℕ) (f : ℕ → ℕ → ℤ) → sumℤ_to m (λ i. sumℤ_to n (λ k. f i k)) ≡ sumℤ_to n (λ k. sumℤ_to m (λ i. f i k))
  pub changeℤ : (n i : ℕ) (f g : ℕ → ℤ) → i < n → AgreeBut n i f g → sumℤ_to n f +ℤ g i ≡ sumℤ_to n g +ℤ f i
  -- a sum of naturals as a sum of integers
  pub as_ℤ : (n : ℕ) (f : ℕ → ℕ) → sumℤ_to n (λ k. pos (f k)) ≡ pos (sum_to n f)
