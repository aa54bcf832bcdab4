-- What is known where nothing was refused.
use Rattle.std.specs.Prelude.{◌≡◌, ℕ, zero, suc, ◌+◌, ◌<◌, Bool, true, false, not, Some, None, Ok, Err, Option, Result, refl}
use Rattle.std.proofs.Common.{sym, ap, ◌∙◌, ⊎_elim, arith, add-one}
use Rattle.std.proofs.lemmas.Bool.{and_parts, and_from, and_left, and_right, cases_eq}
use Rattle.ledger.specs.Grounds.{demand, ask, all_to}

-- what was refused was not accepted
pub never : {X Y F : Type 0} (e : F) (y : Y) → ◌≡◌ {A = Result Y F} (Err e) (Ok y) → X
never e y h = let z : ◌≡◌ {A = ℕ} 0 1 = cc in absurd (omega arith)

pub demanded : {Y F : Type 0} (b : Bool) (e : F) (r : Result Y F) (y : Y) → demand b e r ≡ Ok y → (b ≡ true) × (r ≡ Ok y)
demanded true e r y h = (refl, h)
demanded false e r y h = never e y h

pub asked : {X Y F : Type 0} (o : Option X) (e : F) (k : X → Result Y F) (y : Y) → ask o e k ≡ Ok y → (x : X) × (o ≡ Some x) × (k x ≡ Ok y)
asked (Some x) e k y h = (x, refl, h)
asked None e k y h = never e y h

pub off : (b : Bool) → not b ≡ true → b ≡ false
off true h = sym h
off false h = refl

-- a test of each number below n
pub all_fails : (p : ℕ → Bool) (n k : ℕ) → k < n → p k ≡ false → all_to n p ≡ false
all_fails p zero k l h = absurd (omega arith)
all_fails p (suc n) k l h = ⊎_elim (λ e. and_right _ _ (ap p (sym e) ∙ h)) (λ ne. and_left _ _ (all_fails p n k (omega arith) h)) (cases_eq k n)

pub all_more : (p : ℕ → Bool) (n : ℕ) → all_to n p ≡ true → p n ≡ true → all_to (n + 1) p ≡ true
all_more p n a b = rw add-one (and_from _ _ a b)

pub all_at : (p : ℕ → Bool) (n k : ℕ) → all_to n p ≡ true → k < n → p k ≡ true
all_at p zero k a l = absurd (omega arith)
all_at p (suc n) k a l =
    let r = and_parts _ _ a in
    ⊎_elim (λ e. ap p e ∙ r.1) (λ ne. all_at p n k r.0 (omega arith)) (cases_eq k n)
