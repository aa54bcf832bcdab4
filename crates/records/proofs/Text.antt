-- The search for a byte, in the words of the definitions.
use Rattle.std.proofs.Common.{◌≡◌, ℕ, zero, suc, ◌+◌, ◌<◌, Bool, true, false, cond, ◌||◌, ◌==◌, List, [], ◌∷◌, length, get_or, take, drop, Some, None, position, refl, sym, ap, ◌∙◌, add-one, arith}
use Rattle.std.proofs.lemmas.List.Quantifiers.{position-Some}
use Rattle.std.proofs.lemmas.List.Recursion.{or_from_places}
use Rattle.std.proofs.lemmas.List.Sums.{fails_before_first}
use Rattle.std.proofs.lemmas.Bool.Decides.{nat_tests}
use Rattle.records.specs.Text.{has, before, after}

-- the first b stands at the place i
found : (b : ℕ) (t : List ℕ) (i : ℕ) → i < length t → (get_or t i 0 == b) ≡ true → ((k : ℕ) → k < i → (get_or t k 0 == b) ≡ false) → (has b t ≡ true) × (take i t ≡ before b t) × (drop (i + 1) t ≡ after b t)
found b [] i l y n = absurd (omega arith)
found b (c ∷ t) zero l y n = (simp y, simp y, simp y)
found b (c ∷ t) (suc i) l y n =
    let r = found b t i (omega arith) y (λ k h. n (suc k) (omega arith)) in
    let e : (c == b) ≡ false = n 0 (omega arith) in
    let d : drop (suc i + 1) (c ∷ t) ≡ drop (i + 1) t = ap (λ k. drop k (c ∷ t)) (add-one (suc i)) ∙ ap (λ k. drop k t) (sym (add-one i)) in
    (simp e r.0, simp e (ap (λ x. c ∷ x) r.1), simp e (d ∙ r.2))

pub split_there : (b : ℕ) (t : List ℕ) (i : ℕ) → Some i ≡ position (λ x. x == b) t → (has b t ≡ true) × (take i t ≡ before b t) × (drop (i + 1) t ≡ after b t)
split_there b t i h = let p = position-Some (λ x. x == b) t i 0 (sym h) in found b t i p.0 p.1 p.2

pub split_nowhere : (b : ℕ) (t : List ℕ) → None ≡ position (λ x. x == b) t → has b t ≡ false
split_nowhere b t h =
    or_from_places (has b) (λ x. x == b) refl (λ _ _. refl) t 0 (λ k l. fails_before_first (λ x. x == b) t k 0 (grind (arith, nat_tests)))

-- what follows a byte is shorter
shorter_at : (b : ℕ) (t : List ℕ) (e : Bool) → (e || has b t) ≡ true → (has b t ≡ true → length (after b t) < length t) → length (cond e t (after b t)) < suc (length t)
shorter_at b t true h more = omega arith
shorter_at b t false h more = let m = more h in omega arith

pub after_shorter : (b : ℕ) (t : List ℕ) → has b t ≡ true → length (after b t) < length t
after_shorter b [] h = cc
after_shorter b (c ∷ t) h = shorter_at b t (c == b) h (after_shorter b t)
