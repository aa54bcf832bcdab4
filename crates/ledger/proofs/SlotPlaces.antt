-- Where a record is, and where one goes: the definitions beside what the library's searches answer.
use Rattle.std.proofs.Common.{◌≡◌, ℕ, suc, ◌+◌, Bool, true, false, cond, not, ltb, List, [], ◌∷◌, length, Some, None, Err, Option, Result, set, sym, refl, ap, ◌∙◌, arith}
use Rattle.std.specs.List.{find, position, position_or_len}
use Rattle.std.specs.Option.{option_or, option_flatten}
use Rattle.std.proofs.lemmas.Option.{cond_some}
use Rattle.ledger.specs.declared.register.Full.{Full}
use Rattle.ledger.specs.Slots.{first_at, filled, free, found, place_in, put_place, put_answer, put_after}

first_is : {X : Type 0} (p : X → Bool) (xs : List X) → first_at p xs ≡ position_or_len p xs
first_is p [] = refl
first_is p (x ∷ xs) = go (first_is p xs) (p x)
  where
    go : first_at p xs ≡ position_or_len p xs → (t : Bool) → cond t 0 (suc (first_at p xs)) ≡ cond (not t) (1 + position_or_len p xs) 0
    go ih true = refl
    go ih false = omega (arith, ih)

-- the first that passes, if one does
pub place_first : {X : Type 0} (p : X → Bool) (xs : List X) → position p xs ≡ place_in xs (first_at p xs)
place_first p xs = ap (place_in xs) (sym (first_is p xs))

-- the first slot with the key, else the first free one
pub place_is : {R : Type 0} (p : R → Bool) (xs : List (Option R)) (a b : Option ℕ) → a ≡ position (filled p) xs → b ≡ position free xs → option_or a b ≡ place_in xs (put_place p xs)
place_is p xs a b e f = ap (λ o. option_or o b) (e ∙ place_first (filled p) xs) ∙ (ap (option_or (place_in xs (first_at (filled p) xs))) (f ∙ place_first free xs) ∙ go (first_at (filled p) xs) (first_at free xs) (ltb (first_at (filled p) xs) (length xs)) refl)
  where
    go : (i j : ℕ) (t : Bool) → ltb i (length xs) ≡ t → option_or (place_in xs i) (place_in xs j) ≡ place_in xs (cond (ltb i (length xs)) i j)
    go i j true h = simp h refl
    go i j false h = simp h refl

pub place_key : {R : Type 0} (p : R → Bool) (xs : List (Option R)) (i : ℕ) → Some i ≡ position (filled p) xs → Some i ≡ place_in xs (put_place p xs)
place_key p xs i e = place_is p xs (Some i) (position free xs) e refl

pub place_free : {R : Type 0} (p : R → Bool) (xs : List (Option R)) → None ≡ position (filled p) xs → position free xs ≡ place_in xs (put_place p xs)
place_free p xs e = place_is p xs None (position free xs) e refl

pub found_is : {R : Type 0} (p : R → Bool) (xs : List (Option R)) → option_flatten (find (filled p) xs) ≡ found p xs
found_is p [] = refl
found_is p (x ∷ xs) = go (found_is p xs) (filled p x)
  where
    go : option_flatten (find (filled p) xs) ≡ found p xs → (t : Bool) → option_flatten (cond t (Some x) (find (filled p) xs)) ≡ cond t x (found p xs)
    go ih true = refl
    go ih false = ih

-- what a put does with its place
module _ {R : Type 0} (p : R → Bool) (xs : List (Option R)) where
  pub put_there : (r : R) (i : ℕ) → Some i ≡ place_in xs (put_place p xs) → set xs i (Some r) ≡ put_after p r xs
  put_there r i e =
      let h = cond_some _ _ _ (sym e) in
      simp h.0 (ap (λ n. set xs n (Some r)) (sym h.1))

  nowhere : (i : ℕ) → None ≡ place_in xs i → ltb i (length xs) ≡ false
  nowhere i e = go (ltb i (length xs)) refl e
    where
      go : (t : Bool) → ltb i (length xs) ≡ t → None ≡ cond t (Some i) None → ltb i (length xs) ≡ false
      go true f h = let x : ◌≡◌ {A = ℕ} 0 1 = cc in absurd (omega arith)
      go false f h = f

  pub put_nowhere : (r : R) → None ≡ place_in xs (put_place p xs) → xs ≡ put_after p r xs
  put_nowhere r e = simp (nowhere (put_place p xs) e) refl

  pub told_full : None ≡ place_in xs (put_place p xs) → ◌≡◌ {A = Result (Unit {0}) Full} (Err (record {})) (put_answer p xs)
  told_full e = simp (nowhere (put_place p xs) e) refl
