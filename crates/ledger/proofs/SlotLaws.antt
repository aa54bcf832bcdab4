-- What is found in slots after a record was put, and after a group was taken out.
use Rattle.std.proofs.Common.{◌≡◌, ℕ, zero, suc, ◌<◌, ◌≤◌, Bool, true, false, cond, ltb, ◌⊎◌, List, [], ◌∷◌, length, get_or, set, Some, None, Ok, Err, Decides, Option, Result, sym, refl, ap, ◌∙◌, subst, inl, inr, ⊎_elim, arith}
use Rattle.std.proofs.lemmas.List.{length-set, length-map, get_or-set_other}
use Rattle.std.proofs.lemmas.Bool.{cases_lt, cases_Bool, lt-ltb, le-ltb, ltb-true, ltb-false, cond-true, cond-false, both_ways}
use Rattle.ledger.specs.declared.register.Full.{Full}
use Rattle.ledger.specs.Slots.{first_at, filled, free, put_place, put_answer, put_after, found, freed, taken_out}
use Rattle.ledger.specs.SlotLaws.{Slots, own, RegisterLaws}

-- the first that passes a test
module _ {X : Type 0} (p : X → Bool) where
  first_passes : (xs : List X) (d : X) → first_at p xs < length xs → p (get_or xs (first_at p xs) d) ≡ true
  first_passes [] d h = absurd (omega arith)
  first_passes (x ∷ xs) d h = go (first_passes xs d) (p x) refl h
    where
      go : (first_at p xs < length xs → p (get_or xs (first_at p xs) d) ≡ true) → (t : Bool) → p x ≡ t → cond t 0 (suc (first_at p xs)) < suc (length xs) → p (get_or (x ∷ xs) (cond t 0 (suc (first_at p xs))) d) ≡ true
      go ih true e l = e
      go ih false e l = ih (omega arith)

  none_passes : (xs : List X) (d : X) → length xs ≤ first_at p xs → (i : ℕ) → i < length xs → p (get_or xs i d) ≡ false
  none_passes [] d h i l = absurd (omega arith)
  none_passes (x ∷ xs) d h i l = go (none_passes xs d) (p x) refl h i l
    where
      go : (length xs ≤ first_at p xs → (i : ℕ) → i < length xs → p (get_or xs i d) ≡ false) → (t : Bool) → p x ≡ t → suc (length xs) ≤ cond t 0 (suc (first_at p xs)) → (i : ℕ) → i < suc (length xs) → p (get_or (x ∷ xs) i d) ≡ false
      go ih true e o i l = absurd (omega arith)
      go ih false e o zero l = e
      go ih false e o (suc i) l = ih (omega arith) i (omega arith)

-- what is found
module _ {R : Type 0} (p : R → Bool) where
  found_passes : (xs : Slots R) (r : R) → found p xs ≡ Some r → p r ≡ true
  found_passes [] r h = let z : ◌≡◌ {A = ℕ} 0 1 = cc in absurd (omega arith)
  found_passes (x ∷ xs) r h = go (found_passes xs r) x (filled p x) refl h
    where
      go : (found p xs ≡ Some r → p r ≡ true) → (y : Option R) (t : Bool) → filled p y ≡ t → cond t y (found p xs) ≡ Some r → p r ≡ true
      go ih (Some s) true e l = let same : s ≡ r = cc in subst (λ q. p q ≡ true) same e
      go ih None true e l = absurd (both_ways false refl e)
      go ih y false e l = ih l

  found_none : (xs : Slots R) → length xs ≤ first_at (filled p) xs → found p xs ≡ None
  found_none [] h = refl
  found_none (x ∷ xs) h = go (found_none xs) (filled p x) refl h
    where
      go : (length xs ≤ first_at (filled p) xs → found p xs ≡ None) → (t : Bool) → filled p x ≡ t → suc (length xs) ≤ cond t 0 (suc (first_at (filled p) xs)) → cond t x (found p xs) ≡ None
      go ih true e l = absurd (omega arith)
      go ih false e l = ih (omega arith)

  found_set : (xs : Slots R) (i : ℕ) (r : R) → p r ≡ true → i ≤ first_at (filled p) xs → i < length xs → found p (set xs i (Some r)) ≡ Some r
  found_set [] i r e l h = absurd (omega arith)
  found_set (x ∷ xs) zero r e l h = cond-true (p r) (Some r) (found p xs) e
  found_set (x ∷ xs) (suc i) r e l h = go (found_set xs i r e) (filled p x) l
    where
      go : (i ≤ first_at (filled p) xs → i < length xs → found p (set xs i (Some r)) ≡ Some r) → (t : Bool) → suc i ≤ cond t 0 (suc (first_at (filled p) xs)) → cond t x (found p (set xs i (Some r))) ≡ Some r
      go ih true o = absurd (omega arith)
      go ih false o = ih (omega arith) (omega arith)

  found_set_other : (xs : Slots R) (i : ℕ) (r : R) → p r ≡ false → filled p (get_or xs i None) ≡ false → found p (set xs i (Some r)) ≡ found p xs
  found_set_other [] i r e h = refl
  found_set_other (x ∷ xs) zero r e h = cond-false (p r) (Some r) (found p xs) e ∙ sym (cond-false (filled p x) x (found p xs) h)
  found_set_other (x ∷ xs) (suc i) r e h = ap (λ y. cond (filled p x) x y) (found_set_other xs i r e h)

-- what is found after the records were taken out that pass q
module _ {R : Type 0} (p q : R → Bool) where
  taken_none : ((r : R) → p r ≡ true → q r ≡ true) → (xs : Slots R) → found p (taken_out q xs) ≡ None
  taken_none h [] = refl
  taken_none h (None ∷ xs) = taken_none h xs
  taken_none h (Some r ∷ xs) = go (taken_none h xs) (q r) refl
    where
      go : found p (taken_out q xs) ≡ None → (t : Bool) → q r ≡ t → cond (filled p (cond t None (Some r))) (cond t None (Some r)) (found p (taken_out q xs)) ≡ None
      go ih true e = ih
      go ih false e =
          let no : p r ≡ false = ⊎_elim (λ y. absurd (both_ways (q r) e (h r y))) (λ n. n) (cases_Bool (p r)) in
          cond-false (p r) (Some r) (found p (taken_out q xs)) no ∙ ih

  taken_same : ((r : R) → p r ≡ true → q r ≡ false) → (xs : Slots R) → found p (taken_out q xs) ≡ found p xs
  taken_same h [] = refl
  taken_same h (None ∷ xs) = taken_same h xs
  taken_same h (Some r ∷ xs) = go (taken_same h xs) (q r) refl
    where
      go : found p (taken_out q xs) ≡ found p xs → (t : Bool) → q r ≡ t → cond (filled p (cond t None (Some r))) (cond t None (Some r)) (found p (taken_out q xs)) ≡ cond (p r) (Some r) (found p xs)
      go ih true e =
          let no : p r ≡ false = ⊎_elim (λ y. absurd (both_ways (q r) (h r y) e)) (λ n. n) (cases_Bool (p r)) in
          ih ∙ sym (cond-false (p r) (Some r) (found p xs) no)
      go ih false e = ap (λ y. cond (p r) (Some r) y) ih

module _ {R : Type 0} (q : R → Bool) where
  freed_free : (x : Option R) → filled q x ≡ true → free (freed q x) ≡ true
  freed_free (Some r) h = ap free (cond-true (q r) None (Some r) h)
  freed_free None h = refl

  freed_same : (x : Option R) → filled q x ≡ false → freed q x ≡ x
  freed_same (Some r) h = cond-false (q r) None (Some r) h
  freed_same None h = refl

  get_or_taken : (xs : Slots R) (i : ℕ) → get_or (taken_out q xs) i None ≡ freed q (get_or xs i None)
  get_or_taken [] i = refl
  get_or_taken (x ∷ xs) zero = refl
  get_or_taken (x ∷ xs) (suc i) = get_or_taken xs i

-- where a record goes
module _ {R : Type 0} (p : R → Bool) (xs : Slots R) where
  place_with_key : first_at (filled p) xs < length xs → put_place p xs ≡ first_at (filled p) xs
  place_with_key h = cond-true _ _ _ (lt-ltb _ _ h)

  place_new : length xs ≤ first_at (filled p) xs → put_place p xs ≡ first_at free xs
  place_new h = cond-false _ _ _ (le-ltb _ _ h)

  place_early : put_place p xs < length xs → put_place p xs ≤ first_at (filled p) xs
  place_early h = ⊎_elim (λ l. omega (arith, place_with_key l)) (λ o. omega arith) (cases_lt (first_at (filled p) xs) (length xs))

  -- the slot there is free or has the key
  place_fits : put_place p xs < length xs → (free (get_or xs (put_place p xs) None) ≡ true) ⊎ (filled p (get_or xs (put_place p xs) None) ≡ true)
  place_fits h = ⊎_elim with_key new (cases_lt (first_at (filled p) xs) (length xs))
    where
      with_key : first_at (filled p) xs < length xs → (free (get_or xs (put_place p xs) None) ≡ true) ⊎ (filled p (get_or xs (put_place p xs) None) ≡ true)
      with_key l = inr (subst (λ i. filled p (get_or xs i None) ≡ true) (sym (place_with_key l)) (first_passes (filled p) xs None l))

      new : length xs ≤ first_at (filled p) xs → (free (get_or xs (put_place p xs) None) ≡ true) ⊎ (filled p (get_or xs (put_place p xs) None) ≡ true)
      new o = inl (subst (λ i. free (get_or xs i None) ≡ true) (sym (place_new o)) (first_passes free xs None (omega (arith, place_new o))))

  put_inside : (r : R) → put_place p xs < length xs → put_after p r xs ≡ set xs (put_place p xs) (Some r)
  put_inside r h = cond-true _ _ _ (lt-ltb _ _ h)

  put_outside : (r : R) → length xs ≤ put_place p xs → put_after p r xs ≡ xs
  put_outside r h = cond-false _ _ _ (le-ltb _ _ h)

  accepted_inside : put_answer p xs ≡ Ok tt → put_place p xs < length xs
  accepted_inside h = ltb-true _ _ (go (ltb (put_place p xs) (length xs)) h)
    where
      go : (t : Bool) → ◌≡◌ {A = Result (Unit {0}) Full} (cond t (Ok tt) (Err (record {}))) (Ok tt) → t ≡ true
      go true e = refl
      go false e = let z : ◌≡◌ {A = ℕ} 0 1 = cc in absurd (omega arith)

  refused_outside : put_answer p xs ≡ Err (record {}) → length xs ≤ put_place p xs
  refused_outside h = ltb-false _ _ (go (ltb (put_place p xs) (length xs)) h)
    where
      go : (t : Bool) → ◌≡◌ {A = Result (Unit {0}) Full} (cond t (Ok tt) (Err (record {}))) (Err (record {})) → t ≡ false
      go true e = let z : ◌≡◌ {A = ℕ} 0 1 = cc in absurd (omega arith)
      go false e = refl

  outside_new : length xs ≤ put_place p xs → length xs ≤ first_at (filled p) xs
  outside_new h = ⊎_elim (λ l. absurd (omega (arith, place_with_key l))) (λ o. o) (cases_lt (first_at (filled p) xs) (length xs))

  outside_full : length xs ≤ put_place p xs → length xs ≤ first_at free xs
  outside_full h = omega (arith, place_new (outside_new h))

  room : (i : ℕ) → i < length xs → (free (get_or xs i None) ≡ true) ⊎ (filled p (get_or xs i None) ≡ true) → put_answer p xs ≡ Ok tt
  room i l h = cond-true _ _ _ (lt-ltb _ _ (⊎_elim (λ y. y) (λ o. absurd (full o)) (cases_lt (put_place p xs) (length xs))))
    where
      full : length xs ≤ put_place p xs → ⊥
      full o = ⊎_elim (both_ways _ (none_passes free xs None (outside_full o) i l)) (both_ways _ (none_passes (filled p) xs None (outside_new o) i l)) h

module _ {R K G : Type 0} (key_of : R → K) (group_of : K → G) (keyed : K → R → Bool) (among : G → R → Bool) (tells_key : (k : K) (r : R) → Decides (keyed k r) (key_of r ≡ k)) (tells_group : (g : G) (r : R) → Decides (among g r) (group_of (key_of r) ≡ g)) where
  other_key : (k : K) (r : R) → (key_of r ≡ k → ⊥) → keyed k r ≡ false
  other_key k r ne = ⊎_elim (λ y. absurd (ne ((tells_key k r).0 y))) (λ n. n) (cases_Bool (keyed k r))

  -- a slot that a record goes to holds no other key
  not_there : (r : R) (k : K) (x : Option R) → (key_of r ≡ k → ⊥) → (free x ≡ true) ⊎ (filled (own key_of keyed r) x ≡ true) → filled (keyed k) x ≡ false
  not_there r k None ne h = refl
  not_there r k (Some s) ne h = ⊎_elim (λ f. absurd (both_ways false refl f)) (λ y. other_key k s (λ e. ne (sym ((tells_key (key_of r) s).0 y) ∙ e))) h

  keeps_others : (r : R) (xs : Slots R) (k : K) → (key_of r ≡ k → ⊥) → found (keyed k) (put_after (own key_of keyed r) r xs) ≡ found (keyed k) xs
  keeps_others r xs k ne = ⊎_elim inside outside (cases_lt (put_place (own key_of keyed r) xs) (length xs))
    where
      inside : put_place (own key_of keyed r) xs < length xs → found (keyed k) (put_after (own key_of keyed r) r xs) ≡ found (keyed k) xs
      inside l = ap (found (keyed k)) (put_inside (own key_of keyed r) xs r l) ∙ found_set_other (keyed k) xs (put_place (own key_of keyed r) xs) r (other_key k r ne) (not_there r k _ ne (place_fits (own key_of keyed r) xs l))

      outside : length xs ≤ put_place (own key_of keyed r) xs → found (keyed k) (put_after (own key_of keyed r) r xs) ≡ found (keyed k) xs
      outside o = ap (found (keyed k)) (put_outside (own key_of keyed r) xs r o)

  elsewhere : (r : R) (xs : Slots R) (i : ℕ) → (i ≡ put_place (own key_of keyed r) xs → ⊥) → get_or (put_after (own key_of keyed r) r xs) i None ≡ get_or xs i None
  elsewhere r xs i ne =
      ⊎_elim
      (λ l. ap (λ ys. get_or ys i None) (put_inside (own key_of keyed r) xs r l) ∙ get_or-set_other xs (put_place (own key_of keyed r) xs) i (Some r) None ne)
      (λ o. ap (λ ys. get_or ys i None) (put_outside (own key_of keyed r) xs r o))
      (cases_lt (put_place (own key_of keyed r) xs) (length xs))

  keeps_length : (r : R) (xs : Slots R) → length (put_after (own key_of keyed r) r xs) ≡ length xs
  keeps_length r xs =
      ⊎_elim
      (λ l. ap length (put_inside (own key_of keyed r) xs r l) ∙ length-set xs (put_place (own key_of keyed r) xs) (Some r))
      (λ o. ap length (put_outside (own key_of keyed r) xs r o))
      (cases_lt (put_place (own key_of keyed r) xs) (length xs))

  is_found : (r : R) (xs : Slots R) → put_answer (own key_of keyed r) xs ≡ Ok tt → found (own key_of keyed r) (put_after (own key_of keyed r) r xs) ≡ Some r
  is_found r xs h =
      let l = accepted_inside (own key_of keyed r) xs h in
      ap (found (own key_of keyed r)) (put_inside (own key_of keyed r) xs r l)
      ∙ found_set (own key_of keyed r) xs (put_place (own key_of keyed r) xs) r ((tells_key (key_of r) r).1 refl) (place_early (own key_of keyed r) xs l) l

  is_full : (r : R) (xs : Slots R) → put_answer (own key_of keyed r) xs ≡ Err (record {}) → (found (own key_of keyed r) xs ≡ None) × ((i : ℕ) → i < length xs → free (get_or xs i None) ≡ false)
  is_full r xs h =
      let o = refused_outside (own key_of keyed r) xs h in
      (found_none (own key_of keyed r) xs (outside_new (own key_of keyed r) xs o), none_passes free xs None (outside_full (own key_of keyed r) xs o))

  pub register_laws : RegisterLaws key_of group_of keyed among
  register_laws =
      record {
        found_has_key = λ k xs r h. (tells_key k r).0 (found_passes (keyed k) xs r h);
        put_is_found = is_found;
        put_keeps_others = keeps_others;
        put_elsewhere = elsewhere;
        put_keeps_length = keeps_length;
        refused_is_same = λ r xs h. put_outside (own key_of keyed r) xs r (refused_outside (own key_of keyed r) xs h);
        refused_is_full = is_full;
        room_is_accepted = λ r xs i l h. room (own key_of keyed r) xs i l h;
        taken_is_gone = λ k xs. taken_none (keyed k) (among (group_of k)) (λ r e. (tells_group (group_of k) r).1 (ap group_of ((tells_key k r).0 e))) xs;
        taken_keeps_others = λ k g xs ne. taken_same (keyed k) (among g) (λ r e. ⊎_elim (λ y. absurd (ne (ap group_of (sym ((tells_key k r).0 e)) ∙ (tells_group g r).0 y))) (λ n. n) (cases_Bool (among g r))) xs;
        taken_is_free = λ g xs i h. ap free (get_or_taken (among g) xs i) ∙ freed_free (among g) (get_or xs i None) h;
        taken_elsewhere = λ g xs i h. get_or_taken (among g) xs i ∙ freed_same (among g) (get_or xs i None) h;
        taken_keeps_length = λ g xs. length-map xs (freed (among g));
      }
