-- What a register finds after each call, for any records whose tests tell their keys and groups.
use Rattle.std.specs.Prelude.{◌≡◌, ℕ, ◌<◌, Bool, true, false, ◌⊎◌, List, length, Some, None, Ok, Err, Option, ◌≢◌, slice_index_or}
use Rattle.ledger.specs.Slots.{filled, free, put_place, put_answer, put_after, found, taken_out}

abbrev pub Slots : Type 0 → Type 0
Slots R = List (Option R)

-- the test of a record's own key
abbrev pub own : {R K : Type 0} → (R → K) → (K → R → Bool) → R → R → Bool
own key_of keyed r = keyed (key_of r)

pub record RegisterLaws {R K G : Type 0} (key_of : R → K) (group_of : K → G) (keyed : K → R → Bool) (among : G → R → Bool) : Type 0 where
  -- what is found has the key
  pub found_has_key : (k : K) (xs : Slots R) (r : R) → found (keyed k) xs ≡ Some r → key_of r ≡ k
  -- a record that was accepted is found under its key
  pub put_is_found : (r : R) (xs : Slots R) → put_answer (own key_of keyed r) xs ≡ Ok tt → found (own key_of keyed r) (put_after (own key_of keyed r) r xs) ≡ Some r
  -- under every other key is found what was found before, accepted or not
  pub put_keeps_others : (r : R) (xs : Slots R) (k : K) → (key_of r ≢ k) → found (keyed k) (put_after (own key_of keyed r) r xs) ≡ found (keyed k) xs
  -- every slot but the record's own is as it was
  pub put_elsewhere : (r : R) (xs : Slots R) (i : ℕ) → (i ≢ put_place (own key_of keyed r) xs) → slice_index_or (put_after (own key_of keyed r) r xs) i None ≡ slice_index_or xs i None
  pub put_keeps_length : (r : R) (xs : Slots R) → length (put_after (own key_of keyed r) r xs) ≡ length xs
  -- refused: nothing changes
  pub refused_is_same : (r : R) (xs : Slots R) → put_answer (own key_of keyed r) xs ≡ Err (record {}) → put_after (own key_of keyed r) r xs ≡ xs
  -- refused: the key is new, and no slot is free
  pub refused_is_full : (r : R) (xs : Slots R) → put_answer (own key_of keyed r) xs ≡ Err (record {}) → (found (own key_of keyed r) xs ≡ None) × ((i : ℕ) → i < length xs → free (slice_index_or xs i None) ≡ false)
  -- a slot that is free or has the key: accepted
  pub room_is_accepted : (r : R) (xs : Slots R) (i : ℕ) → i < length xs → (free (slice_index_or xs i None) ≡ true) ⊎ (filled (own key_of keyed r) (slice_index_or xs i None) ≡ true) → put_answer (own key_of keyed r) xs ≡ Ok tt
  -- after a group was taken out, nothing is found under its keys
  pub taken_is_gone : (k : K) (xs : Slots R) → found (keyed k) (taken_out (among (group_of k)) xs) ≡ None
  -- under the keys of other groups is found what was found before
  pub taken_keeps_others : (k : K) (g : G) (xs : Slots R) → (group_of k ≢ g) → found (keyed k) (taken_out (among g) xs) ≡ found (keyed k) xs
  -- its slots are free, and every other slot is as it was
  pub taken_is_free : (g : G) (xs : Slots R) (i : ℕ) → filled (among g) (slice_index_or xs i None) ≡ true → free (slice_index_or (taken_out (among g) xs) i None) ≡ true
  pub taken_elsewhere : (g : G) (xs : Slots R) (i : ℕ) → filled (among g) (slice_index_or xs i None) ≡ false → slice_index_or (taken_out (among g) xs) i None ≡ slice_index_or xs i None
  pub taken_keeps_length : (g : G) (xs : Slots R) → length (taken_out (among g) xs) ≡ length xs
