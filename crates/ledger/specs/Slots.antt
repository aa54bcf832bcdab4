-- A register: slots that each hold a record or are free. A record's key tells which slot is its own.
use Rattle.std.specs.Prelude.{ℕ, suc, Bool, true, false, cond, List, [], ◌∷◌, map, length, Some, None, Ok, Err, Option, Result, nat_lt, slice_set}
use Rattle.ledger.specs.declared.layer.Layer.{Layer}
use Rattle.ledger.specs.declared.layer.Layer.TheVariants as layer
use Rattle.ledger.specs.declared.register.Full.{Full}

-- the number of the refusal
abbrev pub full_number : Full → ℕ
full_number full = 12

-- and its layer
abbrev pub full_layer : Full → Layer
full_layer full = layer.Register

-- the place of the first that passes the test, or the length if none does
abbrev pub first_at : {X : Type 0} → (X → Bool) → List X → ℕ
first_at p [] = 0
first_at p (x ∷ xs) = cond (p x) 0 (suc (first_at p xs))

-- a place that lies inside the list
abbrev pub place_in : {X : Type 0} → List X → ℕ → Option ℕ
place_in xs i = cond (nat_lt i (length xs)) (Some i) None

-- whether a slot holds a record that passes the test
abbrev pub filled : {R : Type 0} → (R → Bool) → Option R → Bool
filled p (Some r) = p r
filled p None = false

abbrev pub free : {R : Type 0} → Option R → Bool
free (Some r) = false
free None = true

-- where a record goes whose key the test tells: to the first with its key, else to the first free slot, else to none, which is the length
abbrev pub put_place : {R : Type 0} → (R → Bool) → List (Option R) → ℕ
put_place p xs = cond (nat_lt (first_at (filled p) xs) (length xs)) (first_at (filled p) xs) (first_at free xs)

abbrev pub put_answer : {R : Type 0} → (R → Bool) → List (Option R) → Result (Unit {0}) Full
put_answer p xs = cond (nat_lt (put_place p xs) (length xs)) (Ok tt) (Err (record {}))

abbrev pub put_after : {R : Type 0} → (R → Bool) → R → List (Option R) → List (Option R)
put_after p r xs = cond (nat_lt (put_place p xs) (length xs)) (slice_set xs (put_place p xs) (Some r)) xs

-- the first record that passes the test
abbrev pub found : {R : Type 0} → (R → Bool) → List (Option R) → Option R
found p [] = None
found p (x ∷ xs) = cond (filled p x) x (found p xs)

-- a slot without the records that pass the test
abbrev pub freed : {R : Type 0} → (R → Bool) → Option R → Option R
freed p (Some r) = cond (p r) None (Some r)
freed p None = None

abbrev pub taken_out : {R : Type 0} → (R → Bool) → List (Option R) → List (Option R)
taken_out p xs = map (freed p) xs
