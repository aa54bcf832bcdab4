-- The first line of a text: its key, its value, and what follows it.
use Rattle.std.specs.Prelude.{◌≡◌, ℕ, ◌+◌, Bool, true, false, ◌&&◌, List, map, Ok, Err, codes, Result}
use Rattle.std.specs.Borrow.{Bor}
use Rattle.std.specs.Str.{bytes_eq}
use Rattle.records.specs.Text.{has, before, after}
use Rattle.records.specs.declared.fault.TextFault.{TextFault}
use Rattle.records.specs.declared.fault.TextFault.TheVariants.{WrongKey}
use Rattle.records.specs.declared.field.Field.{Field}
use Rattle.records.specs.declared.field.Field.TheVariants.{Kind, Number}
use Rattle.records.specs.declared.lines.Lines.{Lines}

-- that there is a whole line, with an equals sign
abbrev pub splits : List ℕ → Bool
splits t = has 10 t && has 61 (before 10 t)

abbrev pub key_in : List ℕ → List ℕ
key_in t = before 61 (before 10 t)

abbrev pub value_in : List ℕ → List ℕ
value_in t = after 61 (before 10 t)

-- that the first line has this key
abbrev pub is_field : List ℕ → List ℕ → Bool
is_field key t = splits t && bytes_eq (key_in t) key

-- what a field borrows
abbrev pub key_of : Field → List ℕ
key_of (Kind line value) = codes "kind"
key_of (Number line key value) = key.now

-- a field's line and value
abbrev pub seen : Field → ℕ × List ℕ
seen (Kind line value) = (line, value.now)
seen (Number line key value) = (line, value.now)

abbrev pub texts : List (Bor (List ℕ)) → List (List ℕ)
texts xs = map (λ x. x.now) xs

-- a line with the key `kind` is never taken for a number's
abbrev pub Sorted : Field → Type 0
Sorted (Kind line value) = Unit {0}
Sorted (Number line key value) = bytes_eq key.now (codes "kind") ≡ false

-- what the functions on the first line answer: its parts, and the lines after it
pub record FieldAt (t : Lines) (f : Field) (rest : Lines) : Type 0 where
  pub key_is : key_of f ≡ key_in t.text.now
  pub seen_is : seen f ≡ (t.line, value_in t.text.now)
  pub rest_is : rest.text.now ≡ after 10 t.text.now
  pub line_is : rest.line ≡ t.line + 1

abbrev pub Parted : Lines → Result (Field × Lines) TextFault → Type 0
Parted t (Ok p) = (splits t.text.now ≡ true) × Sorted p.0 × FieldAt t p.0 p.1
Parted t (Err e) = (splits t.text.now ≡ false) × (e ≡ WrongKey t.line)

abbrev pub Keyed : List ℕ → Lines → Result (Field × Lines) TextFault → Type 0
Keyed key t (Ok p) = (is_field key t.text.now ≡ true) × FieldAt t p.0 p.1
Keyed key t (Err e) = (is_field key t.text.now ≡ false) × (e ≡ WrongKey t.line)
