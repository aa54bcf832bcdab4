-- What the reader answers at the text that is left, whose first line has the number n.
use Rattle.std.specs.Prelude.{◌≡◌, ℕ, ◌+◌, true, cond, List, [], ◌∷◌, map, length, ℤ, Some, None, Ok, Err, codes, Option, Result}
use Rattle.arrayvec.specs.ArrayVec.{ArrayVec}
use Rattle.ledger.specs.Grounds.{demand, ask}
use Rattle.records.specs.Text.{after}
use Rattle.records.specs.Numbers.{reading, proper}
use Rattle.records.specs.Format.{keys, kind_by, kind_of, made_of, written}
use Rattle.records.specs.Lines.{is_field, value_in, seen}
use Rattle.records.specs.declared.body.Taken.{Taken}
use Rattle.records.specs.declared.fault.TextFault.{TextFault}
use Rattle.records.specs.declared.fault.TextFault.TheVariants.{WrongKey, UnknownKind, MalformedValue}
use Rattle.records.specs.declared.field.Field.{Field}
use Rattle.records.specs.declared.kind.Kind.{Kind}
use Rattle.records.specs.declared.lines.Lines.{Lines}
use Rattle.records.specs.declared.kind.Record.{Record}

-- of lines for these keys, the first that is missing or lacks its key
abbrev pub bad_key : List (List ℕ) → List ℕ → ℕ → Option ℕ
bad_key [] t n = None
bad_key (k ∷ ks) t n = cond (is_field k t) (bad_key ks (after 10 t) (n + 1)) (Some n)

-- the number and the value of each line for these keys
abbrev pub values : List (List ℕ) → List ℕ → ℕ → List (ℕ × List ℕ)
values [] t n = []
values (k ∷ ks) t n = (n, value_in t) ∷ values ks (after 10 t) (n + 1)

-- what follows the lines for these keys
abbrev pub past : List (List ℕ) → List ℕ → List ℕ
past [] t = t
past (k ∷ ks) t = past ks (after 10 t)

-- the first line whose value is malformed
abbrev pub bad_value : List (ℕ × List ℕ) → Option ℕ
bad_value [] = None
bad_value (v ∷ vs) = cond (proper v.1) (bad_value vs) (Some v.0)

abbrev pub amount : ℕ × List ℕ → ℤ
amount v = reading v.1

-- a refusal at a line, if there is such a line
abbrev pub unless : {Y : Type 0} → Option ℕ → (ℕ → TextFault) → Result Y TextFault → Result Y TextFault
unless (Some n) e r = Err (e n)
unless None e r = r

-- the record of a kind, from the lines after the first: all keys, then the values in order
abbrev pub read_as : Kind → List ℕ → ℕ → Result Record TextFault
read_as k t n =
    unless (bad_key (keys k) t n) (λ m. WrongKey m)
    (unless (bad_value (values (keys k) t n)) (λ m. MalformedValue m)
    (Ok (made_of k (map amount (values (keys k) t n)))))

-- a record whose first line has the number n, with the bytes and lines of its text
abbrev pub taken : ℕ → Record → Taken
taken n r = record { read = r; line = n; bytes = length (written r); lines = 1 + length (keys (kind_of r)) }

abbrev pub took : ℕ → Result Record TextFault → Result Taken TextFault
took n (Ok r) = Ok (taken n r)
took n (Err e) = Err e

-- the record that a text begins with
abbrev pub outcome : List ℕ → ℕ → Result Taken TextFault
outcome t n =
    demand (is_field (codes "kind") t) (WrongKey n)
    (ask (kind_by (value_in t)) (UnknownKind n) (λ k. took n (read_as k (after 10 t) (n + 1))))

abbrev pub some : Result Taken TextFault → Result (Option Taken) TextFault
some (Ok x) = Ok (Some x)
some (Err e) = Err e

-- the next record, if anything is left
abbrev pub next_of : List ℕ → ℕ → Result (Option Taken) TextFault
next_of [] n = Ok None
next_of (c ∷ t) n = some (outcome (c ∷ t) n)

-- what the parts of the reader answer at the lines that are left, and the lines after what they read
abbrev pub Kinded : Lines → Result (Kind × Lines) TextFault → Type 0
Kinded t (Ok p) = (is_field (codes "kind") t.text.now ≡ true) × (kind_by (value_in t.text.now) ≡ Some p.0) × (p.1.text.now ≡ after 10 t.text.now) × (p.1.line ≡ t.line + 1)
Kinded t (Err e) = outcome t.text.now t.line ≡ Err e

abbrev pub sights : List Field → List (ℕ × List ℕ)
sights fs = map seen fs

abbrev pub Fields : List (List ℕ) → Lines → ArrayVec Field → Result Lines TextFault → Type 0
Fields ks t found (Ok p) = (bad_key ks t.text.now t.line ≡ None) × (sights found.items ≡ values ks t.text.now t.line) × (p.text.now ≡ past ks t.text.now) × (p.line ≡ t.line + length ks)
Fields ks t found (Err e) = (m : ℕ) × (bad_key ks t.text.now t.line ≡ Some m) × (e ≡ WrongKey m)

abbrev pub Numbers : List (ℕ × List ℕ) → ArrayVec ℤ → Result (Unit {0}) TextFault → Type 0
Numbers vs found (Ok x) = (bad_value vs ≡ None) × (found.items ≡ map amount vs)
Numbers vs found (Err e) = (m : ℕ) × (bad_value vs ≡ Some m) × (e ≡ MalformedValue m)

abbrev pub Body : Kind → Lines → Result (Record × Lines) TextFault → Type 0
Body k t (Ok p) = (read_as k t.text.now t.line ≡ Ok p.0) × (p.1.text.now ≡ past (keys k) t.text.now) × (p.1.line ≡ t.line + length (keys k))
Body k t (Err e) = read_as k t.text.now t.line ≡ Err e
