-- The table of kinds: each letter stands for its kind, and each kind's numbers are as many as its keys.
use Rattle.std.proofs.Common.{◌≡◌, ℕ, Bool, true, false, cond, List, [], ◌∷◌, length, ℤ, Some, None, refl, ap, ◌∙◌}
use Rattle.std.specs.Str.{bytes_eq}
use Rattle.std.proofs.lemmas.Slice.Eq.{bytes_eq-Decides}
use Rattle.records.specs.Text.{has}
use Rattle.records.specs.Format.{keys, letter, every_kind, kind_among, kind_by, kind_of, numbers_in, made_of}
use Rattle.records.specs.declared.kind.Kind.{Kind}
use Rattle.records.specs.declared.kind.Kind.TheVariants as kind
use Rattle.records.specs.declared.kind.Record.{Record}
use Rattle.records.specs.declared.kind.Record.TheVariants as rec
use Rattle.records.proofs.Whole.{all_bare, firsts}

pub keys_bare : (k : Kind) → all_bare (keys k) ≡ true
keys_bare kind.Book = refl
keys_bare kind.Point = refl
keys_bare kind.Start = refl
keys_bare kind.EntryMeasurement = refl
keys_bare kind.ZoneMeasurement = refl
keys_bare kind.Weather = refl
keys_bare kind.Profile = refl
keys_bare kind.Statement = refl
keys_bare kind.DailyQuantity = refl
keys_bare kind.Trade = refl
keys_bare kind.CloseDay = refl
keys_bare kind.Reading = refl
keys_bare kind.CloseMonth = refl

pub letter_bare : (k : Kind) → has 10 (letter k) ≡ false
letter_bare kind.Book = refl
letter_bare kind.Point = refl
letter_bare kind.Start = refl
letter_bare kind.EntryMeasurement = refl
letter_bare kind.ZoneMeasurement = refl
letter_bare kind.Weather = refl
letter_bare kind.Profile = refl
letter_bare kind.Statement = refl
letter_bare kind.DailyQuantity = refl
letter_bare kind.Trade = refl
letter_bare kind.CloseDay = refl
letter_bare kind.Reading = refl
letter_bare kind.CloseMonth = refl

pub letter_kind : (k : Kind) → kind_by (letter k) ≡ Some k
letter_kind kind.Book = refl
letter_kind kind.Point = refl
letter_kind kind.Start = refl
letter_kind kind.EntryMeasurement = refl
letter_kind kind.ZoneMeasurement = refl
letter_kind kind.Weather = refl
letter_kind kind.Profile = refl
letter_kind kind.Statement = refl
letter_kind kind.DailyQuantity = refl
letter_kind kind.Trade = refl
letter_kind kind.CloseDay = refl
letter_kind kind.Reading = refl
letter_kind kind.CloseMonth = refl

pub made_kind : (k : Kind) → (zs : List ℤ) → kind_of (made_of k zs) ≡ k
made_kind kind.Book zs = refl
made_kind kind.Point zs = refl
made_kind kind.Start zs = refl
made_kind kind.EntryMeasurement zs = refl
made_kind kind.ZoneMeasurement zs = refl
made_kind kind.Weather zs = refl
made_kind kind.Profile zs = refl
made_kind kind.Statement zs = refl
made_kind kind.DailyQuantity zs = refl
made_kind kind.Trade zs = refl
made_kind kind.CloseDay zs = refl
made_kind kind.Reading zs = refl
made_kind kind.CloseMonth zs = refl

pub made_firsts : (k : Kind) → (zs : List ℤ) → numbers_in (made_of k zs) ≡ firsts 0 (keys k) zs
made_firsts kind.Book zs = refl
made_firsts kind.Point zs = refl
made_firsts kind.Start zs = refl
made_firsts kind.EntryMeasurement zs = refl
made_firsts kind.ZoneMeasurement zs = refl
made_firsts kind.Weather zs = refl
made_firsts kind.Profile zs = refl
made_firsts kind.Statement zs = refl
made_firsts kind.DailyQuantity zs = refl
made_firsts kind.Trade zs = refl
made_firsts kind.CloseDay zs = refl
made_firsts kind.Reading zs = refl
made_firsts kind.CloseMonth zs = refl

pub made_again : (r : Record) → made_of (kind_of r) (numbers_in r) ≡ r
made_again (rec.Book year month days users entries zones) = refl
made_again (rec.Point zone user class read band aq index) = refl
made_again rec.Start = refl
made_again (rec.EntryMeasurement day entry quantity) = refl
made_again (rec.ZoneMeasurement day zone quantity) = refl
made_again (rec.Weather day zone cv wcf) = refl
made_again (rec.Profile day band alp daf) = refl
made_again (rec.Statement day entry user quantity) = refl
made_again (rec.DailyQuantity day point quantity) = refl
made_again (rec.Trade day seller buyer quantity) = refl
made_again rec.CloseDay = refl
made_again (rec.Reading point day index) = refl
made_again rec.CloseMonth = refl

pub numbers_count : (r : Record) → length (numbers_in r) ≡ length (keys (kind_of r))
numbers_count (rec.Book year month days users entries zones) = refl
numbers_count (rec.Point zone user class read band aq index) = refl
numbers_count rec.Start = refl
numbers_count (rec.EntryMeasurement day entry quantity) = refl
numbers_count (rec.ZoneMeasurement day zone quantity) = refl
numbers_count (rec.Weather day zone cv wcf) = refl
numbers_count (rec.Profile day band alp daf) = refl
numbers_count (rec.Statement day entry user quantity) = refl
numbers_count (rec.DailyQuantity day point quantity) = refl
numbers_count (rec.Trade day seller buyer quantity) = refl
numbers_count rec.CloseDay = refl
numbers_count (rec.Reading point day index) = refl
numbers_count rec.CloseMonth = refl

-- a value that is a kind's letter
among_letter : (ks : List Kind) (v : List ℕ) (k : Kind) → kind_among ks v ≡ Some k → v ≡ letter k
among_letter [] v k h = absurd cc
among_letter (j ∷ ks) v k h = go (bytes_eq v (letter j)) refl h (among_letter ks v k)
  where
    go : (x : Bool) → bytes_eq v (letter j) ≡ x → cond x (Some j) (kind_among ks v) ≡ Some k → (kind_among ks v ≡ Some k → v ≡ letter k) → v ≡ letter k
    go true e g f = let q : j ≡ k = cc in (bytes_eq-Decides v (letter j)).0 e ∙ ap letter q
    go false e g f = f g

pub kind_letter : (v : List ℕ) (k : Kind) → kind_by v ≡ Some k → v ≡ letter k
kind_letter v k h = among_letter every_kind v k h

-- a value that is none's
pub among_none : (ks : List Kind) (v : List ℕ) → ((k : Kind) → v ≡ letter k → ⊥) → None ≡ kind_among ks v
among_none [] v h = refl
among_none (j ∷ ks) v h = go (bytes_eq v (letter j)) refl (among_none ks v h)
  where
    go : (x : Bool) → bytes_eq v (letter j) ≡ x → None ≡ kind_among ks v → None ≡ cond x (Some j) (kind_among ks v)
    go true e f = absurd (h j ((bytes_eq-Decides v (letter j)).0 e))
    go false e f = f
