-- The format: the letter and the keys of each kind, and the text of a record.
use Rattle.std.specs.Prelude.{◌≡◌, ℕ, cond, List, [], ◌∷◌, ◌++◌, ℤ, pos, Some, None, Ok, Err, codes, Option, Result, slice_index_or}
use Rattle.std.specs.Borrow.{Bor}
use Rattle.std.specs.List.{AllByRecursion}
use Rattle.std.specs.Str.{bytes_eq}
use Rattle.records.specs.Numbers.{decimal, Short}
use Rattle.records.specs.declared.kind.Kind.{Kind}
use Rattle.records.specs.declared.kind.Kind.TheVariants as kind
use Rattle.records.specs.declared.kind.UnknownKind.{UnknownKind}
use Rattle.records.specs.declared.kind.Record.{Record}
use Rattle.records.specs.declared.kind.Record.TheVariants as rec

abbrev pub letter : Kind → List ℕ
letter kind.Book = codes "B"
letter kind.Point = codes "P"
letter kind.Start = codes "G"
letter kind.EntryMeasurement = codes "E"
letter kind.ZoneMeasurement = codes "Z"
letter kind.Weather = codes "W"
letter kind.Profile = codes "A"
letter kind.Statement = codes "S"
letter kind.DailyQuantity = codes "Q"
letter kind.Trade = codes "T"
letter kind.CloseDay = codes "C"
letter kind.Reading = codes "R"
letter kind.CloseMonth = codes "M"

abbrev pub keys : Kind → List (List ℕ)
keys kind.Book = codes "year" ∷ codes "month" ∷ codes "days" ∷ codes "users" ∷ codes "entries" ∷ codes "zones" ∷ []
keys kind.Point = codes "zone" ∷ codes "user" ∷ codes "class" ∷ codes "read" ∷ codes "band" ∷ codes "aq" ∷ codes "index" ∷ []
keys kind.Start = []
keys kind.EntryMeasurement = codes "day" ∷ codes "entry" ∷ codes "quantity" ∷ []
keys kind.ZoneMeasurement = codes "day" ∷ codes "zone" ∷ codes "quantity" ∷ []
keys kind.Weather = codes "day" ∷ codes "zone" ∷ codes "cv" ∷ codes "wcf" ∷ []
keys kind.Profile = codes "day" ∷ codes "band" ∷ codes "alp" ∷ codes "daf" ∷ []
keys kind.Statement = codes "day" ∷ codes "entry" ∷ codes "user" ∷ codes "quantity" ∷ []
keys kind.DailyQuantity = codes "day" ∷ codes "point" ∷ codes "quantity" ∷ []
keys kind.Trade = codes "day" ∷ codes "seller" ∷ codes "buyer" ∷ codes "quantity" ∷ []
keys kind.CloseDay = []
keys kind.Reading = codes "point" ∷ codes "day" ∷ codes "index" ∷ []
keys kind.CloseMonth = []

abbrev pub every_kind : List Kind
every_kind = kind.Book ∷ kind.Point ∷ kind.Start ∷ kind.EntryMeasurement ∷ kind.ZoneMeasurement ∷ kind.Weather ∷ kind.Profile ∷ kind.Statement ∷ kind.DailyQuantity ∷ kind.Trade ∷ kind.CloseDay ∷ kind.Reading ∷ kind.CloseMonth ∷ []

-- the kind among these whose letter a value is
abbrev pub kind_among : List Kind → List ℕ → Option Kind
kind_among [] v = None
kind_among (k ∷ ks) v = cond (bytes_eq v (letter k)) (Some k) (kind_among ks v)

abbrev pub kind_by : List ℕ → Option Kind
kind_by v = kind_among every_kind v

-- what a value is read as: the kind whose letter it is, or an error if it is no kind's letter
abbrev pub Letter : Bor (List ℕ) → Result Kind UnknownKind → Type 0
Letter value (Ok k) = kind_by value.now ≡ Some k
Letter value (Err e) = kind_by value.now ≡ None

abbrev pub kind_of : Record → Kind
kind_of (rec.Book year month days users entries zones) = kind.Book
kind_of (rec.Point zone user class read band aq index) = kind.Point
kind_of rec.Start = kind.Start
kind_of (rec.EntryMeasurement day entry quantity) = kind.EntryMeasurement
kind_of (rec.ZoneMeasurement day zone quantity) = kind.ZoneMeasurement
kind_of (rec.Weather day zone cv wcf) = kind.Weather
kind_of (rec.Profile day band alp daf) = kind.Profile
kind_of (rec.Statement day entry user quantity) = kind.Statement
kind_of (rec.DailyQuantity day point quantity) = kind.DailyQuantity
kind_of (rec.Trade day seller buyer quantity) = kind.Trade
kind_of rec.CloseDay = kind.CloseDay
kind_of (rec.Reading point day index) = kind.Reading
kind_of rec.CloseMonth = kind.CloseMonth

-- a record's numbers, in the order of its keys
abbrev pub numbers_in : Record → List ℤ
numbers_in (rec.Book year month days users entries zones) = year ∷ month ∷ days ∷ users ∷ entries ∷ zones ∷ []
numbers_in (rec.Point zone user class read band aq index) = zone ∷ user ∷ class ∷ read ∷ band ∷ aq ∷ index ∷ []
numbers_in rec.Start = []
numbers_in (rec.EntryMeasurement day entry quantity) = day ∷ entry ∷ quantity ∷ []
numbers_in (rec.ZoneMeasurement day zone quantity) = day ∷ zone ∷ quantity ∷ []
numbers_in (rec.Weather day zone cv wcf) = day ∷ zone ∷ cv ∷ wcf ∷ []
numbers_in (rec.Profile day band alp daf) = day ∷ band ∷ alp ∷ daf ∷ []
numbers_in (rec.Statement day entry user quantity) = day ∷ entry ∷ user ∷ quantity ∷ []
numbers_in (rec.DailyQuantity day point quantity) = day ∷ point ∷ quantity ∷ []
numbers_in (rec.Trade day seller buyer quantity) = day ∷ seller ∷ buyer ∷ quantity ∷ []
numbers_in rec.CloseDay = []
numbers_in (rec.Reading point day index) = point ∷ day ∷ index ∷ []
numbers_in rec.CloseMonth = []

abbrev pub nth : List ℤ → ℕ → ℤ
nth zs i = slice_index_or zs i (pos 0)

-- the record of a kind with these numbers
abbrev pub made_of : Kind → List ℤ → Record
made_of kind.Book zs = rec.Book (nth zs 0) (nth zs 1) (nth zs 2) (nth zs 3) (nth zs 4) (nth zs 5)
made_of kind.Point zs = rec.Point (nth zs 0) (nth zs 1) (nth zs 2) (nth zs 3) (nth zs 4) (nth zs 5) (nth zs 6)
made_of kind.Start zs = rec.Start
made_of kind.EntryMeasurement zs = rec.EntryMeasurement (nth zs 0) (nth zs 1) (nth zs 2)
made_of kind.ZoneMeasurement zs = rec.ZoneMeasurement (nth zs 0) (nth zs 1) (nth zs 2)
made_of kind.Weather zs = rec.Weather (nth zs 0) (nth zs 1) (nth zs 2) (nth zs 3)
made_of kind.Profile zs = rec.Profile (nth zs 0) (nth zs 1) (nth zs 2) (nth zs 3)
made_of kind.Statement zs = rec.Statement (nth zs 0) (nth zs 1) (nth zs 2) (nth zs 3)
made_of kind.DailyQuantity zs = rec.DailyQuantity (nth zs 0) (nth zs 1) (nth zs 2)
made_of kind.Trade zs = rec.Trade (nth zs 0) (nth zs 1) (nth zs 2) (nth zs 3)
made_of kind.CloseDay zs = rec.CloseDay
made_of kind.Reading zs = rec.Reading (nth zs 0) (nth zs 1) (nth zs 2)
made_of kind.CloseMonth zs = rec.CloseMonth

-- a line, and what follows it: the key, an equals sign (61), the value, the end of the line (10)
abbrev pub line : List ℕ → List ℕ → List ℕ → List ℕ
line key value more = key ++ (61 ∷ (value ++ (10 ∷ more)))

abbrev pub body : List (List ℕ) → List ℤ → List ℕ
body [] zs = []
body (k ∷ ks) [] = []
body (k ∷ ks) (z ∷ zs) = line k (decimal z) (body ks zs)

-- the text of a record
abbrev pub written : Record → List ℕ
written r = line (codes "kind") (letter (kind_of r)) (body (keys (kind_of r)) (numbers_in r))

-- that each number has at most eleven digits, so that the record has a text
abbrev pub Writable : Record → Type 0
Writable r = AllByRecursion Short (numbers_in r)
