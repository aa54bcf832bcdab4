-- What the program's desk answers to a record, and what lies on it then.
use Rattle.std.specs.Prelude.{Bool, true, false, ℤ, pos, negsuc, Some, None, Err, Option, Result, nat_le}
use Rattle.ledger.specs.Grounds.{demand, on_ok, told}
use Rattle.records.specs.declared.kind.Record.{Record}
use Rattle.records.specs.declared.kind.Record.TheVariants as rec
use Rattle.settlement.specs.Calls.{Whole, left_by, verdict, whole}
use Rattle.settlement.specs.Drafting.{new_ground}
use Rattle.settlement.specs.State.{Lists, Sizes, new_state}
use Rattle.settlement.specs.declared.book.Book.{Book}
use Rattle.settlement.specs.declared.book.Call.{Call}
use Rattle.settlement.specs.declared.book.Call.TheVariants as call
use Rattle.settlement.specs.declared.terms.BookTerms.{BookTerms}
use Rattle.settlement.specs.declared.fault.Fault.{Fault}
use Rattle.settlement.specs.declared.fault.Fault.TheVariants as fault
use Rattle.settlement.specs.declared.tables.Tables.{Tables}

-- the call that a record asks for, if it is one on a book; closes and readings are not taken yet
abbrev pub call_of : Record → Option Call
call_of (rec.Book year month days users entries zones) = None
call_of (rec.Point zone user class read band aq index) = Some (call.Point (record { zone = zone; user = user; class = class; least_days = read; band = band; aq = aq; index = index }))
call_of rec.Start = Some call.Start
call_of (rec.EntryMeasurement day entry quantity) = Some (call.MeasureEntry (record { day = day; entry = entry; quantity = quantity }))
call_of (rec.ZoneMeasurement day zone quantity) = Some (call.MeasureZone (record { day = day; zone = zone; quantity = quantity }))
call_of (rec.Weather day zone cv wcf) = Some (call.Weather (record { day = day; zone = zone; cv = cv; wcf = wcf }))
call_of (rec.Profile day band alp daf) = Some (call.Profile (record { day = day; band = band; alp = alp; daf = daf }))
call_of (rec.Statement day entry user quantity) = Some (call.Statement (record { day = day; entry = entry; user = user; quantity = quantity }))
call_of (rec.DailyQuantity day point quantity) = Some (call.DailyQuantity (record { day = day; point = point; quantity = quantity }))
call_of (rec.Trade day seller buyer quantity) = Some (call.Trade (record { day = day; seller = seller; buyer = buyer; quantity = quantity }))
call_of rec.CloseDay = None
call_of (rec.Reading point day index) = None
call_of rec.CloseMonth = None

-- the desk: no book yet, or one
abbrev pub on_desk : {R : Type 0} → Option (Book R) → Tables → Option Whole
on_desk (Some b) t = Some (whole b t)
on_desk None t = None

-- ---- a record that begins a book: the program's tables hold 62 Days
abbrev pub few_days : ℤ → Bool
few_days (pos n) = nat_le n 62
few_days (negsuc n) = true

abbrev pub begun : BookTerms → Lists → Result Sizes Fault
begun b t = demand (few_days b.days) fault.OutsideLimits (new_ground b t)

-- a book that is refused leaves the present one
abbrev pub begin_after : Option Whole → BookTerms → Lists → Option Whole
begin_after d b t = on_ok (begun b t) (λ z. Some (record { started = false; counts = z; state = new_state t })) d

-- ---- any other record, on the book that there is
abbrev pub asked : Option Whole → Option Call → Result (Unit {0}) Fault
asked (Some w) (Some c) = verdict w c
asked (Some w) None = Err fault.NotTakenNow
asked None c = Err fault.NotTakenNow

abbrev pub asked_after : Option Whole → Option Call → Option Whole
asked_after (Some w) (Some c) = Some (left_by w c)
asked_after (Some w) None = Some w
asked_after None c = None

-- ---- a record
abbrev pub terms_of : Record → Option BookTerms
terms_of (rec.Book year month days users entries zones) = Some (record { year = year; month = month; days = days; users = users; entries = entries; zones = zones })
terms_of (rec.Point zone user class read band aq index) = None
terms_of rec.Start = None
terms_of (rec.EntryMeasurement day entry quantity) = None
terms_of (rec.ZoneMeasurement day zone quantity) = None
terms_of (rec.Weather day zone cv wcf) = None
terms_of (rec.Profile day band alp daf) = None
terms_of (rec.Statement day entry user quantity) = None
terms_of (rec.DailyQuantity day point quantity) = None
terms_of (rec.Trade day seller buyer quantity) = None
terms_of rec.CloseDay = None
terms_of (rec.Reading point day index) = None
terms_of rec.CloseMonth = None

abbrev pub answer_to : Option Whole → Lists → Option BookTerms → Option Call → Result (Unit {0}) Fault
answer_to d t (Some b) c = told (begun b t)
answer_to d t None c = asked d c

abbrev pub desk_after : Option Whole → Lists → Option BookTerms → Option Call → Option Whole
desk_after d t (Some b) c = begin_after d b t
desk_after d t None c = asked_after d c
