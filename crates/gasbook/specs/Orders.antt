-- What a record wants of the desk.
use Rattle.std.specs.Prelude.{◌≡◌, Some, None, Option}
use Rattle.gasbook.specs.Desk.{call_of, terms_of}
use Rattle.gasbook.specs.declared.desk.Order.{Order}
use Rattle.gasbook.specs.declared.desk.Order.TheVariants.{Begin, Ask, NotTaken}
use Rattle.records.specs.declared.kind.Record.{Record}
use Rattle.settlement.specs.declared.book.Call.{Call}
use Rattle.settlement.specs.declared.terms.BookTerms.{BookTerms}

-- a book to begin, or else a call, or else nothing that is taken
abbrev pub order_of : Option BookTerms → Option Call → Order
order_of (Some b) c = Begin b
order_of None (Some c) = Ask c
order_of None None = NotTaken

abbrev pub Orders : Record → Order → Type 0
Orders r o = o ≡ order_of (terms_of r) (call_of r)
