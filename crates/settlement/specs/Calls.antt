-- What a book answers to each call, and what it holds then. The state after a list of calls is the fold of these.
use Rattle.std.specs.Prelude.{Bool, true, false, cond, Err, Result}
use Rattle.ledger.specs.Grounds.{on_ok, told}
use Rattle.settlement.specs.DayRecords.{daily_after, daily_ground, entry_measurement_after, entry_measurement_ground, profile_after, profile_ground, statement_after, statement_ground, trade_after, trade_ground, weather_after, weather_ground, zone_measurement_after, zone_measurement_ground}
use Rattle.settlement.specs.Drafting.{point_after, point_ground, start_ground}
use Rattle.settlement.specs.State.{Sizes, State, drafted, held, sizes}
use Rattle.settlement.specs.declared.book.Book.{Book}
use Rattle.settlement.specs.declared.book.Book.TheVariants.{Drafted, Started}
use Rattle.settlement.specs.declared.book.Call.{Call}
use Rattle.settlement.specs.declared.book.Call.TheVariants as call
use Rattle.settlement.specs.declared.fault.Fault.{Fault}
use Rattle.settlement.specs.declared.fault.Fault.TheVariants as fault
use Rattle.settlement.specs.declared.tables.Tables.{Tables}

-- ---- a live book takes everything but points and a start
abbrev pub verdict_live : Sizes → State → Call → Result (Unit {0}) Fault
verdict_live z s (call.Point p) = Err fault.NotTakenNow
verdict_live z s call.Start = Err fault.NotTakenNow
verdict_live z s (call.MeasureEntry m) = told (entry_measurement_ground z s m)
verdict_live z s (call.MeasureZone m) = told (zone_measurement_ground z s m)
verdict_live z s (call.Weather m) = told (weather_ground z s m)
verdict_live z s (call.Profile m) = told (profile_ground z s m)
verdict_live z s (call.Statement m) = told (statement_ground z s m)
verdict_live z s (call.DailyQuantity m) = told (daily_ground z s m)
verdict_live z s (call.Trade m) = told (trade_ground z s m)

abbrev pub left_live : Sizes → State → Call → State
left_live z s (call.Point p) = s
left_live z s call.Start = s
left_live z s (call.MeasureEntry m) = entry_measurement_after z s m
left_live z s (call.MeasureZone m) = zone_measurement_after z s m
left_live z s (call.Weather m) = weather_after z s m
left_live z s (call.Profile m) = profile_after z s m
left_live z s (call.Statement m) = statement_after z s m
left_live z s (call.DailyQuantity m) = daily_after z s m
left_live z s (call.Trade m) = trade_after z s m

-- ---- a draft takes points and a start
abbrev pub verdict_draft : Sizes → State → Call → Result (Unit {0}) Fault
verdict_draft z s (call.Point p) = told (point_ground z s p)
verdict_draft z s call.Start = start_ground z s
verdict_draft z s (call.MeasureEntry m) = Err fault.NotTakenNow
verdict_draft z s (call.MeasureZone m) = Err fault.NotTakenNow
verdict_draft z s (call.Weather m) = Err fault.NotTakenNow
verdict_draft z s (call.Profile m) = Err fault.NotTakenNow
verdict_draft z s (call.Statement m) = Err fault.NotTakenNow
verdict_draft z s (call.DailyQuantity m) = Err fault.NotTakenNow
verdict_draft z s (call.Trade m) = Err fault.NotTakenNow

abbrev pub left_draft : Sizes → State → Call → State
left_draft z s (call.Point p) = point_after z s p
left_draft z s call.Start = s
left_draft z s (call.MeasureEntry m) = s
left_draft z s (call.MeasureZone m) = s
left_draft z s (call.Weather m) = s
left_draft z s (call.Profile m) = s
left_draft z s (call.Statement m) = s
left_draft z s (call.DailyQuantity m) = s
left_draft z s (call.Trade m) = s

-- whether a call starts the draft
abbrev pub starts : Sizes → State → Call → Bool
starts z s call.Start = on_ok (start_ground z s) (λ _. true) false
starts z s (call.Point p) = false
starts z s (call.MeasureEntry m) = false
starts z s (call.MeasureZone m) = false
starts z s (call.Weather m) = false
starts z s (call.Profile m) = false
starts z s (call.Statement m) = false
starts z s (call.DailyQuantity m) = false
starts z s (call.Trade m) = false

-- ---- a book in either phase, with its tables
pub record Whole : Type 0 where
  pub started : Bool
  pub counts : Sizes
  pub state : State

abbrev pub whole : {R : Type 0} → Book R → Tables → Whole
whole (Drafted d) t = record { started = false; counts = sizes d.counts; state = drafted d t }
whole (Started v) t = record { started = true; counts = sizes v.counts; state = held v t }

-- the rule that a book was given
abbrev pub rule_of : {R : Type 0} → Book R → R
rule_of (Drafted d) = d.rule
rule_of (Started v) = v.rule

abbrev pub verdict : Whole → Call → Result (Unit {0}) Fault
verdict w c = cond w.started (verdict_live w.counts w.state c) (verdict_draft w.counts w.state c)

abbrev pub left_by : Whole → Call → Whole
left_by w c =
    cond w.started
    (record { started = true; counts = w.counts; state = left_live w.counts w.state c })
    (record { started = starts w.counts w.state c; counts = w.counts; state = left_draft w.counts w.state c })
