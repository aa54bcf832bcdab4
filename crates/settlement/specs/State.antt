-- What a book holds: its numbers, and the tables and registers that are lent with each call.
use Rattle.std.specs.Prelude.{◌≡◌, ℕ, List, length, replicate, ℤ, pos, None, Option}
use Rattle.settlement.specs.declared.counts.Counts.{Counts}
use Rattle.settlement.specs.declared.day_records.DailyQuantity.{DailyQuantity}
use Rattle.settlement.specs.declared.day_records.Statement.{Statement}
use Rattle.settlement.specs.declared.day_records.Trade.{Trade}
use Rattle.settlement.specs.declared.draft.Draft.{Draft}
use Rattle.settlement.specs.declared.live.Live.{Live}
use Rattle.settlement.specs.declared.rows.Balance.{Balance}
use Rattle.settlement.specs.declared.rows.MonthFigures.{MonthFigures}
use Rattle.settlement.specs.declared.rows.Point.{Point}
use Rattle.settlement.specs.declared.rows.Profile.{Profile}
use Rattle.settlement.specs.declared.rows.Weather.{Weather}
use Rattle.settlement.specs.declared.rows.ZoneFigures.{ZoneFigures}
use Rattle.settlement.specs.declared.tables.Tables.{Tables}

-- a book's counts: it begins on the first day of a month of a year; `months` of its months lie wholly in it
pub record Sizes : Type 0 where
  pub year : ℕ
  pub month : ℕ
  pub days : ℕ
  pub months : ℕ
  pub users : ℕ
  pub entries : ℕ
  pub zones : ℕ

-- what the tables and registers hold
pub record Lists : Type 0 where
  pub points : List (Option Point)
  pub entry_measurements : List (Option ℕ)
  pub zone_measurements : List (Option ℕ)
  pub weather : List (Option Weather)
  pub profiles : List (Option Profile)
  pub inputs : List ℕ
  pub outputs : List ℕ
  pub prevailing : List ℕ
  pub zone_figures : List ZoneFigures
  pub balances : List Balance
  pub reconciliations : List ℤ
  pub months : List MonthFigures
  pub statements : List (Option Statement)
  pub daily_quantities : List (Option DailyQuantity)
  pub trades : List (Option Trade)

-- a book: how many points it has, how many Days and months are closed, how many slips are in hand, and what its tables hold
pub record State : Type 0 where
  pub points : ℕ
  pub closed : ℕ
  pub closed_months : ℕ
  pub slips : ℕ
  pub tables : Lists

abbrev pub sizes : Counts → Sizes
sizes c = record { year = c.calendar.year; month = c.calendar.month; days = c.days; months = c.months; users = c.users; entries = c.entries; zones = c.zones }

abbrev pub lists : Tables → Lists
lists t = record { points = t.points.now; entry_measurements = t.entry_measurements.now; zone_measurements = t.zone_measurements.now; weather = t.weather.now; profiles = t.profiles.now; inputs = t.inputs.now; outputs = t.outputs.now; prevailing = t.prevailing.now; zone_figures = t.zone_figures.now; balances = t.balances.now; reconciliations = t.reconciliations.now; months = t.months.now; statements = t.statements.now; daily_quantities = t.daily_quantities.now; trades = t.trades.now }

-- a draft has points, and nothing else yet
abbrev pub drafted : {R : Type 0} → Draft R → Tables → State
drafted d t = record { points = d.points; closed = 0; closed_months = 0; slips = 0; tables = lists t }

abbrev pub held : {R : Type 0} → Live R → Tables → State
held v t = record { points = v.points; closed = v.closed; closed_months = v.closed_months; slips = v.slips; tables = lists t }

-- ---- one thing changed, and all else as it was
abbrev pub with_tables : State → Lists → State
with_tables s t = record s { tables = t }

abbrev pub with_point_count : State → ℕ → State
with_point_count s n = record s { points = n }

abbrev pub with_points : Lists → List (Option Point) → Lists
with_points t xs = record t { points = xs }

abbrev pub with_entry_measurements : Lists → List (Option ℕ) → Lists
with_entry_measurements t xs = record t { entry_measurements = xs }

abbrev pub with_zone_measurements : Lists → List (Option ℕ) → Lists
with_zone_measurements t xs = record t { zone_measurements = xs }

abbrev pub with_weather : Lists → List (Option Weather) → Lists
with_weather t xs = record t { weather = xs }

abbrev pub with_profiles : Lists → List (Option Profile) → Lists
with_profiles t xs = record t { profiles = xs }

abbrev pub with_inputs : Lists → List ℕ → Lists
with_inputs t xs = record t { inputs = xs }

abbrev pub with_outputs : Lists → List ℕ → Lists
with_outputs t xs = record t { outputs = xs }

abbrev pub with_prevailing : Lists → List ℕ → Lists
with_prevailing t xs = record t { prevailing = xs }

abbrev pub with_zone_figures : Lists → List ZoneFigures → Lists
with_zone_figures t xs = record t { zone_figures = xs }

abbrev pub with_balances : Lists → List Balance → Lists
with_balances t xs = record t { balances = xs }

abbrev pub with_reconciliations : Lists → List ℤ → Lists
with_reconciliations t xs = record t { reconciliations = xs }

abbrev pub with_months : Lists → List MonthFigures → Lists
with_months t xs = record t { months = xs }

abbrev pub with_statements : Lists → List (Option Statement) → Lists
with_statements t xs = record t { statements = xs }

abbrev pub with_daily_quantities : Lists → List (Option DailyQuantity) → Lists
with_daily_quantities t xs = record t { daily_quantities = xs }

abbrev pub with_trades : Lists → List (Option Trade) → Lists
with_trades t xs = record t { trades = xs }

-- ---- empty tables and registers
abbrev pub no_figures : ZoneFigures
no_figures = record { output = 0; adjusted = 0; unidentified = pos 0 }

abbrev pub no_balance : Balance
no_balance = record { traded = pos 0; imbalance = pos 0 }

abbrev pub no_month : MonthFigures
no_month = record { reconciled = pos 0; returned = pos 0 }

-- each row and place emptied
abbrev pub emptied : Lists → Lists
emptied t = record { points = replicate (length t.points) None; entry_measurements = replicate (length t.entry_measurements) None; zone_measurements = replicate (length t.zone_measurements) None; weather = replicate (length t.weather) None; profiles = replicate (length t.profiles) None; inputs = replicate (length t.inputs) 0; outputs = replicate (length t.outputs) 0; prevailing = replicate (length t.prevailing) 0; zone_figures = replicate (length t.zone_figures) no_figures; balances = replicate (length t.balances) no_balance; reconciliations = replicate (length t.reconciliations) (pos 0); months = replicate (length t.months) no_month; statements = replicate (length t.statements) None; daily_quantities = replicate (length t.daily_quantities) None; trades = replicate (length t.trades) None }

-- a new book over tables
abbrev pub new_state : Lists → State
new_state t = record { points = 0; closed = 0; closed_months = 0; slips = 0; tables = emptied t }

-- the same slices are lent still, so that their lender knows what they hold; it ties the slices before a call to those after it,
-- which no invariant of one value can say
pub record Lent (s t : Tables) : Type 0 where
  pub points : t.points.ghost_name ≡ s.points.ghost_name
  pub entry_measurements : t.entry_measurements.ghost_name ≡ s.entry_measurements.ghost_name
  pub zone_measurements : t.zone_measurements.ghost_name ≡ s.zone_measurements.ghost_name
  pub weather : t.weather.ghost_name ≡ s.weather.ghost_name
  pub profiles : t.profiles.ghost_name ≡ s.profiles.ghost_name
  pub inputs : t.inputs.ghost_name ≡ s.inputs.ghost_name
  pub outputs : t.outputs.ghost_name ≡ s.outputs.ghost_name
  pub prevailing : t.prevailing.ghost_name ≡ s.prevailing.ghost_name
  pub zone_figures : t.zone_figures.ghost_name ≡ s.zone_figures.ghost_name
  pub balances : t.balances.ghost_name ≡ s.balances.ghost_name
  pub reconciliations : t.reconciliations.ghost_name ≡ s.reconciliations.ghost_name
  pub months : t.months.ghost_name ≡ s.months.ghost_name
  pub statements : t.statements.ghost_name ≡ s.statements.ghost_name
  pub daily_quantities : t.daily_quantities.ghost_name ≡ s.daily_quantities.ghost_name
  pub trades : t.trades.ghost_name ≡ s.trades.ghost_name
