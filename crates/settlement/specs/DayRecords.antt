-- What an open Day takes: measurements, factors, statements, daily quantities and trades. The last accepted counts.
use Rattle.std.specs.Prelude.{◌≡◌, ℕ, ◌-◌, ◌≤◌, Bool, true, false, not, ◌&&◌, List, length, ℤ, Some, None, Ok, Err, Option, Result, ◌==◌, nat_le, nat_lt, slice_index_or, slice_set, refl}
use Rattle.ledger.specs.Ranges.{in_range, in_range_either_way}
use Rattle.ledger.specs.Grounds.{ask, demand, on_ok}
use Rattle.ledger.specs.Places.{at2}
use Rattle.ledger.specs.Slots.{put_after, put_place}
use Rattle.settlement.specs.Classes.{takes_daily}
use Rattle.settlement.specs.Drafting.{next}
use Rattle.settlement.specs.Keys.{daily_key, daily_keyed, statement_key, statement_keyed, trade_key, trade_keyed}
use Rattle.settlement.specs.Limits.{least_cv, most_alp, most_annual, most_bands, most_cv, most_daily, most_factor, most_index, most_quantity}
use Rattle.settlement.specs.Shape.{shaped}
use Rattle.settlement.specs.State.{Lists, Sizes, State, with_daily_quantities, with_entry_measurements, with_profiles, with_statements, with_tables, with_trades, with_weather, with_zone_measurements}
use Rattle.settlement.specs.declared.day_records.DailyQuantity.{DailyQuantity}
use Rattle.settlement.specs.declared.day_records.Statement.{Statement}
use Rattle.settlement.specs.declared.day_records.Trade.{Trade}
use Rattle.settlement.specs.declared.fault.Fault.{Fault}
use Rattle.settlement.specs.declared.fault.Fault.TheVariants as fault
use Rattle.settlement.specs.declared.rows.Point.{Point}
use Rattle.settlement.specs.declared.rows.Profile.{Profile}
use Rattle.settlement.specs.declared.rows.Weather.{Weather}
use Rattle.settlement.specs.declared.terms.DailyQuantityTerms.{DailyQuantityTerms}
use Rattle.settlement.specs.declared.terms.EntryMeasurementTerms.{EntryMeasurementTerms}
use Rattle.settlement.specs.declared.terms.ProfileTerms.{ProfileTerms}
use Rattle.settlement.specs.declared.terms.StatementTerms.{StatementTerms}
use Rattle.settlement.specs.declared.terms.TradeTerms.{TradeTerms}
use Rattle.settlement.specs.declared.terms.WeatherTerms.{WeatherTerms}
use Rattle.settlement.specs.declared.terms.ZoneMeasurementTerms.{ZoneMeasurementTerms}

-- ---- the Day of a record: one of the book, and open
abbrev pub open_day : Sizes → (closed : ℕ) → (day : ℤ) → Result ℕ Fault
open_day z closed day =
    ask (in_range 0 (z.days - 1) day) fault.NoSuchDay (λ d.
    demand (nat_le closed d) fault.DayClosed
    (Ok d))

-- the Day is looked for in the book first, and then told whether it is closed
pub opens : {Y : Type 0} (z : Sizes) (closed : ℕ) (day : ℤ) (k : ℕ → Result Y Fault) → next (open_day z closed day) k ≡ ask (in_range 0 (z.days - 1) day) fault.NoSuchDay (λ d. demand (nat_le closed d) fault.DayClosed (k d))
opens z closed day k = go (in_range 0 (z.days - 1) day)
  where
    step : (b : Bool) (d : ℕ) → next (demand b fault.DayClosed (Ok d)) k ≡ demand b fault.DayClosed (k d)
    step true d = refl
    step false d = refl

    go : (o : Option ℕ) → next (ask o fault.NoSuchDay (λ d. demand (nat_le closed d) fault.DayClosed (Ok d))) k ≡ ask o fault.NoSuchDay (λ d. demand (nat_le closed d) fault.DayClosed (k d))
    go (Some d) = step (nat_le closed d) d
    go None = refl

-- ---- measurements: the row that one goes to, and the quantity
-- at one of so many entry points or zones
abbrev pub measurement_ground : Sizes → State → (places : ℕ) → (day place quantity : ℤ) → Result (ℕ × ℕ) Fault
measurement_ground z s places day place quantity =
    demand (shaped z s.tables) fault.BadTable
    (ask (in_range 0 most_quantity quantity) fault.OutsideLimits (λ q.
    ask (in_range 1 places place) fault.NotInBook (λ p.
    next (open_day z s.closed day) (λ d.
    Ok (at2 places d (p - 1), q)))))

abbrev pub entry_measurement_ground : Sizes → State → EntryMeasurementTerms → Result (ℕ × ℕ) Fault
entry_measurement_ground z s m = measurement_ground z s z.entries m.day m.entry m.quantity

abbrev pub entry_measurement_after : Sizes → State → EntryMeasurementTerms → State
entry_measurement_after z s m =
    on_ok (entry_measurement_ground z s m) (λ p. with_tables s (with_entry_measurements s.tables (slice_set s.tables.entry_measurements p.0 (Some p.1)))) s

abbrev pub zone_measurement_ground : Sizes → State → ZoneMeasurementTerms → Result (ℕ × ℕ) Fault
zone_measurement_ground z s m = measurement_ground z s z.zones m.day m.zone m.quantity

abbrev pub zone_measurement_after : Sizes → State → ZoneMeasurementTerms → State
zone_measurement_after z s m =
    on_ok (zone_measurement_ground z s m) (λ p. with_tables s (with_zone_measurements s.tables (slice_set s.tables.zone_measurements p.0 (Some p.1)))) s

-- ---- factors: a zone's weather, a band's profile
abbrev pub weather_ground : Sizes → State → WeatherTerms → Result (ℕ × Weather) Fault
weather_ground z s m =
    demand (shaped z s.tables) fault.BadTable
    (ask (in_range least_cv most_cv m.cv) fault.OutsideLimits (λ c.
    ask (in_range_either_way most_factor m.wcf) fault.OutsideLimits (λ w.
    ask (in_range 1 z.zones m.zone) fault.NotInBook (λ o.
    next (open_day z s.closed m.day) (λ d.
    Ok (at2 z.zones d (o - 1), record { cv = c; wcf = w }))))))

abbrev pub weather_after : Sizes → State → WeatherTerms → State
weather_after z s m =
    on_ok (weather_ground z s m) (λ p. with_tables s (with_weather s.tables (slice_set s.tables.weather p.0 (Some p.1)))) s

-- a band is a value, and no thing of the book
abbrev pub profile_ground : Sizes → State → ProfileTerms → Result (ℕ × Profile) Fault
profile_ground z s m =
    demand (shaped z s.tables) fault.BadTable
    (ask (in_range 1 most_bands m.band) fault.OutsideLimits (λ b.
    ask (in_range 0 most_alp m.alp) fault.OutsideLimits (λ a.
    ask (in_range_either_way most_factor m.daf) fault.OutsideLimits (λ f.
    next (open_day z s.closed m.day) (λ d.
    Ok (at2 most_bands d (b - 1), record { alp = a; daf = f }))))))

abbrev pub profile_after : Sizes → State → ProfileTerms → State
profile_after z s m =
    on_ok (profile_ground z s m) (λ p. with_tables s (with_profiles s.tables (slice_set s.tables.profiles p.0 (Some p.1)))) s

-- ---- records with a key
-- whether a register takes the record whose key the test tells: it has the key, or a free place
abbrev pub has_room : {R : Type 0} → (R → Bool) → List (Option R) → Bool
has_room p xs = nat_lt (put_place p xs) (length xs)

abbrev pub statement_record : Sizes → State → StatementTerms → Result Statement Fault
statement_record z s m =
    demand (shaped z s.tables) fault.BadTable
    (ask (in_range 0 most_quantity m.quantity) fault.OutsideLimits (λ q.
    ask (in_range 1 z.entries m.entry) fault.NotInBook (λ e.
    ask (in_range 1 z.users m.user) fault.NotInBook (λ u.
    next (open_day z s.closed m.day) (λ d.
    Ok (record { day = d; entry = e; user = u; quantity = q }))))))

-- what a register answers
abbrev pub put_told : {R : Type 0} → (R → Bool) → List (Option R) → Result (Unit {0}) Fault
put_told p xs = demand (has_room p xs) fault.RegisterFull (Ok tt)

-- the last ground: a register that is full
abbrev pub with_room : {R : Type 0} → (R → R → Bool) → Result R Fault → List (Option R) → Result R Fault
with_room same (Ok r) xs = demand (has_room (same r) xs) fault.RegisterFull (Ok r)
with_room same (Err e) xs = Err e

abbrev pub same_statement : Statement → Statement → Bool
same_statement r = statement_keyed (statement_key r)

abbrev pub statement_ground : Sizes → State → StatementTerms → Result Statement Fault
statement_ground z s m = with_room same_statement (statement_record z s m) s.tables.statements

abbrev pub statement_after : Sizes → State → StatementTerms → State
statement_after z s m =
    on_ok (statement_ground z s m) (λ r. with_tables s (with_statements s.tables (put_after (same_statement r) r s.tables.statements))) s

-- seller and buyer are users, and not one
abbrev pub trade_record : Sizes → State → TradeTerms → Result Trade Fault
trade_record z s m =
    demand (shaped z s.tables) fault.BadTable
    (ask (in_range 0 most_quantity m.quantity) fault.OutsideLimits (λ q.
    ask (in_range 1 z.users m.seller) fault.NotInBook (λ a.
    ask (in_range 1 z.users m.buyer) fault.NotInBook (λ b.
    demand (not (a == b)) fault.SelfTrade
    (next (open_day z s.closed m.day) (λ d.
    Ok (record { day = d; seller = a; buyer = b; quantity = q })))))))

abbrev pub same_trade : Trade → Trade → Bool
same_trade r = trade_keyed (trade_key r)

abbrev pub trade_ground : Sizes → State → TradeTerms → Result Trade Fault
trade_ground z s m = with_room same_trade (trade_record z s m) s.tables.trades

abbrev pub trade_after : Sizes → State → TradeTerms → State
trade_after z s m =
    on_ok (trade_ground z s m) (λ r. with_tables s (with_trades s.tables (put_after (same_trade r) r s.tables.trades))) s

-- ---- daily quantities, which read the point's row
-- a point's numbers are within their limits
abbrev pub point_within : Sizes → Point → Bool
point_within z p =
    (nat_le 1 p.zone && nat_le p.zone z.zones)
    && ((nat_le 1 p.user && nat_le p.user z.users)
    && ((nat_le 1 p.band && nat_le p.band most_bands)
    && (nat_le p.aq most_annual
    && (nat_le p.first_index most_index
    && (nat_le p.covered z.days
    && nat_le p.last_index most_index)))))

-- a row that should hold a point holds one, within its limits
abbrev pub row_within : Sizes → Option Point → Bool
row_within z (Some p) = point_within z p
row_within z None = false

-- the number of a point of the book; the row is read only for such a point
abbrev pub point_number : State → ℤ → Option ℕ
point_number s point = in_range 1 s.points point

abbrev pub row_of : Lists → ℕ → Option Point
row_of t n = slice_index_or t.points (n - 1) None

abbrev pub row_readable : Sizes → State → Option ℕ → Bool
row_readable z s (Some n) = row_within z (row_of s.tables n)
row_readable z s None = true

-- the row of a numbered point lies inside the table
abbrev pub RowsInside : Lists → Option ℕ → Type 0
RowsInside t (Some n) = (1 ≤ n) × (n ≤ length t.points)
RowsInside t None = Unit {0}

abbrev pub takes_daily_row : Option Point → Bool
takes_daily_row (Some p) = takes_daily p.class
takes_daily_row None = false

abbrev pub daily_record : Sizes → State → DailyQuantityTerms → Result DailyQuantity Fault
daily_record z s m =
    demand (shaped z s.tables) fault.BadTable
    (demand (row_readable z s (point_number s m.point)) fault.BadTable
    (ask (in_range 0 most_daily m.quantity) fault.OutsideLimits (λ q.
    ask (point_number s m.point) fault.NotInBook (λ n.
    next (open_day z s.closed m.day) (λ d.
    demand (takes_daily_row (row_of s.tables n)) fault.WrongClass
    (Ok (record { day = d; point = n; quantity = q })))))))

abbrev pub same_daily : DailyQuantity → DailyQuantity → Bool
same_daily r = daily_keyed (daily_key r)

abbrev pub daily_ground : Sizes → State → DailyQuantityTerms → Result DailyQuantity Fault
daily_ground z s m = with_room same_daily (daily_record z s m) s.tables.daily_quantities

abbrev pub daily_after : Sizes → State → DailyQuantityTerms → State
daily_after z s m =
    on_ok (daily_ground z s m) (λ r. with_tables s (with_daily_quantities s.tables (put_after (same_daily r) r s.tables.daily_quantities))) s
