-- What tells one record of a register from another, and the Day to which it belongs.
use Rattle.std.specs.Prelude.{ℕ, Bool, ◌&&◌, ◌==◌}
use Rattle.settlement.specs.declared.day_records.Statement.{Statement}
use Rattle.settlement.specs.declared.day_records.StatementKey.{StatementKey}
use Rattle.settlement.specs.declared.day_records.DailyQuantity.{DailyQuantity}
use Rattle.settlement.specs.declared.day_records.DailyQuantityKey.{DailyQuantityKey}
use Rattle.settlement.specs.declared.day_records.Trade.{Trade}
use Rattle.settlement.specs.declared.day_records.TradeKey.{TradeKey}

-- ---- statements: Day, entry point, user
abbrev pub statement_key : Statement → StatementKey
statement_key r = record { day = r.day; entry = r.entry; user = r.user }

abbrev pub statement_day : StatementKey → ℕ
statement_day k = k.day

abbrev pub statement_keyed : StatementKey → Statement → Bool
statement_keyed k r = r.day == k.day && (r.entry == k.entry && r.user == k.user)

abbrev pub statement_on : ℕ → Statement → Bool
statement_on day r = r.day == day

-- ---- daily quantities: Day, point
abbrev pub daily_key : DailyQuantity → DailyQuantityKey
daily_key r = record { day = r.day; point = r.point }

abbrev pub daily_day : DailyQuantityKey → ℕ
daily_day k = k.day

abbrev pub daily_keyed : DailyQuantityKey → DailyQuantity → Bool
daily_keyed k r = r.day == k.day && r.point == k.point

abbrev pub daily_on : ℕ → DailyQuantity → Bool
daily_on day r = r.day == day

-- ---- trades: Day, seller, buyer
abbrev pub trade_key : Trade → TradeKey
trade_key r = record { day = r.day; seller = r.seller; buyer = r.buyer }

abbrev pub trade_day : TradeKey → ℕ
trade_day k = k.day

abbrev pub trade_keyed : TradeKey → Trade → Bool
trade_keyed k r = r.day == k.day && (r.seller == k.seller && r.buyer == k.buyer)

abbrev pub trade_on : ℕ → Trade → Bool
trade_on day r = r.day == day
