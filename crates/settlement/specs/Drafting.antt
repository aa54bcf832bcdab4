-- A new book, and what a draft takes: points, and its start.
use Rattle.std.specs.Prelude.{◌≡◌, ◌+◌, Some, Ok, Err, Result, nat_lt, slice_set}
use Rattle.ledger.specs.Calendar.{whole_months}
use Rattle.ledger.specs.Ranges.{in_range}
use Rattle.ledger.specs.Grounds.{ask, demand, on_ok}
use Rattle.settlement.specs.Classes.{class_of}
use Rattle.settlement.specs.Limits.{most_annual, most_bands, most_entries, most_index, most_points, most_users, most_zones}
use Rattle.settlement.specs.Shape.{shaped}
use Rattle.settlement.specs.State.{Lists, Sizes, State, emptied, sizes, with_point_count, with_points, with_tables}
use Rattle.settlement.specs.declared.counts.Counts.{Counts}
use Rattle.settlement.specs.declared.draft.Draft.{Draft}
use Rattle.settlement.specs.declared.fault.Fault.{Fault}
use Rattle.settlement.specs.declared.fault.Fault.TheVariants as fault
use Rattle.settlement.specs.declared.live.Live.{Live}
use Rattle.settlement.specs.declared.rows.Point.{Point}
use Rattle.settlement.specs.declared.terms.BookTerms.{BookTerms}
use Rattle.settlement.specs.declared.terms.PointTerms.{PointTerms}

-- what comes next, where nothing was refused yet
abbrev pub next : {X Y : Type 0} → Result X Fault → (X → Result Y Fault) → Result Y Fault
next (Ok x) k = k x
next (Err e) k = Err e

-- ---- a new book
-- the counts that make a book: it begins with a month of the years 2000 to 2099 and has 1 to 400 Days
abbrev pub counts_ground : BookTerms → Result Sizes Fault
counts_ground b =
    ask (in_range 2000 2099 b.year) fault.OutsideLimits (λ y.
    ask (in_range 1 12 b.month) fault.OutsideLimits (λ m.
    ask (in_range 1 400 b.days) fault.OutsideLimits (λ d.
    ask (in_range 1 most_users b.users) fault.OutsideLimits (λ u.
    ask (in_range 1 most_entries b.entries) fault.OutsideLimits (λ e.
    ask (in_range 1 most_zones b.zones) fault.OutsideLimits (λ z.
    Ok (record { year = y; month = m; days = d; months = whole_months y m d; users = u; entries = e; zones = z })))))))

abbrev pub counted : Result Counts Fault → Result Sizes Fault
counted (Ok c) = Ok (sizes c)
counted (Err e) = Err e

-- and tables that are long enough for them
abbrev pub new_ground : BookTerms → Lists → Result Sizes Fault
new_ground b t = next (counts_ground b) (λ z. demand (shaped z t) fault.BadTable (Ok z))

-- the sizes of the draft that a call gives
abbrev pub drafted_sizes : {R : Type 0} → Result (Draft R) Fault → Result Sizes Fault
drafted_sizes (Ok d) = Ok (sizes d.counts)
drafted_sizes (Err e) = Err e

-- accepted, every row of every table and every place of every register is empty
abbrev pub new_after : BookTerms → Lists → Lists
new_after b t = on_ok (new_ground b t) (λ _. emptied t) t

-- ---- a point
-- the point that these terms describe, in a book of these sizes; no reading of it is entered yet
abbrev pub point_of : Sizes → PointTerms → Result Point Fault
point_of z p =
    ask (class_of p.class p.least_days) fault.OutsideLimits (λ c.
    ask (in_range 1 most_bands p.band) fault.OutsideLimits (λ b.
    ask (in_range 0 most_annual p.aq) fault.OutsideLimits (λ a.
    ask (in_range 0 most_index p.index) fault.OutsideLimits (λ i.
    ask (in_range 1 z.zones p.zone) fault.NotInBook (λ o.
    ask (in_range 1 z.users p.user) fault.NotInBook (λ u.
    Ok (record { zone = o; user = u; class = c; band = b; aq = a; first_index = i; covered = 0; last_index = i })))))))

abbrev pub point_ground : Sizes → State → PointTerms → Result Point Fault
point_ground z s p =
    demand (shaped z s.tables) fault.BadTable
    (next (point_of z p) (λ x.
    demand (nat_lt s.points most_points) fault.TooManyPoints
    (Ok x)))

-- the point goes into the next row
abbrev pub point_after : Sizes → State → PointTerms → State
point_after z s p =
    on_ok (point_ground z s p) (λ x. with_point_count (with_tables s (with_points s.tables (slice_set s.tables.points s.points (Some x)))) (s.points + 1)) s

-- ---- the start
abbrev pub start_ground : Sizes → State → Result (Unit {0}) Fault
start_ground z s =
    demand (shaped z s.tables) fault.BadTable
    (demand (nat_lt 0 s.points) fault.NoPoint
    (Ok tt))

-- a live book of a draft: its rule, counts and points; no Day and no month is closed, and no slip is in hand
pub record Begun {R : Type 0} (d : Draft R) (v : Live R) : Type 0 where
  pub same_rule : v.rule ≡ d.rule
  pub same_counts : v.counts ≡ d.counts
  pub same_points : v.points ≡ d.points
  pub none_closed : v.closed ≡ 0
  pub no_month : v.closed_months ≡ 0
  pub no_slip : v.slips ≡ 0

-- a draft is started, or the very same draft is handed back
abbrev pub Started : {R : Type 0} → Draft R → Result (Unit {0}) Fault → Result (Live R) (Draft R × Fault) → Type 0
Started d answer (Ok v) = (answer ≡ Ok tt) × Begun d v
Started d answer (Err p) = (answer ≡ Err p.1) × (p.0 ≡ d)
