-- How long the tables are that a book of these sizes asks for. Registers may have any length.
use Rattle.std.specs.Prelude.{◌≡◌, ◌*◌, ◌≤◌, Bool, true, ◌&&◌, length, nat_le}
use Rattle.settlement.specs.Limits.{most_bands, most_points}
use Rattle.settlement.specs.State.{Lists, Sizes}

-- the tables of what is given: points, measurements and factors
abbrev pub records_shaped : Sizes → Lists → Bool
records_shaped z t =
    nat_le most_points (length t.points)
    && (nat_le (z.days * z.entries) (length t.entry_measurements)
    && (nat_le (z.days * z.zones) (length t.zone_measurements)
    && (nat_le (z.days * z.zones) (length t.weather)
    && nat_le (z.days * most_bands) (length t.profiles))))

-- the tables of what is worked out
abbrev pub figures_shaped : Sizes → Lists → Bool
figures_shaped z t =
    nat_le (z.days * z.entries * z.users) (length t.inputs)
    && (nat_le (z.days * most_points) (length t.outputs)
    && (nat_le (most_points * z.days) (length t.prevailing)
    && (nat_le (z.days * z.zones * z.users) (length t.zone_figures)
    && (nat_le (z.days * z.users) (length t.balances)
    && (nat_le (z.zones * z.users) (length t.reconciliations)
    && nat_le (z.months * z.zones * z.users) (length t.months))))))

-- no table is short
unfoldable pub shaped : Sizes → Lists → Bool
shaped z t = records_shaped z t && figures_shaped z t

-- no table is short: how long each is then
pub record Long (z : Sizes) (t : Lists) : Type 0 where
  pub none_short : shaped z t ≡ true
  pub points : most_points ≤ length t.points
  pub entry_measurements : z.days * z.entries ≤ length t.entry_measurements
  pub zone_measurements : z.days * z.zones ≤ length t.zone_measurements
  pub weather : z.days * z.zones ≤ length t.weather
  pub profiles : z.days * most_bands ≤ length t.profiles
  pub inputs : z.days * z.entries * z.users ≤ length t.inputs
  pub outputs : z.days * most_points ≤ length t.outputs
  pub prevailing : most_points * z.days ≤ length t.prevailing
  pub zone_figures : z.days * z.zones * z.users ≤ length t.zone_figures
  pub balances : z.days * z.users ≤ length t.balances
  pub reconciliations : z.zones * z.users ≤ length t.reconciliations
  pub months : z.months * z.zones * z.users ≤ length t.months
