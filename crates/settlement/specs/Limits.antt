-- The limits of a book: each is one definition.
use Rattle.std.specs.Prelude.{ℕ}

-- ---- counts
abbrev pub most_users : ℕ
most_users = 16

abbrev pub most_entries : ℕ
most_entries = 8

abbrev pub most_zones : ℕ
most_zones = 4

abbrev pub most_points : ℕ
most_points = 48

abbrev pub most_bands : ℕ
most_bands = 9

abbrev pub most_slips : ℕ
most_slips = 32

-- ---- quantities, in kWh
-- a measurement, a statement or a trade
abbrev pub most_quantity : ℕ
most_quantity = 50000000

-- a daily quantity at an exit point
abbrev pub most_daily : ℕ
most_daily = 1000000

-- an annual quantity
abbrev pub most_annual : ℕ
most_annual = 300000000

-- ---- a meter's index, in cubic metres
abbrev pub most_index : ℕ
most_index = 999999

-- ---- factors
-- ALP, in thousandths
abbrev pub most_alp : ℕ
most_alp = 5000

-- DAF and WCF, in thousandths, either way
abbrev pub most_factor : ℕ
most_factor = 2000

-- the calorific value, in tenths of MJ per cubic metre
abbrev pub least_cv : ℕ
least_cv = 300

abbrev pub most_cv : ℕ
most_cv = 450
