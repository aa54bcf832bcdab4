-- The Gregorian calendar, and a span of days that begins on the first day of a month. In a year months count from 1; in a span days and months count from 0.
use Rattle.std.specs.Prelude.{◌≡◌, ℕ, suc, ◌+◌, ◌-◌, ◌/◌, ◌%◌, Bool, cond, not, ◌&&◌, ◌||◌, ◌⊎◌, ℤ, Some, None, Option, ◌==◌, nat_le}
use Rattle.ledger.specs.Ranges.{in_range}
use Rattle.ledger.specs.Sums.{sum_to}

-- divisible by 4 and not by 100, or by 400
abbrev pub is_leap : ℕ → Bool
is_leap year = (year % 4 == 0 && not (year % 100 == 0)) || year % 400 == 0

-- February has 28 days, or 29; April, June, September and November have 30; every other month has 31
abbrev pub month_days : ℕ → ℕ → ℕ
month_days year month =
    cond (month == 2) (cond (is_leap year) 29 28)
    (cond (month == 4 || (month == 6 || (month == 9 || month == 11))) 30 31)

abbrev pub days_in_month : ℕ → ℕ → Option ℕ
days_in_month year month = cond (nat_le 1 month && nat_le month 12) (Some (month_days year month)) None

-- numbers that make a span: a year from 2000 to 2099, a month from 1 to 12, 1 to 400 days
abbrev pub Spans : ℕ → ℕ → ℕ → ℤ → ℤ → ℤ → Type 0
Spans y m d year month days = (in_range 2000 2099 year ≡ Some y) × (in_range 1 12 month ≡ Some m) × (in_range 1 400 days ≡ Some d)

-- numbers that make none: one of them lies outside
abbrev pub NoSpan : ℤ → ℤ → ℤ → Type 0
NoSpan year month days = (in_range 2000 2099 year ≡ None) ⊎ ((in_range 1 12 month ≡ None) ⊎ (in_range 1 400 days ≡ None))

-- the year and the month of the year of month m, where month 0 is `month` of `year`
abbrev pub year_of : ℕ → ℕ → ℕ → ℕ
year_of year month m = year + (month - 1 + m) / 12

abbrev pub month_of : ℕ → ℕ → ℕ
month_of month m = (month - 1 + m) % 12 + 1

-- how many days month m has
abbrev pub length_of : ℕ → ℕ → ℕ → ℕ
length_of year month m = month_days (year_of year month m) (month_of month m)

-- the first day of month m: the days of all months before it
abbrev pub first_day : ℕ → ℕ → ℕ → ℕ
first_day year month m = sum_to m (length_of year month)

-- how many of the first n months end within so many days
abbrev pub whole_to : ℕ → ℕ → ℕ → ℕ → ℕ
whole_to n year month days = sum_to n (λ m. cond (nat_le (first_day year month (suc m)) days) 1 0)

-- how many months lie wholly inside: fourteen months have more than 400 days
unfoldable pub whole_months : ℕ → ℕ → ℕ → ℕ
whole_months year month days = whole_to 14 year month days

-- the days of the twelve months that end with month m, or of as many as there are
abbrev pub window_first : ℕ → ℕ → ℕ → ℕ
window_first year month m = first_day year month (m - 11)

abbrev pub window_end : ℕ → ℕ → ℕ → ℕ
window_end year month m = first_day year month (suc m)
