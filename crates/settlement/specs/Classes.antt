-- The classes of exit points, and what each carries.
use Rattle.std.specs.Prelude.{ℕ, Bool, true, false, cond, ◌&&◌, ℤ, pos, negsuc, Some, None, Option, ◌==◌}
use Rattle.settlement.specs.declared.rows.Class.{Class}
use Rattle.settlement.specs.declared.rows.Class.TheVariants.{One, Two, Three, Four}
use Rattle.settlement.specs.declared.rows.ReadFrequency.{ReadFrequency}
use Rattle.settlement.specs.declared.rows.ReadFrequency.TheVariants.{Monthly, Annual, AnnualSmaller}

-- the least days between two readings of class 4
abbrev pub frequency_days : ReadFrequency → ℕ
frequency_days Monthly = 7
frequency_days Annual = 14
frequency_days AnnualSmaller = 25

-- the number of a class
abbrev pub class_number : Class → ℕ
class_number One = 1
class_number Two = 2
class_number Three = 3
class_number (Four f) = 4

-- the least days that a class carries
abbrev pub least_days : Class → ℕ
least_days One = 0
least_days Two = 0
least_days Three = 1
least_days (Four f) = frequency_days f

-- whether a number is just this one
abbrev pub is : ℕ → ℤ → Bool
is n (pos m) = m == n
is n (negsuc m) = false

-- whether these are the number and the least days of a class
abbrev pub names : Class → ℤ → ℤ → Bool
names c class days = is (class_number c) class && is (least_days c) days

-- the class with this number and these least days, if there is one
abbrev pub class_of : ℤ → ℤ → Option Class
class_of class days =
    cond (names One class days) (Some One)
    (cond (names Two class days) (Some Two)
    (cond (names Three class days) (Some Three)
    (cond (names (Four Monthly) class days) (Some (Four Monthly))
    (cond (names (Four Annual) class days) (Some (Four Annual))
    (cond (names (Four AnnualSmaller) class days) (Some (Four AnnualSmaller))
    None)))))

-- classes 1 and 2 take daily quantities, classes 3 and 4 readings
abbrev pub takes_daily : Class → Bool
takes_daily One = true
takes_daily Two = true
takes_daily Three = false
takes_daily (Four f) = false
