-- Numbers as a text has them, within limits.
use Rattle.std.specs.Prelude.{ℕ, cond, ◌&&◌, ℤ, pos, negsuc, Some, None, Option, nat_le, unsigned_abs}

-- the number, where it lies from `low` to `high`
abbrev pub in_range : ℕ → ℕ → ℤ → Option ℕ
in_range low high (pos n) = cond (nat_le low n && nat_le n high) (Some n) None
in_range low high (negsuc n) = None

-- the number, where it is at most `most` either way
abbrev pub in_range_either_way : ℕ → ℤ → Option ℤ
in_range_either_way most z = cond (nat_le (unsigned_abs z) most) (Some z) None
