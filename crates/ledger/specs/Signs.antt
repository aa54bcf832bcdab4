-- A size with a sign.
use Rattle.std.specs.Prelude.{ℕ, ℤ, pos, negsuc, neg_ℤ}

-- a size with the sign of a total, so that a negative total is cut toward zero as a positive one is
abbrev pub signed : ℤ → ℕ → ℤ
signed (pos _) size = pos size
signed (negsuc _) size = neg_ℤ (pos size)
