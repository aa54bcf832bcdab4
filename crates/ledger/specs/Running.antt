-- The running rule: a row gets what the total's part up to it grows by.
use Rattle.std.specs.Prelude.{ℕ, ◌+◌, ◌-◌, ◌*◌, ◌/◌, List, [], ◌∷◌, map, sum, unsigned_abs}
use Rattle.ledger.specs.Laws.{Shares}
use Rattle.ledger.specs.Signs.{signed}

-- what each of the weights `ws` gets of `size`, after weights that add up to `c`, where all weights add up to `w`:
-- the whole part of size * C / w, less that of the row before, where C sums the weights up to and with the row
abbrev pub growths : (size w c : ℕ) → List ℕ → List ℕ
growths size w c [] = []
growths size w c (x ∷ xs) = (size * (c + x) / w - size * c / w) ∷ growths size w (c + x) xs

abbrev pub running : Shares
running total weights = map (signed total) (growths (unsigned_abs total) (sum weights) 0 weights)
