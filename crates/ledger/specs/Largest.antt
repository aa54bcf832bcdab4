-- The largest-remainder rule: each row gets its part rounded down, and what is left goes, one unit each, to the rows of largest remainder.
use Rattle.std.specs.Prelude.{ℕ, ◌+◌, ◌-◌, ◌*◌, ◌/◌, ◌%◌, ◌<◌, ◌≤◌, cond, List, [], ◌∷◌, map, length, sum, count_by, nat_le, nat_lt, unsigned_abs}
use Rattle.ledger.specs.Laws.{Shares, most_total, most_weights, most_weight_sum}
use Rattle.ledger.specs.Signs.{signed}

-- the whole parts of size * weight / w
abbrev pub floors : (size w : ℕ) → List ℕ → List ℕ
floors size w ws = map (λ x. size * x / w) ws

-- and what remains of each
abbrev pub remainders : (size w : ℕ) → List ℕ → List ℕ
remainders size w ws = map (λ x. size * x % w) ws

-- how many rows come before a row with the remainder r: of the earlier rows those whose remainder is no smaller, of the later ones those whose remainder is larger
abbrev pub ahead : (earlier : List ℕ) (r : ℕ) (later : List ℕ) → ℕ
ahead earlier r later = count_by (λ s. nat_le r s) earlier + count_by (λ s. nat_lt r s) later

-- one unit to each of the rows of remainders `rs` that have fewer than `left` rows ahead of them; `earlier` holds the rows before
abbrev pub extras : (left : ℕ) (earlier rs : List ℕ) → List ℕ
extras left earlier [] = []
extras left earlier (r ∷ rs) = cond (nat_lt (ahead earlier r rs) left) 1 0 ∷ extras left (r ∷ earlier) rs

abbrev pub row_by_row : List ℕ → List ℕ → List ℕ
row_by_row [] ys = []
row_by_row (x ∷ xs) [] = []
row_by_row (x ∷ xs) (y ∷ ys) = (x + y) ∷ row_by_row xs ys

-- what the rows get: their floors, and an extra unit for as many rows as the floors leave units
abbrev pub portions : (size w : ℕ) → List ℕ → List ℕ
portions size w ws = row_by_row (floors size w ws) (extras (size - sum (floors size w ws)) [] (remainders size w ws))

abbrev pub largest : Shares
largest total weights = map (signed total) (portions (unsigned_abs total) (sum weights) weights)

-- what keeps the products and sums of a calculation within 64 bits
pub record Small (size divisor : ℕ) (weights : List ℕ) : Type 0 where
  pub size_small : size ≤ most_total
  pub weights_few : length weights ≤ most_weights
  pub weights_small : sum weights ≤ most_weight_sum
  pub divides : 0 < divisor
