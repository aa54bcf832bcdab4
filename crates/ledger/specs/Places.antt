-- Tables with two or three indices, row after row in one list.
use Rattle.std.specs.Prelude.{ℕ, zero, suc, ◌+◌, ◌*◌, Bool, cond, ◌&&◌, List, ◌++◌, length, take, drop, ◌==◌, nat_le}

-- the place of a column in a row of so many columns
abbrev pub at2 : ℕ → ℕ → ℕ → ℕ
at2 width row column = row * width + column

-- the place of a column in a line of a block of so many lines
abbrev pub at3 : ℕ → ℕ → ℕ → ℕ → ℕ → ℕ
at3 lines width block line column = at2 width (at2 lines block line) column

-- the places of one row
abbrev pub line : {X : Type 0} → ℕ → ℕ → List X → List X
line width row xs = take width (drop (row * width) xs)

-- the table with other places for one row
abbrev pub with_line : {X : Type 0} → ℕ → ℕ → List X → List X → List X
with_line width row new xs = take (row * width) xs ++ (new ++ drop width (drop (row * width) xs))

-- the table with new 0, .., new (n - 1) for n of its rows, from the row `first` on
abbrev pub with_lines : {X : Type 0} → ℕ → (ℕ → List X) → ℕ → ℕ → List X → List X
with_lines width new first zero xs = xs
with_lines width new first (suc n) xs = with_line width (first + n) (new n) (with_lines width new first n xs)

-- whether a row lies inside a list of so many places
abbrev pub lies_inside : ℕ → ℕ → ℕ → Bool
lies_inside width row places = nat_le (row * width + width) places

-- a row is written if it lies inside, and what is written has its width
abbrev pub is_written : {X : Type 0} → ℕ → ℕ → List X → List X → Bool
is_written width row new xs = length new == width && lies_inside width row (length xs)

abbrev pub put_line_after : {X : Type 0} → ℕ → ℕ → List X → List X → List X
put_line_after width row new xs = cond (is_written width row new xs) (with_line width row new xs) xs
