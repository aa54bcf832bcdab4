-- Where the places of a table lie, and what is found in it after a write.
use Rattle.std.specs.Prelude.{◌≡◌, ℕ, ◌+◌, ◌*◌, ◌<◌, ◌≤◌, cond, ◌&&◌, List, length, ℤ, sum_by, ◌==◌, ◌≢◌, slice_index_or, slice_set}
use Rattle.ledger.specs.Places.{at2, at3, line, with_line, with_lines, put_line_after}
use Rattle.ledger.specs.Sums.{sum_to, sumℤ_to, sumℤ_by}

-- the lines of a block that is written have the width
abbrev pub Wide : {X : Type 0} → ℕ → ℕ → (ℕ → List X) → Type 0
Wide n width new = (k : ℕ) → k < n → length (new k) ≡ width

-- the laws, at any type of rows
pub record PlaceLaws (X : Type 0) : Type 0 where
  -- a place lies inside the table
  pub inside2 : (rows width row column : ℕ) → row < rows → column < width → at2 width row column < rows * width
  pub inside3 : (blocks lines width block line column : ℕ) → block < blocks → line < lines → column < width → at3 lines width block line column < blocks * lines * width
  -- two places are one only at the same indices
  pub same2 : (width row column r c : ℕ) → column < width → c < width → at2 width r c ≡ at2 width row column → (r ≡ row) × (c ≡ column)
  pub same3 : (lines width block line column b l c : ℕ) → line < lines → l < lines → column < width → c < width → at3 lines width b l c ≡ at3 lines width block line column → (b ≡ block) × (l ≡ line) × (c ≡ column)
  -- a place that was set holds what was written, and every other what it held
  pub frame2 : (xs : List X) (width row column : ℕ) (new none : X) → at2 width row column < length xs → column < width → (r c : ℕ) → c < width → slice_index_or (slice_set xs (at2 width row column) new) (at2 width r c) none ≡ cond (r == row && c == column) new (slice_index_or xs (at2 width r c) none)
  pub frame3 : (xs : List X) (lines width block line column : ℕ) (new none : X) → at3 lines width block line column < length xs → line < lines → column < width → (b l c : ℕ) → l < lines → c < width → slice_index_or (slice_set xs (at3 lines width block line column) new) (at3 lines width b l c) none ≡ cond (b == block && (l == line && c == column)) new (slice_index_or xs (at3 lines width b l c) none)
  -- a place by its line
  pub in_line : (width row column : ℕ) (xs : List X) (none : X) → column < width → slice_index_or (line width row xs) column none ≡ slice_index_or xs (at2 width row column) none
  -- a line that was written holds what was written, and every other line what it held
  pub line_frame : (xs : List X) (width row : ℕ) (new : List X) (none : X) → length new ≡ width → row * width + width ≤ length xs → (r c : ℕ) → c < width → slice_index_or (with_line width row new xs) (at2 width r c) none ≡ cond (r == row) (slice_index_or new c none) (slice_index_or xs (at2 width r c) none)
  -- likewise a block of lines
  pub block_inside : (xs : List X) (lines width block : ℕ) (new : ℕ → List X) (none : X) → Wide lines width new → (block * lines + lines) * width ≤ length xs → (l c : ℕ) → l < lines → c < width → slice_index_or (with_lines width new (block * lines) lines xs) (at3 lines width block l c) none ≡ slice_index_or (new l) c none
  pub block_outside : (xs : List X) (lines width block : ℕ) (new : ℕ → List X) (none : X) → Wide lines width new → (block * lines + lines) * width ≤ length xs → (b l c : ℕ) → (b ≢ block) → l < lines → c < width → slice_index_or (with_lines width new (block * lines) lines xs) (at3 lines width b l c) none ≡ slice_index_or xs (at3 lines width b l c) none
  -- every write keeps the length
  pub set_keeps_length : (xs : List X) (i : ℕ) (new : X) → length (slice_set xs i new) ≡ length xs
  pub line_keeps_length : (xs : List X) (width row : ℕ) (new : List X) → length new ≡ width → row * width + width ≤ length xs → length (with_line width row new xs) ≡ length xs
  pub put_keeps_length : (xs : List X) (width row : ℕ) (new : List X) → length (put_line_after width row new xs) ≡ length xs
  pub block_keeps_length : (xs : List X) (n width first : ℕ) (new : ℕ → List X) → Wide n width new → (first + n) * width ≤ length xs → length (with_lines width new first n xs) ≡ length xs
  -- the sum of a line is the sum over its columns
  pub line_sum : (f : X → ℕ) (width row : ℕ) (xs : List X) (none : X) → row * width + width ≤ length xs → sum_by f (line width row xs) ≡ sum_to width (λ c. f (slice_index_or xs (at2 width row c) none))
  pub line_sumℤ : (f : X → ℤ) (width row : ℕ) (xs : List X) (none : X) → row * width + width ≤ length xs → sumℤ_by f (line width row xs) ≡ sumℤ_to width (λ c. f (slice_index_or xs (at2 width row c) none))
