-- What the private functions do through the window of a column, 16 rows of 32 words from a first word on.
use Rattle.std.specs.Prelude.{ℕ, ◌+◌, ◌-◌, ◌*◌, ◌/◌, ◌%◌, ◌^◌, ◌<◌, ◌≤◌, Bool, cond, ◌&&◌, List, map, ◌==◌, nat_le, nat_lt, slice_index}
use Rattle.std.specs.List.{range_with_len}
use Rattle.column.specs.Column.{bit_at, laden, spelled}

-- the window lies inside a raster, and its extent fits 64 bits, so that no place in the window overflows
pub record Lies (first rows words : ℕ) : Type 0 where
  pub high : 16 ≤ rows
  pub wide : first + 32 ≤ words
  pub rows_fit : rows < 2 ^ 64
  pub words_fit : words < 2 ^ 64

-- j is one of the first n chroma words from the word `first` on
abbrev pub among : ℕ → ℕ → ℕ → Bool
among first n j = nat_le first j && nat_lt j (first + 2 * n) && (j - first) % 2 == 0

-- a line of words, once the first n chroma words carry those bits of a row
abbrev pub line_to : (ℕ → ℕ) → ℕ → ℕ → ℕ → ℕ → ℕ
line_to line first row n j = cond (among first n j) (laden line j (bit_at row ((j - first) / 2))) (line j)

-- the words, once the first n rows of the window carry those of the block
abbrev pub rows_to : (ℕ → ℕ → ℕ) → ℕ → List ℕ → ℕ → ℕ → ℕ → ℕ
rows_to at first block n i j = cond (nat_lt i n) (line_to (at i) first (slice_index block i) 16 j) (at i j)

-- row i of the block that the window carries, and the block
abbrev pub row_of : (ℕ → ℕ → ℕ) → ℕ → ℕ → ℕ
row_of at first i = spelled (at i) first 16

unfoldable pub rows_of : (ℕ → ℕ → ℕ) → ℕ → List ℕ
rows_of at first = map (row_of at first) (range_with_len 0 16)
