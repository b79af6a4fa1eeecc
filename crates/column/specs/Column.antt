-- A block in a column of a slab. A slab is a raster of 16 rows; its column c is the words 32c to 32c + 31 of each row, in the order Cb Y Cr Y.
-- Row i of the block travels in row i of the column: bit k, where bit 0 is the most significant of 16, in bit 0 of the chroma word 32c + 2k.
use Rattle.std.specs.Prelude.{◌≡◌, ℕ, zero, suc, ◌+◌, ◌-◌, ◌*◌, ◌/◌, ◌%◌, ◌^◌, ◌<◌, ◌≤◌, Bool, false, cond, ◌&&◌, List, map, Ok, Err, Result, ◌==◌, ◌≢◌, nat_le, nat_lt, slice_index}
use Rattle.fault.specs.declared.Fault.{Fault}
use Rattle.fault.specs.declared.Fault.TheVariants.{SlabExtent, NotInFormat}
use Rattle.std.specs.List.{range_with_len}
use Rattle.raster.specs.Difference.{differing}
use Rattle.column.specs.Scramble.{scrambled, unscrambled}

-- the answer x, if the raster is a slab and the column lies wholly inside it
abbrev pub within : {A : Type 0} → ℕ → ℕ → ℕ → A → Result A Fault
within rows words column x = cond (rows == 16) (cond (nat_le (32 * column + 32) words) (Ok x) (Err NotInFormat)) (Err SlabExtent)

-- the word at row i and place j is a chroma word of the column, which carries a bit
abbrev pub carrying : ℕ → ℕ → ℕ → Bool
carrying column i j = nat_lt i 16 && nat_le (32 * column) j && nat_lt j (32 * column + 32) && j % 2 == 0

-- bit k of a row of the block
abbrev pub bit_at : ℕ → ℕ → ℕ
bit_at row k = row / 2 ^ (15 - k) % 2

-- the chroma word at j of a line of words, once it carries d
abbrev pub laden : (ℕ → ℕ) → ℕ → ℕ → ℕ
laden line j d = line j / 2 * 2 + scrambled (line j) (line (j + 1)) d

-- the words once the column carries the block
abbrev pub embedded : (ℕ → ℕ → ℕ) → ℕ → List ℕ → ℕ → ℕ → ℕ
embedded at column block i j = cond (carrying column i j) (laden (at i) j (bit_at (slice_index block i) ((j - 32 * column) / 2))) (at i j)

-- the number that the first n chroma words of a line carry, from the word `first` on
unfoldable pub spelled : (ℕ → ℕ) → ℕ → ℕ → ℕ
spelled line first zero = 0
spelled line first (suc n) = spelled line first n * 2 + unscrambled (line (first + 2 * n)) (line (first + 2 * n + 1))

-- row i of the block that the column carries, and the block
abbrev pub carried_row : (ℕ → ℕ → ℕ) → ℕ → ℕ → ℕ
carried_row at column i = spelled (at i) (32 * column) 16

unfoldable pub carried_rows : (ℕ → ℕ → ℕ) → ℕ → List ℕ
carried_rows at column = map (carried_row at column) (range_with_len 0 16)

-- What a write to a column of a slab leaves of the words that were there: what each other column in the slab carries; all but bit 0 of the
-- words that carry the column's bits; and so all but 256 words.
abbrev pub OthersKept : (ℕ → ℕ → ℕ) → (ℕ → ℕ → ℕ) → ℕ → ℕ → ℕ → Type 0
OthersKept at at' rows words column = (c : ℕ) → (c ≢ column) → 16 ≤ rows → 32 * c + 32 ≤ words → carried_rows at' c ≡ carried_rows at c

abbrev pub OnlyLowBits : (ℕ → ℕ → ℕ) → (ℕ → ℕ → ℕ) → ℕ → ℕ → ℕ → Type 0
OnlyLowBits at at' rows words column = (i j : ℕ) → i < rows → j < words → (at' i j / 2 ≡ at i j / 2) × (carrying column i j ≡ false → at' i j ≡ at i j)

abbrev pub FewDiffer : (ℕ → ℕ → ℕ) → (ℕ → ℕ → ℕ) → ℕ → ℕ → Type 0
FewDiffer at at' rows words = differing at at' rows words ≤ 256
