-- When the check of a block fits, and that a burst of errors within two neighbouring rows never passes. A block is 16 rows of 16 bits: 14 rows and their check.
use Rattle.std.specs.Prelude.{◌≡◌, ℕ, ◌+◌, ◌*◌, ◌/◌, ◌%◌, ◌^◌, ◌<◌, ◌≤◌, Bool, List, [], ◌∷◌, ◌++◌, length, take, ◌==◌, ◌≢◌, slice_index}
use Rattle.crc.specs.Register.{check_of, row_bits}

-- n rows of 16 bits
pub record Rows (n : ℕ) (rows : List ℕ) : Type 0 where
  pub long : length rows ≡ n
  pub narrow : (i : ℕ) → i < n → slice_index rows i < 2 ^ 16

abbrev pub Block : List ℕ → Type 0
Block rows = Rows 16 rows

-- the number that rows n and n + 1 spell, the high half first
abbrev pub spelled_at : List ℕ → ℕ → ℕ
spelled_at rows n = slice_index rows n * 2 ^ 16 + slice_index rows (n + 1)

-- the last two rows spell the check over those before: as a fact, and as a test
abbrev pub CheckFits : List ℕ → Type 0
CheckFits rows = spelled_at rows 14 ≡ check_of (row_bits (take 14 rows))

abbrev pub check_fits : List ℕ → Bool
check_fits rows = spelled_at rows 14 == check_of (row_bits (take 14 rows))

-- two blocks differ in rows n and n + 1 alone
abbrev pub AlikeBut : ℕ → List ℕ → List ℕ → Type 0
AlikeBut n rows others = (i : ℕ) → i < 16 → (i ≢ n) → (i ≢ n + 1) → slice_index others i ≡ slice_index rows i

-- no other block that differs within two neighbouring rows fits
abbrev pub Alone : List ℕ → Type 0
Alone rows = (others : List ℕ) (n : ℕ) → Block others → n ≤ 14 → AlikeBut n rows others → (others ≢ rows) → CheckFits others → ⊥

abbrev pub BurstNeverPasses : Type 0
BurstNeverPasses = (rows : List ℕ) → Block rows → CheckFits rows → Alone rows

-- a block fits exactly if the register over all its 16 rows ends at 0
abbrev pub EndsAtZero : Type 0
EndsAtZero = (rows : List ℕ) → Block rows → (CheckFits rows → check_of (row_bits rows) ≡ 0) × (check_of (row_bits rows) ≡ 0 → CheckFits rows)

-- rows and after them the two halves of the check over them, the high half first
abbrev pub with_check : List ℕ → List ℕ
with_check rows = rows ++ check_of (row_bits rows) / 2 ^ 16 ∷ check_of (row_bits rows) % 2 ^ 16 ∷ []

-- 14 rows with their check are a block that fits
abbrev pub CheckedFits : Type 0
CheckedFits = (rows : List ℕ) → Rows 14 rows → Block (with_check rows) × CheckFits (with_check rows)
