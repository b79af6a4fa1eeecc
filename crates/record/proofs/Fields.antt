-- What is joined from parts is found again under each name.
use Rattle.std.proofs.Common.{◌≡◌, ℕ, ◌+◌, ◌*◌, ◌/◌, ◌%◌, ◌^◌, ◌<◌, true, List, get_or, arith, rules}
use Rattle.std.proofs.lemmas.Bool.Decides.{nat_tests}
use Rattle.std.specs.List.{AllByRecursion}
use Rattle.record.specs.Layout.{Name, Sync, Mv011, Mv101, NumMvBits, QScaleCode, width_of, found, rows_with, reserved_clear}

-- num_mv_bits is cut in two: its high bits stand in row 7, its low bits in row 9
high_bits : (a n : ℕ) → (a * 128 + (n / 4 % 64 * 2 + (0 * 1 + 0))) / 2 % 64 ≡ n / 4 % 64
high_bits a n = omega arith

low_bits : (a b n : ℕ) → (a * 128 + (b * 4 + (n / 1 % 4 * 1 + 0))) / 1 % 4 ≡ n % 4
low_bits a b n = omega arith

-- of values that fit their widths
module _ (values : Name → ℕ) (small : (n : Name) → values n < 2 ^ width_of n) where
  pub found_again : (n : Name) → found (rows_with values) n ≡ values n
  found_again NumMvBits = omega (arith, high_bits (values Mv011) (values NumMvBits), low_bits (values Mv101) (values QScaleCode) (values NumMvBits))
  found_again _ = omega arith

  -- the rows have 16 bits
  pub rows_narrow : AllByRecursion (λ row. row < 2 ^ 16) (rows_with values)
  rows_narrow = omega arith

-- what is found fits its width
pub found_small : (rows : List ℕ) (n : Name) → found rows n < 2 ^ width_of n
found_small rows Sync = omega arith
found_small rows _ = omega arith

-- the reserved bits, row by row
abbrev pub Cleared : List ℕ → Type 0
Cleared rows =
    (get_or rows 6 0 / 1 % 4 ≡ 0) × (get_or rows 7 0 / 1 % 2 ≡ 0) × (get_or rows 8 0 / 1 % 8 ≡ 0) × (get_or rows 10 0 / 1 % 8 ≡ 0) × (get_or rows 11 0 / 1 % 8 ≡ 0) × (get_or rows 12 0 / 1 % 4 ≡ 0) × (get_or rows 13 0 / 1 % 256 ≡ 0)

pub cleared : (rows : List ℕ) → reserved_clear rows ≡ true → Cleared rows
unfolding reserved_clear
cleared rows h = search rules

-- joined rows have them all 0
pub rows_clear : (values : Name → ℕ) → reserved_clear (rows_with values) ≡ true
unfolding reserved_clear
rows_clear values = grind (arith, nat_tests)
