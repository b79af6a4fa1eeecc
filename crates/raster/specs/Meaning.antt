-- What a look and a set mean, of any raster.
use Rattle.std.specs.Prelude.{◌≡◌, ℕ, ◌+◌, ◌*◌, ◌/◌, ◌<◌, Bool, cond, ◌&&◌, Ok, Err, Result, ◌==◌, nat_lt}
use Rattle.fault.specs.declared.Fault.{Fault}
use Rattle.fault.specs.declared.Fault.TheVariants.{Outside}

-- the row and the place lie inside the extent
abbrev pub inside : ℕ → ℕ → ℕ → ℕ → Bool
inside rows words row place = nat_lt row rows && nat_lt place words

-- the answer x inside the extent, and refusal 2 with the row and the place as asked outside it
abbrev pub answered : {A : Type 0} → ℕ → ℕ → ℕ → ℕ → A → Result A Fault
answered rows words row place x = cond (inside rows words row place) (Ok x) (Err (Outside row place))

-- x with its bit 0 replaced
abbrev pub with_bit : ℕ → Bool → ℕ
with_bit x bit = x / 2 * 2 + cond bit 1 0

-- the words after a set
abbrev pub replaced : (ℕ → ℕ → ℕ) → ℕ → ℕ → Bool → ℕ → ℕ → ℕ
replaced at row place bit i j = cond (i == row && j == place) (with_bit (at i j) bit) (at i j)

-- n is the number of the word at a row and a place inside, counted along the rows
pub record Numbered (rows words row place n : ℕ) : Type 0 where
  pub number : n ≡ row * words + place
  pub in_rows : row < rows
  pub in_words : place < words
  pub below : n < rows * words
