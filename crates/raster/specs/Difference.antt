-- How many words differ between two rasters of one extent.
use Rattle.std.specs.Prelude.{ℕ, zero, suc, ◌+◌, cond, ◌==◌}

-- among the first n words of two rows
unfoldable pub differing_words : (ℕ → ℕ) → (ℕ → ℕ) → ℕ → ℕ
differing_words a b zero = 0
differing_words a b (suc n) = differing_words a b n + cond (a n == b n) 0 1

-- among the first rows, of so many words each
unfoldable pub differing : (ℕ → ℕ → ℕ) → (ℕ → ℕ → ℕ) → ℕ → ℕ → ℕ
differing at at' zero words = 0
differing at at' (suc rows) words = differing at at' rows words + differing_words (at rows) (at' rows) words
