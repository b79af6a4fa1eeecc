-- How a bit travels in bit 0 of a chroma word. A bit is the number 0 or 1.
use Rattle.std.specs.Prelude.{ℕ, ◌+◌, ◌/◌, ◌%◌, Bool, cond, ◌==◌, count_ones}

-- the parity of a word: 1 if an odd number of its eight upper bits are set; bits 1 and 0 do not count
abbrev pub parity : ℕ → ℕ
parity x = count_ones (x / 4 % 256) % 2

-- what bit 0 of a chroma word becomes, where luma is the word after it
abbrev pub scrambled : ℕ → ℕ → ℕ → ℕ
scrambled chroma luma d = (d + parity chroma + parity luma) % 2

-- the bit that a chroma word carries: the same sum, of its bit 0
abbrev pub unscrambled : ℕ → ℕ → ℕ
unscrambled chroma luma = scrambled chroma luma (chroma % 2)

-- a bit as a truth value, and a truth value as a bit
abbrev pub is_one : ℕ → Bool
is_one d = d == 1

abbrev pub one_if : Bool → ℕ
one_if b = cond b 1 0
