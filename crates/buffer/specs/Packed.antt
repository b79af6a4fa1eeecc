-- The packed buffer: each five bytes hold four words, from the highest bit down, and a row begins where the one before it ends.
use Rattle.std.specs.Prelude.{◌≡◌, ℕ, ◌+◌, ◌-◌, ◌*◌, ◌/◌, ◌%◌, ◌^◌, ◌<◌, ◌≤◌, Bool, cond, List, slice_index}
use Rattle.std.proofs.Common.{arith, ◌∙◌, ap, sym, mul_assoc}
use Rattle.raster.specs.declared.extent.Extent.{Extent}
use Rattle.buffer.specs.Size.{bytes_of}

abbrev pub byte_at : List ℕ → ℕ → ℕ
byte_at m i = slice_index m i % 256

-- five bytes as one number of forty bits, the first byte highest
abbrev pub forty : ℕ → ℕ → ℕ → ℕ → ℕ → ℕ
forty a b c d e = a * 4294967296 + b * 16777216 + c * 65536 + d * 256 + e

-- the g-th five bytes of memory
abbrev pub group : List ℕ → ℕ → ℕ
group m g = forty (byte_at m (g * 5)) (byte_at m (g * 5 + 1)) (byte_at m (g * 5 + 2)) (byte_at m (g * 5 + 3)) (byte_at m (g * 5 + 4))

-- the q-th ten bits of forty, the highest first
abbrev pub ten_of : ℕ → ℕ → ℕ
ten_of v q = v / 2 ^ (30 - 10 * q) % 1024

-- the n-th word of memory, and the word at row i and place j in rows of w
unfoldable pub packed_word : List ℕ → ℕ → ℕ
packed_word m n = ten_of (group m (n / 4)) (n % 4)

abbrev pub packed_at : List ℕ → ℕ → ℕ → ℕ → ℕ
packed_at m w i j = packed_word m (i * w + j)

-- all of the n-th word but bit 0
abbrev pub packed_above : List ℕ → ℕ → ℕ
packed_above m n = packed_word m n / 2

pub packed_ten : (m : List ℕ) (n : ℕ) → packed_word m n < 1024
unfolding packed_word
packed_ten m n = omega arith

-- Bit 0 of the n-th word stands in this byte of memory, at the value 64, 16, 4 or 1 by its place among the four.
abbrev pub home_of : ℕ → ℕ
home_of n = n / 4 * 5 + 1 + n % 4

abbrev pub unit_of : ℕ → ℕ
unit_of q = 2 ^ (6 - 2 * q)

-- x with the bit of value u replaced
abbrev pub with_unit : ℕ → ℕ → Bool → ℕ
with_unit x u bit = x / (2 * u) * (2 * u) + cond bit u 0 + x % u

-- that byte after a set
abbrev pub byte_written : List ℕ → ℕ → Bool → ℕ
byte_written m n bit = with_unit (byte_at m (home_of n)) (unit_of (n % 4)) bit

-- the ten bits of two bytes that end with the bit of value unit_of q
abbrev pub across : ℕ → ℕ → ℕ → ℕ
across q x y = (x * 256 + y) / unit_of q % 1024

-- rows of words that are a multiple of four are so many fours
fours : (e : Extent) → e.words % 4 ≡ 0 → e.rows * e.words ≡ e.rows * (e.words / 4) * 4
fours e f = let wide : e.words ≡ e.words / 4 * 4 = omega (arith, f) in ap (λ x. e.rows * x) wide ∙ sym (mul_assoc e.rows (e.words / 4) 4)

pub bytes_enough : (e : Extent) → e.words % 4 ≡ 0 → e.rows * e.words ≤ bytes_of e
bytes_enough e f = omega (arith, fours e f)

pub bytes_within : (e : Extent) (n : ℕ) → e.words % 4 ≡ 0 → n < e.rows * e.words → home_of n < bytes_of e
bytes_within e n f h = omega (arith, fours e f)
