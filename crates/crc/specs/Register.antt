-- The check register of ISO/IEC 13818-1, annex A: CRC-32/MPEG-2. It has 32 bits. A message is a list of bits, which enter one after the other.
use Rattle.std.specs.Prelude.{◌≡◌, ℕ, zero, suc, ◌-◌, ◌*◌, ◌/◌, ◌%◌, ◌^◌, Bool, true, false, not, List, [], ◌∷◌, ◌++◌, ◌==◌, bit_xor, nat_le, refl}

-- x ^ 32 is left out, as the register has no bit for it
abbrev pub polynomial : ℕ
polynomial = 0x04C11DB7

-- the register before the first bit: 32 ones
abbrev pub start : ℕ
start = 2 ^ 32 - 1

abbrev pub unlike : Bool → Bool → Bool
unlike true b = not b
unlike false b = b

-- the register moved up by one bit, and the polynomial added if the bit fed back is set
abbrev pub shifted : Bool → ℕ → ℕ
shifted true r = bit_xor (r * 2 % 2 ^ 32) polynomial
shifted false r = r * 2 % 2 ^ 32

-- one bit enters: the sum of the top bit of the register and of that bit is fed back
abbrev pub step : ℕ → Bool → ℕ
step r b = shifted (unlike (nat_le (2 ^ 31) r) b) r

-- the register after a list of bits
unfoldable pub run : ℕ → List Bool → ℕ
run r [] = r
run r (b ∷ bits) = run (step r b) bits

-- the check of a message: the register at its end, with nothing inverted
abbrev pub check_of : List Bool → ℕ
check_of bits = run start bits

-- the n bits of a word, the most significant first
unfoldable pub word_bits : ℕ → ℕ → List Bool
word_bits zero w = []
word_bits (suc n) w = (w / 2 ^ n % 2 == 1) ∷ word_bits n w

-- the bits of words of n bits, word by word
unfoldable pub bits_of : ℕ → List ℕ → List Bool
bits_of n [] = []
bits_of n (w ∷ words) = word_bits n w ++ bits_of n words

pub bits_none : (n : ℕ) → bits_of n [] ≡ []
unfolding bits_of
bits_none n = refl

pub bits_more : (n w : ℕ) (words : List ℕ) → bits_of n (w ∷ words) ≡ word_bits n w ++ bits_of n words
unfolding bits_of
bits_more n w words = refl

abbrev pub row_bits : List ℕ → List Bool
row_bits rows = bits_of 16 rows

abbrev pub byte_bits : List ℕ → List Bool
byte_bits bytes = bits_of 8 bytes
