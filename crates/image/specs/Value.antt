-- The bits of an image, and the numbers that they spell.
use Rattle.std.specs.Prelude.{ℕ, zero, suc, ◌+◌, ◌-◌, ◌*◌, ◌/◌, ◌%◌, ◌^◌, List, slice_index}
use Rattle.image.specs.declared.table.Parameter.{Parameter}

-- bit i; bit 0 is the most significant of byte 0
abbrev pub bit_of : List ℕ → ℕ → ℕ
bit_of bytes i = slice_index bytes (i / 8) / 2 ^ (7 - i % 8) % 2

-- the number that n bits spell, from the bit `first` on, the most significant first
unfoldable pub spelled : List ℕ → ℕ → ℕ → ℕ
spelled bytes first zero = 0
spelled bytes first (suc n) = spelled bytes first n * 2 + bit_of bytes (first + n)

-- the number that the bits of a parameter spell
unfoldable pub value_of : List ℕ → Parameter → ℕ
value_of bytes p = spelled bytes p.first_bit p.width
