-- Hex digits: 0 to 9, and A to F in upper case.
use Rattle.std.specs.Prelude.{ℕ, ◌-◌, ◌+◌, ◌*◌, ◌%◌, Bool, cond, ◌&&◌, ◌||◌, ◌==◌, nat_le, List, [], ◌∷◌, length, map, slice_index}
use Rattle.std.specs.List.{list_all}

abbrev pub is_hex : ℕ → Bool
is_hex digit = (nat_le 48 digit && nat_le digit 57) || (nat_le 65 digit && nat_le digit 70)

abbrev pub hex_value : ℕ → ℕ
hex_value digit = cond (nat_le digit 57) (digit - 48) (digit - 55)

-- whether both of a pair are digits
abbrev pub hex_pair : List ℕ → Bool
hex_pair pair = is_hex (slice_index pair 0) && is_hex (slice_index pair 1)

-- whether a text is digits, two for each byte
abbrev pub are_pairs : List ℕ → Bool
are_pairs text = list_all is_hex text && (length text % 2 == 0)

-- two numbers make one in the base, the high one first; a last one alone makes none
abbrev pub joined : ℕ → List ℕ → List ℕ
joined base (high ∷ low ∷ others) = (base * high + low) ∷ joined base others
joined base (half ∷ []) = []
joined base [] = []

-- the byte that a pair of digits spells
abbrev pub byte_in : List ℕ → ℕ
byte_in pair = 16 * hex_value (slice_index pair 0) + hex_value (slice_index pair 1)

-- the bytes that pairs of digits spell, and the rows that four digits each spell
abbrev pub bytes_in : List ℕ → List ℕ
bytes_in text = joined 16 (map hex_value text)

abbrev pub rows_in : List ℕ → List ℕ
rows_in text = joined 256 (bytes_in text)
