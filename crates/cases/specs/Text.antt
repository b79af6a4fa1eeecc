-- What is printed of an answer, byte for byte.
use Rattle.std.specs.Prelude.{ℕ, ◌-◌, ◌^◌, ℤ, List, [], ◌∷◌, ◌++◌, false, true, Option, Some, None, codes, decimal}
use Rattle.std.specs.List.{flat_map}
use Rattle.std.specs.Fmt.{digits, signed_decimal, padded_integral, format_spec}
use Rattle.fault.specs.declared.Fault.{Fault}
use Rattle.fault.specs.declared.place.Place.{Place}
use Rattle.fault.specs.declared.place.Place.TheVariants.{Word, Slot}
use Rattle.fault.specs.Table.{number_of, place_of}
use Rattle.record.specs.declared.record.Block.{Block}
use Rattle.cases.specs.Numbers.{block_numbers}

-- a number in hex, of so many digits at least: the fill is a blank (32), the alignment none (0), the flags the zero that fills up
-- (4), and the precision none (2 ^ 64 - 1)
abbrev pub hex_text : ℕ → ℕ → List ℕ
hex_text width n = padded_integral (format_spec 32 0 4 width (2 ^ 64 - 1)) false [] (digits 16 true n)

-- the slot that a refusal names, after a blank
abbrev pub slot_text : Option Place → List ℕ
slot_text None = []
slot_text (Some (Word row word)) = []
slot_text (Some (Slot slot)) = 32 ∷ decimal slot

abbrev pub refusal_text : Fault → List ℕ
refusal_text fault = codes "refused " ++ (decimal (number_of fault) ++ slot_text (place_of fault))

abbrev pub rows_text : List ℕ → List ℕ
rows_text rows = codes "rows" ++ flat_map (λ row. 32 ∷ hex_text 4 row) rows

-- each number after a blank
unfoldable pub numbers_text : List ℤ → List ℕ
numbers_text numbers = flat_map (λ number. 32 ∷ signed_decimal number) numbers

abbrev pub block_text : Block → List ℕ
block_text block = codes "block" ++ numbers_text (block_numbers block)
