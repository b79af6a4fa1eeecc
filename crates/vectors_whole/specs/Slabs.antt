-- What memory a slab of a case is in.
use Rattle.std.specs.Prelude.{◌≡◌, ℕ, ◌*◌, ◌/◌, Bool, List, length}
use Rattle.crc.specs.Register.{row_bits, byte_bits}
use Rattle.raster.specs.declared.extent.Extent.{Extent}
use Rattle.buffer.specs.Size.{cells_of, bytes_of, granted}
use Rattle.buffer.specs.Cells.{word_at}
use Rattle.buffer.specs.Word.{cell_word}
use Rattle.buffer.specs.Packed.{packed_word}
use Rattle.layer.specs.Field.{field_shown, row_below}
use Rattle.vectors_whole.specs.declared.memory.Kind.TheVariants.{Word, Packed, Field}
use Rattle.vectors_whole.specs.declared.memory.SlabCase.{SlabCase}
use Rattle.vectors_whole.specs.declared.memory.Memory.{Memory}
use Rattle.vectors_whole.specs.declared.memory.Memory.TheVariants.{Word as WordMemory, Packed as PackedMemory, Field as FieldMemory}
use Rattle.vectors_whole.specs.Seeds.{high_halves, high_bytes}

-- the memory is as the case says: of its kind, as much as its rows and words need, and made by its seed
abbrev pub Filled : SlabCase → Memory → Type 0
Filled case (WordMemory cells) = (case.kind ≡ Word) × (cells.items ≡ high_halves (case.rows * case.words) case.seed)
Filled case (PackedMemory bytes) = (case.kind ≡ Packed) × (bytes.items ≡ high_bytes (case.rows * case.words / 4 * 5) case.seed)
Filled case (FieldMemory kind cells) = (case.kind ≡ Field kind) × (cells.items ≡ high_halves (2 * (case.rows * case.words)) case.seed)

-- the extent of a case, and of the word buffer that has the slab as a field
abbrev pub extent_of : SlabCase → Extent
extent_of case = record { rows = case.rows; words = case.words }

abbrev pub doubled : SlabCase → Extent
doubled case = record { rows = 2 * case.rows; words = case.words }

-- the extent that the slab has: none where the memory is not of the size that the raster needs
abbrev pub shown : SlabCase → Memory → Extent
shown case (WordMemory cells) = granted (extent_of case) (cells_of (extent_of case)) (length cells.items)
shown case (PackedMemory bytes) = granted (extent_of case) (bytes_of (extent_of case)) (length bytes.items)
shown case (FieldMemory kind cells) = field_shown kind (granted (doubled case) (cells_of (doubled case)) (length cells.items))

-- its word at row i and place j
abbrev pub word_in : SlabCase → Memory → ℕ → ℕ → ℕ
word_in case (WordMemory cells) i j = word_at cell_word cells.items (shown case (WordMemory cells)).words i j
word_in case (PackedMemory bytes) i j = word_at packed_word bytes.items (shown case (PackedMemory bytes)).words i j
word_in case (FieldMemory kind cells) i j = word_at cell_word cells.items (shown case (FieldMemory kind cells)).words (row_below kind i) j

-- all bits of a memory
abbrev pub bits_in : Memory → List Bool
bits_in (WordMemory cells) = row_bits cells.items
bits_in (PackedMemory bytes) = byte_bits bytes.items
bits_in (FieldMemory kind cells) = row_bits cells.items
