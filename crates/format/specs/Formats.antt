-- The picture formats: their table, and what is counted from it. A macroblock is named by its stripe and its column, both from 0.
use Rattle.std.specs.Prelude.{◌≡◌, ℕ, ◌+◌, ◌*◌, ◌/◌, ◌%◌, ◌<◌, Bool, true, false, cond, ◌&&◌, List, [], ◌∷◌, length, Some, None, Ok, Err, Option, Result, ◌==◌, nat_lt, slice_index_or}
use Rattle.fault.specs.declared.Fault.{Fault}
use Rattle.fault.specs.declared.Fault.TheVariants.{Format as NoFormat, FirstReference, NotInFormat}
use Rattle.fault.specs.Refusing.{refuse}
use Rattle.raster.specs.declared.extent.Extent.{Extent}
use Rattle.format.specs.declared.table.Line.{Line}
use Rattle.format.specs.declared.table.Format.{Format}
use Rattle.format.specs.declared.table.Format.TheVariants.{Frame1080, Field1080, Frame720, Bench}

abbrev line : ℕ → ℕ → ℕ → ℕ → Bool → Line
line n c s k f = record { number = n; columns = c; stripes = s; carriers = k; frame = f }

-- 1920 × 1088 frames, 1920 × 544 fields, 1280 × 720 frames, and our bench of 720 × 48 frames
abbrev pub table : List Line
table = line 1 120 68 58 true ∷ line 2 120 34 29 false ∷ line 3 80 45 24 true ∷ line 4 45 3 1 true ∷ []

abbrev pub format_count : ℕ
format_count = length table

-- the line of the table that a format stands in, counted from 0
abbrev pub line_of : Format → ℕ
line_of Frame1080 = 0
line_of Field1080 = 1
line_of Frame720 = 2
line_of Bench = 3

-- that line
abbrev pub line_of_table : Format → Line
line_of_table f = slice_index_or table (line_of f) (line 0 0 0 0 false)

abbrev pub number_of : Format → ℕ
number_of f = (line_of_table f).number

abbrev pub columns_of : Format → ℕ
columns_of f = (line_of_table f).columns

abbrev pub stripes_of : Format → ℕ
stripes_of f = (line_of_table f).stripes

abbrev pub carriers_of : Format → ℕ
carriers_of f = (line_of_table f).carriers

abbrev pub frame_of : Format → Bool
frame_of f = (line_of_table f).frame

-- in the order of the table
abbrev pub formats : List Format
formats = Frame1080 ∷ Field1080 ∷ Frame720 ∷ Bench ∷ []

-- the first of these formats with a number
abbrev pub among : List Format → ℕ → Option Format
among [] n = None
among (f ∷ fs) n = cond (n == number_of f) (Some f) (among fs n)

-- the format of a number
abbrev pub format_of : ℕ → Option Format
format_of n = among formats n

-- every format stands in the table, under a number of its own
abbrev pub Listed : Type 0
Listed = (f : Format) → (line_of f < format_count) × (format_of (number_of f) ≡ Some f)

-- every line of the table is that of a format
abbrev pub Used : Type 0
Used = (i : ℕ) → i < format_count → (f : Format) × (line_of f ≡ i)

abbrev or_refuse : {A : Type 0} → Option A → Fault → Result A Fault
or_refuse (Some x) fault = Ok x
or_refuse None fault = Err fault

-- refusal 3 where no format has the number
abbrev pub accepted : ℕ → Result Format Fault
accepted n = or_refuse (format_of n) NoFormat

-- the macroblock is in the format
abbrev pub in_format : Format → ℕ → ℕ → Bool
in_format f stripe column = nat_lt stripe (stripes_of f) && nat_lt column (columns_of f)

-- the answer x for a macroblock in the format, and refusal 11 for any other
abbrev pub within : {A : Type 0} → Format → ℕ → ℕ → A → Result A Fault
within f stripe column x = cond (in_format f stripe column) (Ok x) (Err NotInFormat)

-- how many macroblocks a picture has
abbrev pub macroblocks_of : Format → ℕ
macroblocks_of f = stripes_of f * columns_of f

-- macroblocks counted along the stripes
abbrev pub position_of : Format → ℕ → ℕ → ℕ
position_of f stripe column = stripe * columns_of f + column

-- references go from 0 to 65520, and on from 0 again
abbrev pub reference_count : ℕ
reference_count = 65521

-- the first reference of a number, and refusal 4 above 65520
abbrev pub first_of : ℕ → Result ℕ Fault
first_of n = refuse (nat_lt 65520 n) FirstReference (Ok n)

-- the reference of a macroblock, in a picture whose macroblock at position 0 has the reference `first`
abbrev pub reference_of : Format → ℕ → ℕ → ℕ → ℕ
reference_of f first stripe column = (first + position_of f stripe column) % reference_count

-- the first reference of the picture that follows
abbrev pub next_first : Format → ℕ → ℕ
next_first f first = (first + macroblocks_of f) % reference_count

-- the elements of an image
abbrev pub element_count : ℕ
element_count = 135

-- which element a macroblock carries
abbrev pub index_of : ℕ → ℕ → ℕ
index_of stripe column = (stripe % 3 * 45 + column + 27 * (stripe / 3)) % element_count

-- a slab holds one stripe: 16 rows, and 32 words of them for each column
abbrev pub slab_of : Format → Extent
slab_of f = record { rows = 16; words = 32 * columns_of f }

-- a raster of so many rows and words has the extent of a slab
abbrev pub is_slab : Format → ℕ → ℕ → Bool
is_slab f rows words = rows == 16 && words == 32 * columns_of f
