-- The refusals: the number and the layer of each, and how many there are.
use Rattle.std.specs.Prelude.{◌≡◌, ℕ, ◌<◌, List, [], ◌∷◌, Option, Some, None, map, length, slice_index, slice_index_or}
use Rattle.fault.specs.declared.place.Layer.{Layer}
use Rattle.fault.specs.declared.place.Layer.TheVariants.{Raster, Block, Picture}
use Rattle.fault.specs.declared.place.Place.{Place}
use Rattle.fault.specs.declared.place.Place.TheVariants.{Word, Slot}
use Rattle.fault.specs.declared.Fault.{Fault}
use Rattle.fault.specs.declared.Fault.TheVariants.{Size, Outside, Format, FirstReference, Length, SlotNumber, SlabExtent, NotInFormat, ComponentWidth, Sync, BlockCheck, ReservedBit, ReferenceRange, RecordRule, FrameOrField, UnexpectedReference, EmptySlot, DisputedSlot, ImageCheck, MpegStandard, PictureStructure, ChromaFormat, SpareBit}

-- a line of the table of refusals
pub record Line : Type 0 where
  pub number : ℕ
  pub layer : Layer

abbrev line : ℕ → Layer → Line
line n l = record { number = n; layer = l }

-- The table, in ascending number: 23 refusals. Numbers 1 and 2 belong to the raster, 10 to 17 to the block, all others to the picture.
abbrev pub table : List Line
table =
    line 1 Raster
    ∷ line 2 Raster
    ∷ line 3 Picture
    ∷ line 4 Picture
    ∷ line 5 Picture
    ∷ line 6 Picture
    ∷ line 10 Block
    ∷ line 11 Block
    ∷ line 12 Block
    ∷ line 13 Block
    ∷ line 14 Block
    ∷ line 15 Block
    ∷ line 16 Block
    ∷ line 17 Block
    ∷ line 18 Picture
    ∷ line 19 Picture
    ∷ line 20 Picture
    ∷ line 21 Picture
    ∷ line 22 Picture
    ∷ line 23 Picture
    ∷ line 24 Picture
    ∷ line 25 Picture
    ∷ line 26 Picture
    ∷ []

-- the line of the table that a refusal stands in, counted from 0
abbrev pub line_of : Fault → ℕ
line_of Size = 0
line_of (Outside row word) = 1
line_of Format = 2
line_of FirstReference = 3
line_of Length = 4
line_of SlotNumber = 5
line_of SlabExtent = 6
line_of NotInFormat = 7
line_of ComponentWidth = 8
line_of Sync = 9
line_of BlockCheck = 10
line_of ReservedBit = 11
line_of ReferenceRange = 12
line_of RecordRule = 13
line_of FrameOrField = 14
line_of UnexpectedReference = 15
line_of (EmptySlot slot) = 16
line_of (DisputedSlot slot) = 17
line_of ImageCheck = 18
line_of MpegStandard = 19
line_of PictureStructure = 20
line_of ChromaFormat = 21
line_of SpareBit = 22

abbrev pub number_of : Fault → ℕ
number_of f = (slice_index_or table (line_of f) (line 0 Picture)).number

abbrev pub layer_of : Fault → Layer
layer_of f = (slice_index_or table (line_of f) (line 0 Picture)).layer

-- the place that a refusal names, if it names one
abbrev pub place_of : Fault → Option Place
place_of Size = None
place_of (Outside row word) = Some (Word row word)
place_of Format = None
place_of FirstReference = None
place_of Length = None
place_of SlotNumber = None
place_of SlabExtent = None
place_of NotInFormat = None
place_of ComponentWidth = None
place_of Sync = None
place_of BlockCheck = None
place_of ReservedBit = None
place_of ReferenceRange = None
place_of RecordRule = None
place_of FrameOrField = None
place_of UnexpectedReference = None
place_of (EmptySlot slot) = Some (Slot slot)
place_of (DisputedSlot slot) = Some (Slot slot)
place_of ImageCheck = None
place_of MpegStandard = None
place_of PictureStructure = None
place_of ChromaFormat = None
place_of SpareBit = None

-- the table's column of numbers
abbrev pub table_numbers : List ℕ
table_numbers = map (λ l. l.number) table

-- every refusal stands in the table
abbrev pub Listed : Type 0
Listed = (f : Fault) → line_of f < length table

-- every line is the line of some refusal
abbrev pub Used : Type 0
Used = (i : ℕ) → i < length table → (f : Fault) × (line_of f ≡ i)

-- refusals on one line are of one kind: they differ at most in the place
abbrev pub Apart : Type 0
Apart = (f g : Fault) → line_of f ≡ line_of g → place_of f ≡ place_of g → f ≡ g

-- refusals of one number and one place are one refusal
abbrev pub ByNumberAndPlace : Type 0
ByNumberAndPlace = (f g : Fault) → number_of f ≡ number_of g → place_of f ≡ place_of g → f ≡ g

-- each number is above those of all earlier lines, so none stands twice
abbrev pub Ascending : Type 0
Ascending = (i j : ℕ) → i < j → j < length table → slice_index table_numbers i < slice_index table_numbers j
