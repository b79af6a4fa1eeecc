-- Sealing an image, and what a sealed image says. An image is 540 bytes: 536 bytes of data and the check over them, the high byte first.
use Rattle.std.specs.Prelude.{◌≡◌, ℕ, ◌+◌, ◌/◌, ◌%◌, ◌^◌, ◌<◌, Bool, true, cond, not, ◌||◌, ◌⊎◌, List, [], ◌∷◌, ◌++◌, length, take, replicate, is_ok, Ok, Err, Result, ◌==◌, slice_set}
use Rattle.fault.specs.declared.Fault.{Fault}
use Rattle.fault.specs.declared.Fault.TheVariants.{Length, ImageCheck, MpegStandard, PictureStructure as NoStructure, ChromaFormat as NoChroma, SpareBit}
use Rattle.fault.specs.Refusing.{refuse, then}
use Rattle.crc.specs.Register.{check_of, byte_bits}
use Rattle.image.specs.declared.table.Name.{Name}
use Rattle.image.specs.declared.table.Name.TheVariants.{MpegStandardFlag, ChromaFormat, PictureStructure, TopFieldFirst, QScaleType, RepeatFirstField, Spare, Check}
use Rattle.image.specs.Table.{table, row_at, row_of, parameter_of}
use Rattle.image.specs.Value.{bit_of, value_of}

-- a memory that is overwritten on acceptance alone
abbrev pub overwritten : Result (List ℕ) Fault → List ℕ → List ℕ
overwritten (Ok bytes) old = bytes
overwritten (Err fault) old = old

-- the value of a parameter that has a name
abbrev pub value_in : List ℕ → Name → ℕ
value_in bytes name = value_of bytes (parameter_of name)

-- the check over the first 536 bytes stands in the row of the check
abbrev pub check_fits : List ℕ → Bool
check_fits bytes = value_in bytes Check == check_of (byte_bits (take 536 bytes))

-- what every sealed image keeps: 23 for the MPEG standard flag, 24 for picture_structure, 25 for chroma_format, 26 for the spare bits, which
-- spell 0 exactly if each is 0
abbrev pub lawful : List ℕ → Result (Unit {0}) Fault
lawful bytes =
    refuse (value_in bytes MpegStandardFlag == 1) MpegStandard
    (refuse (value_in bytes PictureStructure == 0) NoStructure
    (refuse (value_in bytes ChromaFormat == 0 || value_in bytes ChromaFormat == 3) NoChroma
    (refuse (not (value_in bytes Spare == 0)) SpareBit
    (Ok tt))))

-- the judgement of 540 bytes: 22 if the check does not fit, then 23 to 26
unfoldable pub judged : List ℕ → Result (Unit {0}) Fault
judged bytes = refuse (not (check_fits bytes)) ImageCheck (lawful bytes)

-- a sealed image: its check fits, and it passes 23 to 26
abbrev pub Sealed : List ℕ → Type 0
Sealed bytes = is_ok (judged bytes) ≡ true

-- the same field by field: of the spare bits none is 1
pub record Fit (bytes : List ℕ) : Type 0 where
  pub check : value_in bytes Check ≡ check_of (byte_bits (take 536 bytes))
  pub standard : value_in bytes MpegStandardFlag ≡ 0
  pub structure : value_in bytes PictureStructure ≡ 0 → ⊥
  pub chroma : (value_in bytes ChromaFormat ≡ 1) ⊎ (value_in bytes ChromaFormat ≡ 2)
  pub spare : (i : ℕ) → i < (parameter_of Spare).width → bit_of bytes ((parameter_of Spare).first_bit + i) ≡ 0

-- the four bytes of a number, the high one first
abbrev pub word_bytes : ℕ → List ℕ
word_bytes n = n / 2 ^ 24 % 256 ∷ n / 2 ^ 16 % 256 ∷ n / 2 ^ 8 % 256 ∷ n % 256 ∷ []

-- data and its check
unfoldable pub with_check : List ℕ → List ℕ
with_check bytes = bytes ++ word_bytes (check_of (byte_bits bytes))

-- the image that sealing makes of data: 5 if it is not 536 bytes, then 23 to 26
abbrev pub sealing : List ℕ → Result (List ℕ) Fault
sealing bytes = refuse (not (length bytes == 536)) Length (then (lawful (with_check bytes)) (λ _. Ok (with_check bytes)))

-- receiving an image that was sealed elsewhere
abbrev pub receiving : List ℕ → Result (List ℕ) Fault
receiving bytes = then (judged bytes) (λ _. Ok bytes)

-- the blank image: chroma_format is 1 by byte 15, picture_structure 3 by byte 32, and all other data 0
abbrev pub blank_data : List ℕ
blank_data = slice_set (slice_set (replicate 536 0) 15 0x40) 32 0x06

abbrev pub blank_image : List ℕ
blank_image = with_check blank_data

-- an image whose parameters before the check are all 0, but for chroma_format 1 and picture_structure 3
abbrev pub Blank : List ℕ → Type 0
Blank bytes = (i : ℕ) → i < row_of Check → value_of bytes (row_at table i) ≡ cond (i == row_of ChromaFormat) 1 (cond (i == row_of PictureStructure) 3 0)

-- some values: zeros are refused with 24, and the blank image is sealed as its data says
pub record Samples : Type 0 where
  pub zeros_refused : sealing (replicate 536 0) ≡ Err NoStructure
  pub blank_sealed : sealing blank_data ≡ Ok blank_image

-- what an image says of its picture
abbrev pub is_frame : List ℕ → Bool
is_frame bytes = value_in bytes PictureStructure == 3

abbrev pub is422 : List ℕ → Bool
is422 bytes = value_in bytes ChromaFormat == 2

abbrev pub top_field_first_of : List ℕ → Bool
top_field_first_of bytes = value_in bytes TopFieldFirst == 1

abbrev pub repeat_first_field_of : List ℕ → Bool
repeat_first_field_of bytes = value_in bytes RepeatFirstField == 1

abbrev pub q_scale_type_of : List ℕ → Bool
q_scale_type_of bytes = value_in bytes QScaleType == 1
