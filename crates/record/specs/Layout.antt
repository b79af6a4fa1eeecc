-- The layout of a block: one table, and what encoder and decoder make of it.
-- A block has 16 rows of 16 bits, each filled from the most significant bit. Rows 0 to 13 are the data rows, in the table below. Row 14 is
-- the high half and row 15 the low half of the check over them: `with_check` of the crate `crc`, put together in the crate `block`.
use Rattle.std.specs.Prelude.{ℕ, suc, ◌+◌, ◌-◌, ◌*◌, ◌/◌, ◌%◌, ◌^◌, Bool, true, false, cond, ◌&&◌, List, [], ◌∷◌, map, ℤ, pos, negsuc, ◌==◌, nat_lt, slice_index, slice_index_or}
use Rattle.record.specs.declared.record.Record.{Record}
use Rattle.record.specs.declared.record.PictureFlags.{PictureFlags}
use Rattle.record.specs.declared.record.Block.{Block}

-- what stands in the data rows
pub data Name : Type 0 where
  Sync : Name
  FrFlSrib : Name
  TopFieldFirst : Name
  RepeatFirstField : Name
  Chroma422420 : Name
  QScaleType : Name
  MbQuant : Name
  MbMfwd : Name
  MbMbwd : Name
  MbPattern : Name
  MbIntra : Name
  DctType : Name
  Reference : Name
  Element : Name
  Mv000 : Name
  Mv001 : Name
  Mv010 : Name
  Mv011 : Name
  Mv100 : Name
  Mv101 : Name
  Mv110 : Name
  Mv111 : Name
  MotionType : Name
  SkippedMb : Name
  NumOtherBits : Name
  SliceStartFlag : Name
  NumMvBits : Name
  QScaleCode : Name
  MbVertFieldSel : Name
  NumCoefBits : Name
  CodedBlockPattern : Name

-- A part of a row: the whole of what is named, in so many bits; its bits from a highest to a lowest, where 0 is the least
-- significant; or so many reserved bits, which are 0.
pub data Part : Type 0 where
  whole : Name → ℕ → Part
  bits : Name → ℕ → ℕ → Part
  reserved : ℕ → Part

-- the table: the parts of each data row, from the most significant bit
abbrev pub layout : List (List Part)
layout =
    -- row 0
    (whole Sync 5
    ∷ whole FrFlSrib 1 ∷ whole TopFieldFirst 1 ∷ whole RepeatFirstField 1 ∷ whole Chroma422420 1 ∷ whole QScaleType 1
    ∷ whole MbQuant 1 ∷ whole MbMfwd 1 ∷ whole MbMbwd 1 ∷ whole MbPattern 1 ∷ whole MbIntra 1 ∷ whole DctType 1 ∷ [])
    -- row 1
    ∷ (whole Reference 16 ∷ [])
    -- rows 2 and 3
    ∷ (bits Element 31 16 ∷ [])
    ∷ (bits Element 15 0 ∷ [])
    -- rows 4 and 5
    ∷ (whole Mv000 13 ∷ whole MotionType 2 ∷ whole SkippedMb 1 ∷ [])
    ∷ (whole Mv001 9 ∷ whole NumOtherBits 7 ∷ [])
    -- rows 6 and 7
    ∷ (whole Mv010 13 ∷ whole SliceStartFlag 1 ∷ reserved 2 ∷ [])
    ∷ (whole Mv011 9 ∷ bits NumMvBits 7 2 ∷ reserved 1 ∷ [])
    -- rows 8 and 9
    ∷ (whole Mv100 13 ∷ reserved 3 ∷ [])
    ∷ (whole Mv101 9 ∷ whole QScaleCode 5 ∷ bits NumMvBits 1 0 ∷ [])
    -- rows 10 and 11
    ∷ (whole Mv110 13 ∷ reserved 3 ∷ [])
    ∷ (whole Mv111 9 ∷ whole MbVertFieldSel 4 ∷ reserved 3 ∷ [])
    -- rows 12 and 13
    ∷ (whole NumCoefBits 14 ∷ reserved 2 ∷ [])
    ∷ (whole CodedBlockPattern 8 ∷ reserved 8 ∷ [])
    ∷ []

-- names are told apart by a number for each
abbrev number_of : Name → ℕ
number_of Sync = 0
number_of FrFlSrib = 1
number_of TopFieldFirst = 2
number_of RepeatFirstField = 3
number_of Chroma422420 = 4
number_of QScaleType = 5
number_of MbQuant = 6
number_of MbMfwd = 7
number_of MbMbwd = 8
number_of MbPattern = 9
number_of MbIntra = 10
number_of DctType = 11
number_of Reference = 12
number_of Element = 13
number_of Mv000 = 14
number_of Mv001 = 15
number_of Mv010 = 16
number_of Mv011 = 17
number_of Mv100 = 18
number_of Mv101 = 19
number_of Mv110 = 20
number_of Mv111 = 21
number_of MotionType = 22
number_of SkippedMb = 23
number_of NumOtherBits = 24
number_of SliceStartFlag = 25
number_of NumMvBits = 26
number_of QScaleCode = 27
number_of MbVertFieldSel = 28
number_of NumCoefBits = 29
number_of CodedBlockPattern = 30

abbrev same : Name → Name → Bool
same n m = number_of n == number_of m

-- the width of a part, and of several side by side
abbrev pub part_width : Part → ℕ
part_width (whole n w) = w
part_width (bits n high low) = suc high - low
part_width (reserved w) = w

abbrev pub width : List Part → ℕ
width [] = 0
width (p ∷ ps) = part_width p + width ps

-- the width of what is named: that of all its parts in the table
abbrev named : Name → Part → Bool
named n (whole m w) = same n m
named n (bits m high low) = same n m
named n (reserved w) = false

abbrev width_in_row : Name → List Part → ℕ → ℕ
width_in_row n [] rest = rest
width_in_row n (p ∷ ps) rest = cond (named n p) (part_width p + width_in_row n ps rest) (width_in_row n ps rest)

abbrev width_in : Name → List (List Part) → ℕ
width_in n [] = 0
width_in n (ps ∷ pss) = width_in_row n ps (width_in n pss)

abbrev pub width_of : Name → ℕ
width_of n = width_in n layout

-- The values: what a block has under each name, as a number, and the block that has given values.

-- a flag as a bit, and back
abbrev pub bit : Bool → ℕ
bit b = cond b 1 0

abbrev pub is_one : ℕ → Bool
is_one x = x == 1

-- a signed number in two's complement of so many bits, and back
abbrev pub twos : ℕ → ℤ → ℕ
twos w (pos n) = n
twos w (negsuc n) = 2 ^ w - suc n

abbrev pub signed : ℕ → ℕ → ℤ
signed w n = cond (nat_lt n (2 ^ (w - 1))) (pos n) (negsuc (2 ^ w - suc n))

-- five ones
abbrev pub sync_code : ℕ
sync_code = 31

abbrev pub values_of : Block → Name → ℕ
values_of b Sync = sync_code
values_of b FrFlSrib = bit b.picture.fr_fl_srib
values_of b TopFieldFirst = bit b.picture.top_field_first
values_of b RepeatFirstField = bit b.picture.repeat_first_field
values_of b Chroma422420 = bit b.picture.chroma_422_420
values_of b QScaleType = bit b.picture.q_scale_type
values_of b MbQuant = bit b.«record».mb_quant
values_of b MbMfwd = bit b.«record».mb_mfwd
values_of b MbMbwd = bit b.«record».mb_mbwd
values_of b MbPattern = bit b.«record».mb_pattern
values_of b MbIntra = bit b.«record».mb_intra
values_of b DctType = bit b.«record».dct_type
values_of b Reference = b.reference
values_of b Element = b.element
values_of b Mv000 = twos (width_of Mv000) b.«record».mv000
values_of b Mv001 = twos (width_of Mv001) b.«record».mv001
values_of b Mv010 = twos (width_of Mv010) b.«record».mv010
values_of b Mv011 = twos (width_of Mv011) b.«record».mv011
values_of b Mv100 = twos (width_of Mv100) b.«record».mv100
values_of b Mv101 = twos (width_of Mv101) b.«record».mv101
values_of b Mv110 = twos (width_of Mv110) b.«record».mv110
values_of b Mv111 = twos (width_of Mv111) b.«record».mv111
values_of b MotionType = b.«record».motion_type
values_of b SkippedMb = bit b.«record».skipped_mb
values_of b NumOtherBits = b.«record».num_other_bits
values_of b SliceStartFlag = bit b.«record».slice_start_flag
values_of b NumMvBits = b.«record».num_mv_bits
values_of b QScaleCode = b.«record».q_scale_code
values_of b MbVertFieldSel = b.«record».mb_vert_field_sel
values_of b NumCoefBits = b.«record».num_coef_bits
values_of b CodedBlockPattern = b.«record».coded_block_pattern

abbrev pub flags_with : (Name → ℕ) → PictureFlags
flags_with values = record {
  fr_fl_srib = is_one (values FrFlSrib);
  top_field_first = is_one (values TopFieldFirst);
  repeat_first_field = is_one (values RepeatFirstField);
  chroma_422_420 = is_one (values Chroma422420);
  q_scale_type = is_one (values QScaleType);
}

abbrev vector : (Name → ℕ) → Name → ℤ
vector values n = signed (width_of n) (values n)

abbrev pub record_with : (Name → ℕ) → Record
record_with values = record {
  mb_quant = is_one (values MbQuant);
  mb_mfwd = is_one (values MbMfwd);
  mb_mbwd = is_one (values MbMbwd);
  mb_pattern = is_one (values MbPattern);
  mb_intra = is_one (values MbIntra);
  dct_type = is_one (values DctType);
  mv000 = vector values Mv000;
  mv001 = vector values Mv001;
  mv010 = vector values Mv010;
  mv011 = vector values Mv011;
  mv100 = vector values Mv100;
  mv101 = vector values Mv101;
  mv110 = vector values Mv110;
  mv111 = vector values Mv111;
  motion_type = values MotionType;
  skipped_mb = is_one (values SkippedMb);
  num_other_bits = values NumOtherBits;
  slice_start_flag = is_one (values SliceStartFlag);
  num_mv_bits = values NumMvBits;
  q_scale_code = values QScaleCode;
  mb_vert_field_sel = values MbVertFieldSel;
  num_coef_bits = values NumCoefBits;
  coded_block_pattern = values CodedBlockPattern;
}

abbrev pub block_with : (Name → ℕ) → Block
block_with values = record {
  picture = flags_with values;
  reference = values Reference;
  element = values Element;
  «record» = record_with values;
}

-- Encoding: the parts of each row, joined.

-- what a part has of the values
abbrev pick : (Name → ℕ) → Part → ℕ
pick values (whole n w) = values n
pick values (bits n high low) = values n / 2 ^ low % 2 ^ (suc high - low)
pick values (reserved w) = 0

abbrev pub joined : (Name → ℕ) → List Part → ℕ
joined values [] = 0
joined values (p ∷ ps) = pick values p * 2 ^ width ps + joined values ps

-- the data rows that have these values
abbrev pub rows_with : (Name → ℕ) → List ℕ
rows_with values = map (joined values) layout

-- row i of a block, and its data rows
abbrev pub row_of : Block → ℕ → ℕ
row_of b i = joined (values_of b) (slice_index_or layout i [])

unfoldable pub data_rows : Block → List ℕ
data_rows b = rows_with (values_of b)

-- Decoding: what the rows have under each name, found by walking the table.

-- the bits of a row at a part, where others follow it
abbrev pub cut : Part → List Part → ℕ → ℕ
cut p after row = row / 2 ^ width after % 2 ^ part_width p

abbrev found_in_row : Name → List Part → ℕ → ℕ → ℕ
found_in_row n [] row rest = rest
found_in_row n (whole m w ∷ ps) row rest = cond (same n m) (cut (whole m w) ps row) (found_in_row n ps row rest)
found_in_row n (bits m high low ∷ ps) row rest =
    cond (same n m) (cut (bits m high low) ps row * 2 ^ low + found_in_row n ps row rest) (found_in_row n ps row rest)
found_in_row n (reserved w ∷ ps) row rest = found_in_row n ps row rest

-- the rows from the i-th on, where the table has these rows left
abbrev found_from : Name → ℕ → List (List Part) → List ℕ → ℕ
found_from n i [] rows = 0
found_from n i (ps ∷ pss) rows = found_in_row n ps (slice_index rows i) (found_from n (suc i) pss rows)

abbrev pub found : List ℕ → Name → ℕ
found rows n = found_from n 0 layout rows

-- the block that the rows spell, whatever the sync code and the reserved bits are
unfoldable pub block_of : List ℕ → Block
block_of rows = block_with (found rows)

-- whether the rows have the sync code
unfoldable pub has_sync : List ℕ → Bool
has_sync rows = found rows Sync == sync_code

-- whether all reserved bits are 0
abbrev clear_in_row : List Part → ℕ → Bool → Bool
clear_in_row [] row rest = rest
clear_in_row (whole n w ∷ ps) row rest = clear_in_row ps row rest
clear_in_row (bits n high low ∷ ps) row rest = clear_in_row ps row rest
clear_in_row (reserved w ∷ ps) row rest = cut (reserved w) ps row == 0 && clear_in_row ps row rest

abbrev pub clear_from : ℕ → List (List Part) → List ℕ → Bool
clear_from i [] rows = true
clear_from i (ps ∷ pss) rows = clear_in_row ps (slice_index rows i) (clear_from (suc i) pss rows)

unfoldable pub reserved_clear : List ℕ → Bool
reserved_clear rows = clear_from 0 layout rows
