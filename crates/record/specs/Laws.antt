-- The laws of the layout: encoding and decoding undo each other. And samples of it.
use Rattle.std.specs.Prelude.{◌≡◌, ℕ, ◌*◌, ◌^◌, ◌<◌, Bool, true, false, List, map, length, replicate, ℤ, pos, negsuc, slice_index_or}
use Rattle.std.specs.List.{AllByRecursion}
use Rattle.record.specs.declared.record.Record.{Record}
use Rattle.record.specs.declared.record.Block.{Block}
use Rattle.record.specs.Layout.{layout, width, data_rows, block_of, has_sync, reserved_clear}
use Rattle.record.specs.Rules.{fits_widths}

-- the table has 14 rows of 16 bits
abbrev pub RowsFilled : Type 0
RowsFilled = map width layout ≡ replicate 14 16

-- a block whose numbers all fit: the record's by test, the other two by their types
pub record Fitting (b : Block) : Type 0 where
  pub widths : fits_widths b.«record» ≡ true
  pub reference : b.reference < 2 ^ 16
  pub element : b.element < 2 ^ 32

-- well-formed data rows: 14 rows of 16 bits, with the sync code and all reserved bits 0
pub record Formed (rows : List ℕ) : Type 0 where
  pub count : length rows ≡ 14
  pub narrow : AllByRecursion (λ row. row < 2 ^ 16) rows
  pub sync : has_sync rows ≡ true
  pub reserved : reserved_clear rows ≡ true

abbrev pub DecodingUndoesEncoding : Type 0
DecodingUndoesEncoding = (b : Block) → Fitting b → Formed (data_rows b) × (block_of (data_rows b) ≡ b)

abbrev pub EncodingUndoesDecoding : Type 0
EncodingUndoesDecoding = (rows : List ℕ) → Formed rows → Fitting (block_of rows) × (data_rows (block_of rows) ≡ rows)

-- no two different well-formed rows spell the same block
abbrev pub SpeltOnce : Type 0
SpeltOnce = (rows others : List ℕ) → Formed rows → Formed others → block_of rows ≡ block_of others → rows ≡ others

-- a record with two vectors, a motion type and mb_intra, all else 0
abbrev pub sample_record : ℤ → ℤ → ℕ → Bool → Record
sample_record x y motion intra = record {
  mb_quant = false;
  mb_mfwd = false;
  mb_mbwd = false;
  mb_pattern = false;
  mb_intra = intra;
  dct_type = false;
  mv000 = x;
  mv001 = y;
  mv010 = pos 0;
  mv011 = pos 0;
  mv100 = pos 0;
  mv101 = pos 0;
  mv110 = pos 0;
  mv111 = pos 0;
  motion_type = motion;
  skipped_mb = false;
  num_other_bits = 0;
  slice_start_flag = false;
  num_mv_bits = 0;
  q_scale_code = 0;
  mb_vert_field_sel = 0;
  num_coef_bits = 0;
  coded_block_pattern = 0;
}

-- a block of a picture with fr_fl_srib and top_field_first
abbrev pub sample_block : Record → Block
sample_block r = record {
  picture = record {
    fr_fl_srib = true;
    top_field_first = true;
    repeat_first_field = false;
    chroma_422_420 = false;
    q_scale_type = false;
  };
  reference = 0;
  element = 0;
  «record» = r;
}

abbrev fits_vectors : ℤ → ℤ → Bool
fits_vectors x y = fits_widths (sample_record x y 0 false)

abbrev rows_of : ℤ → ℤ → ℕ → Bool → List ℕ
rows_of x y motion intra = data_rows (sample_block (sample_record x y motion intra))

pub record Samples : Type 0 where
  -- fr_fl_srib, top_field_first and mb_intra
  pub flags : slice_index_or (rows_of (pos 0) (pos 0) 0 true) 0 0 ≡ 0xFE02
  -- mv000 = -1 and motion_type 2
  pub vector : slice_index_or (rows_of (negsuc 0) (pos 0) 2 false) 4 0 ≡ 0xFFFC
  -- mv001 = -1, which keeps its sign
  pub minus_one : slice_index_or (rows_of (pos 0) (negsuc 0) 0 false) 5 0 ≡ 511 * 128
  pub minus_one_back : (block_of (rows_of (pos 0) (negsuc 0) 0 false)).«record».mv001 ≡ negsuc 0
  -- mv000 goes from -4096 to 4095, and mv001 to 255
  pub mv000_least : fits_vectors (negsuc 4095) (pos 0) ≡ true
  pub mv000_under : fits_vectors (negsuc 4096) (pos 0) ≡ false
  pub mv000_most : fits_vectors (pos 4095) (pos 0) ≡ true
  pub mv000_over : fits_vectors (pos 4096) (pos 0) ≡ false
  pub mv001_most : fits_vectors (pos 0) (pos 255) ≡ true
  pub mv001_over : fits_vectors (pos 0) (pos 256) ≡ false
