-- The block of each macroblock of the bench picture.
use Rattle.std.specs.Prelude.{ℕ, ◌+◌, ◌*◌, ◌%◌, ◌^◌, true, false, pos, ◌-ℤ◌, ◌==◌}
use Rattle.record.specs.declared.record.Record.{Record}
use Rattle.record.specs.declared.record.PictureFlags.{PictureFlags}
use Rattle.record.specs.declared.record.Block.{Block}

-- a frame picture, and no other flag
abbrev pub frame_flags : PictureFlags
frame_flags = record {
  fr_fl_srib = true;
  top_field_first = false;
  repeat_first_field = false;
  chroma_422_420 = false;
  q_scale_type = false;
}

-- zeros, but for mb_intra at odd positions and mv000, which counts from -67
abbrev pub record_at : ℕ → Record
record_at p = record {
  mb_quant = false;
  mb_mfwd = false;
  mb_mbwd = false;
  mb_pattern = false;
  mb_intra = (p % 2 == 1);
  dct_type = false;
  mv000 = pos p -ℤ pos 67;
  mv001 = pos 0;
  mv010 = pos 0;
  mv011 = pos 0;
  mv100 = pos 0;
  mv101 = pos 0;
  mv110 = pos 0;
  mv111 = pos 0;
  motion_type = 0;
  skipped_mb = false;
  num_other_bits = 0;
  slice_start_flag = false;
  num_mv_bits = 0;
  q_scale_code = 0;
  mb_vert_field_sel = 0;
  num_coef_bits = 0;
  coded_block_pattern = 0;
}

-- the block at a position: its reference is the position
unfoldable pub block_at : ℕ → Block
block_at p = record { picture = frame_flags; reference = p; element = p * 2654435761 % 2 ^ 32; «record» = record_at p }

-- the position of a macroblock, in stripes of 45 columns
abbrev pub position : ℕ → ℕ → ℕ
position stripe column = 45 * stripe + column

-- the block of a macroblock
abbrev pub block_in : ℕ → ℕ → Block
block_in stripe column = block_at (position stripe column)
