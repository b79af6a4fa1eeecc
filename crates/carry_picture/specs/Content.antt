-- What each macroblock of the picture carries.
use Rattle.std.specs.Prelude.{ℕ, false, List, pos}
use Rattle.record.specs.declared.record.Record.{Record}
use Rattle.record.specs.declared.record.Block.{Block}
use Rattle.format.specs.declared.table.Format.TheVariants.{Bench}
use Rattle.image.specs.Image.{blank_image}
use Rattle.inserter.specs.Place.{block_for}

-- the record of zeros
abbrev pub zero_record : Record
zero_record = record {
  mb_quant = false;
  mb_mfwd = false;
  mb_mbwd = false;
  mb_pattern = false;
  mb_intra = false;
  dct_type = false;
  mv000 = pos 0;
  mv001 = pos 0;
  mv010 = pos 0;
  mv011 = pos 0;
  mv100 = pos 0;
  mv101 = pos 0;
  mv110 = pos 0;
  mv111 = pos 0;
  motion_type = 0;
  skipped_mb = false;
  num_other_bits = 0;
  slice_start_flag = false;
  num_mv_bits = 0;
  q_scale_code = 0;
  mb_vert_field_sel = 0;
  num_coef_bits = 0;
  coded_block_pattern = 0;
}

-- the image of the picture
unfoldable pub blank : List ℕ
blank = blank_image

-- the block of a macroblock, in a picture of format 4 that begins at reference 0
unfoldable pub block_at : ℕ → ℕ → Block
block_at stripe column = block_for Bench 0 stripe column blank zero_record
