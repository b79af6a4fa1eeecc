-- The numbers of a block, in the order of a case.
use Rattle.std.specs.Prelude.{List, [], ◌∷◌, ◌++◌, Bool, cond, ℤ, pos}
use Rattle.record.specs.declared.record.Record.{Record}
use Rattle.record.specs.declared.record.PictureFlags.{PictureFlags}
use Rattle.record.specs.declared.record.Block.{Block}

-- 1 for a flag that is set
abbrev pub bit : Bool → ℤ
bit flag = pos (cond flag 1 0)

abbrev pub picture_numbers : PictureFlags → List ℤ
picture_numbers p =
    bit p.fr_fl_srib ∷ bit p.top_field_first ∷ bit p.repeat_first_field ∷ bit p.chroma_422_420 ∷ bit p.q_scale_type ∷ []

abbrev pub flag_numbers : Record → List ℤ
flag_numbers r = bit r.mb_quant ∷ bit r.mb_mfwd ∷ bit r.mb_mbwd ∷ bit r.mb_pattern ∷ bit r.mb_intra ∷ bit r.dct_type ∷ []

abbrev pub vector_numbers : Record → List ℤ
vector_numbers r = r.mv000 ∷ r.mv010 ∷ r.mv100 ∷ r.mv110 ∷ r.mv001 ∷ r.mv011 ∷ r.mv101 ∷ r.mv111 ∷ []

abbrev pub other_numbers : Record → List ℤ
other_numbers r =
    pos r.motion_type ∷ bit r.skipped_mb ∷ pos r.num_other_bits ∷ bit r.slice_start_flag ∷ pos r.num_mv_bits
    ∷ pos r.q_scale_code ∷ pos r.mb_vert_field_sel ∷ pos r.num_coef_bits ∷ pos r.coded_block_pattern ∷ []

abbrev pub record_numbers : Record → List ℤ
record_numbers r = flag_numbers r ++ (vector_numbers r ++ other_numbers r)

abbrev pub block_numbers : Block → List ℤ
block_numbers b = picture_numbers b.picture ++ (pos b.reference ∷ pos b.element ∷ record_numbers b.«record»)
