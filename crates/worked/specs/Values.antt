-- The worked values, one table: each is what a definition gives. Numbers in hex where they are rows or bytes.
use Rattle.std.specs.Prelude.{◌≡◌, ℕ, true, false, List, [], ◌∷◌, map, pos, negsuc, slice_index, slice_index_or}
use Rattle.column.specs.Column.{laden}
use Rattle.buffer.specs.Packed.{packed_word}
use Rattle.record.specs.Layout.{data_rows}
use Rattle.record.specs.Laws.{sample_record, sample_block}
use Rattle.format.specs.declared.table.Format.{Format}
use Rattle.format.specs.declared.table.Format.TheVariants.{Frame1080}
use Rattle.format.specs.Formats.{position_of, reference_of, next_first, index_of}

-- a chroma word and the luma word after it, once the chroma word carries a bit
abbrev pub carrying : ℕ → ℕ → ℕ → ℕ
carrying chroma luma bit = laden (λ j. slice_index (chroma ∷ luma ∷ []) j) 0 bit

-- a row of the block of a frame picture with top_field_first whose record is 0 but for mv000, motion_type and mb_intra
abbrev pub minus_one_rows : List ℕ
minus_one_rows = data_rows (sample_block (sample_record (negsuc 0) (pos 0) 2 false))

abbrev pub intra : List ℕ
intra = data_rows (sample_block (sample_record (pos 0) (pos 0) 0 true))

pub record WorkedValues : Type 0 where
  pub chroma_512 : carrying 512 64 1 ≡ 513
  pub chroma_1019 : carrying 1019 940 1 ≡ 1018
  pub five_bytes : map (packed_word (0xFF ∷ 0xC0 ∷ 0x08 ∷ 0x00 ∷ 0x01 ∷ [])) (0 ∷ 1 ∷ 2 ∷ 3 ∷ []) ≡ 1023 ∷ 0 ∷ 512 ∷ 1 ∷ []
  pub last_element : index_of 1 89 ≡ 134
  pub element_after : index_of 1 90 ≡ 0
  pub fourth_stripe : index_of 3 0 ≡ 27
  pub last_macroblock : index_of 67 119 ≡ 83
  pub position_1 : (f : Format) → position_of f 0 1 ≡ 1
  pub reference_after : (f : Format) → reference_of f 65520 0 1 ≡ 0
  pub picture_after : next_first Frame1080 60000 ≡ 2639
  pub row_0 : slice_index_or intra 0 0 ≡ 0xFE02
  pub row_4 : slice_index_or minus_one_rows 4 0 ≡ 0xFFFC
