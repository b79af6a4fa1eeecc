-- Placing a record on a macroblock of an open picture.
use Rattle.std.specs.Prelude.{◌≡◌, ℕ, ◌≤◌, Bool, cond, not, List, Ok, Err, Result}
use Rattle.fault.specs.declared.Fault.{Fault}
use Rattle.fault.specs.declared.Fault.TheVariants.{SlabExtent, NotInFormat, FrameOrField}
use Rattle.fault.specs.Refusing.{refuse, then}
use Rattle.column.specs.Column.{embedded, carried_rows}
use Rattle.record.specs.declared.record.PictureFlags.{PictureFlags}
use Rattle.record.specs.declared.record.Record.{Record}
use Rattle.record.specs.declared.record.Block.{Block}
use Rattle.record.specs.Rules.{checked}
use Rattle.block.specs.Code.{rows_of, decoded}
use Rattle.block.specs.Slab.{writable, readable}
use Rattle.format.specs.declared.table.Format.{Format}
use Rattle.format.specs.Formats.{frame_of, is_slab, in_format, reference_of, index_of}
use Rattle.image.specs.Image.{is_frame, is422, top_field_first_of, repeat_first_field_of, q_scale_type_of}
use Rattle.image.specs.Elements.{element_of}

-- a flag has this value
abbrev pub agrees : Bool → Bool → Bool
agrees a b = cond a b (not b)

-- the flags of every block of a picture with this image
abbrev pub flags_of : List ℕ → PictureFlags
flags_of image =
    record {
      fr_fl_srib = is_frame image;
      top_field_first = top_field_first_of image;
      repeat_first_field = repeat_first_field_of image;
      chroma_422_420 = is422 image;
      q_scale_type = q_scale_type_of image;
    }

-- the block of a macroblock: the image's flags, the reference by position, the image's element at the macroblock's index, and the record
abbrev pub block_for : Format → ℕ → ℕ → ℕ → List ℕ → Record → Block
block_for f first stripe column image r =
    record { picture = flags_of image; reference = reference_of f first stripe column; element = element_of image (index_of stripe column); «record» = r }

-- what place judges, in a slab of so many rows and words: 10, 11, 12, 17, 18; else the block to write
abbrev pub placing : Format → ℕ → ℕ → ℕ → ℕ → ℕ → List ℕ → Record → Result Block Fault
placing f first stripe column rows words image r =
    refuse (not (is_slab f rows words)) SlabExtent
    (refuse (not (in_format f stripe column)) NotInFormat
    (then (checked r) (λ _.
    refuse (not (agrees (is_frame image) (frame_of f))) FrameOrField
    (Ok (block_for f first stripe column image r)))))

-- the words after a place: those of the macroblock carry the block, if it was accepted
abbrev pub placed_at : Result Block Fault → (ℕ → ℕ → ℕ) → ℕ → ℕ → ℕ → ℕ
placed_at (Ok block) at column i j = embedded at column (rows_of block) i j
placed_at (Err fault) at column i j = at i j

-- an accepted block: writing it in its column is accepted too, and it can be read back
pub record Ready (f : Format) (first stripe column rows words : ℕ) (image : List ℕ) (r : Record) (b : Block) : Type 0 where
  pub is : b ≡ block_for f first stripe column image r
  pub written : writable rows words column b ≡ Ok (rows_of b)
  pub lawful : b.reference ≤ 65520
  pub read : (at : ℕ → ℕ → ℕ) → readable rows words column at ≡ decoded (carried_rows at column)
