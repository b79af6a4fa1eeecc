-- The values are computed.
use Rattle.std.proofs.Common.{◌≡◌, refl}
use lib.Count.{ones}
use Rattle.buffer.specs.Packed.{packed_word}
use Rattle.record.specs.Layout.{data_rows}
use Rattle.format.specs.declared.table.Format.{Format}
use Rattle.format.specs.declared.table.Format.TheVariants.{Frame1080, Field1080, Frame720, Bench}
use Rattle.format.specs.Formats.{position_of, reference_of}
use Rattle.worked.specs.Values.{WorkedValues}

first_position : (f : Format) → position_of f 0 1 ≡ 1
first_position Frame1080 = refl
first_position Field1080 = refl
first_position Frame720 = refl
first_position Bench = refl

around : (f : Format) → reference_of f 65520 0 1 ≡ 0
around Frame1080 = refl
around Field1080 = refl
around Frame720 = refl
around Bench = refl

pub worked_values : WorkedValues
unfolding packed_word data_rows ones
worked_values =
    record {
      chroma_512 = refl;
      chroma_1019 = refl;
      five_bytes = refl;
      last_element = refl;
      element_after = refl;
      fourth_stripe = refl;
      last_macroblock = refl;
      position_1 = first_position;
      reference_after = around;
      picture_after = refl;
      row_0 = refl;
      row_4 = refl;
    }
