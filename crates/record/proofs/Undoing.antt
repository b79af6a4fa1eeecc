-- Encoding and decoding undo each other.
use Rattle.std.proofs.Common.{ℕ, List, sym, refl, ap, ◌∙◌, rules}
use mathlib.Core.Path.{fun_ext}
use Rattle.std.proofs.lemmas.Bool.{eq-eqb, eqb-true}
use Rattle.record.specs.Layout.{Sync, Reference, Element, found, rows_with, block_with, values_of, data_rows, block_of, has_sync}
use Rattle.record.specs.Rules.{fits_widths}
use Rattle.record.specs.Laws.{Fitting, RowsFilled, DecodingUndoesEncoding, EncodingUndoesDecoding, SpeltOnce, Samples}
use Rattle.record.proofs.Fields.{found_again, found_small, rows_narrow, rows_clear}
use Rattle.record.proofs.Rows.{rejoined}
use Rattle.record.proofs.Values.{values_small, same_block, same_values, within_with}
use Rattle.record.proofs.Widths.{within, passes}

pub decoding_undoes : DecodingUndoesEncoding
unfolding data_rows block_of has_sync
decoding_undoes b h =
    let small = values_small b h in (
      record {
        count = refl;
        narrow = rows_narrow (values_of b) small;
        sync = eq-eqb _ _ (found_again (values_of b) small Sync);
        reserved = rows_clear (values_of b);
      },
      ap block_with (fun_ext (found_again (values_of b) small)) ∙ same_block b (within b.«record» h.widths),
    )

-- what rows spell always fits
pub always_fitting : (rows : List ℕ) → Fitting (block_of rows)
unfolding block_of
always_fitting rows = record {
  widths = passes _ (within_with (found rows) (found_small rows));
  reference = found_small rows Reference;
  element = found_small rows Element;
}

pub encoding_undoes : EncodingUndoesDecoding
unfolding data_rows block_of has_sync
encoding_undoes rows h = (
  always_fitting rows,
  ap rows_with (fun_ext (same_values (found rows) (found_small rows) (eqb-true _ _ h.sync))) ∙ rejoined rows h.count h.narrow h.reserved,
)

pub spelt_once : SpeltOnce
spelt_once rows others h k same = sym (encoding_undoes rows h).1 ∙ (ap data_rows same ∙ (encoding_undoes others k).1)

pub rows_filled : RowsFilled
rows_filled = refl

pub samples : Samples
unfolding data_rows block_of fits_widths
samples = search rules
