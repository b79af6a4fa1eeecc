-- Reading undoes placing.
use Rattle.std.specs.Prelude.{◌≡◌, ℕ, ◌<◌, true, List, is_ok, Ok, nat_eq}
use Rattle.record.specs.declared.record.Record.{Record}
use Rattle.format.specs.declared.table.Format.{Format}
use Rattle.slots.specs.declared.slot.Slot.{Slot}
use Rattle.record.specs.Equality.{is_same_record}
use Rattle.slots.specs.Slots.{offered_at}
use Rattle.format.specs.Formats.{number_of, columns_of, element_count, index_of}
use Rattle.image.specs.Elements.{element_of}
use Rattle.inserter.specs.Place.{block_for, placing, placed_at}
use Rattle.extractor.specs.Reading.{reading}
use Rattle.extractor.specs.Gather.{settled, gathered, elements_after, sheet_after}

-- A place was accepted on words `at`, and `now` is what the slab shows since, as any raster shows it: at every row and place inside.
pub record Placed (f : Format) (first stripe column rows words : ℕ) (image : List ℕ) (r : Record) (at now : ℕ → ℕ → ℕ) : Type 0 where
  pub accepted : is_ok (placing f first stripe column rows words image r) ≡ true
  pub shown : (i j : ℕ) → i < rows → j < words → now i j ≡ placed_at (placing f first stripe column rows words image r) at column i j

-- Reading then answers the block that was placed: the image's flags, the reference by position, the image's element, and the record. So
-- does a gather of the same format and first reference, which offers the image's element to the table and the record to the sheet.
abbrev pub ReadingUndoesPlacing : Type 0
ReadingUndoesPlacing =
    (f : Format) (first stripe column rows words : ℕ) (image : List ℕ) (r : Record) (at now : ℕ → ℕ → ℕ) →
    Placed f first stripe column rows words image r at now →
    (reading (number_of f) column rows words now ≡ Ok (block_for f first stripe column image r))
    × (gathered (record { format = f; first = first }) stripe column rows words now element_count (columns_of f) ≡ Ok (block_for f first stripe column image r))
    × ((slots : List (Slot ℕ)) → settled (gathered (record { format = f; first = first }) stripe column rows words now element_count (columns_of f)) slots (elements_after stripe column slots) ≡ offered_at nat_eq slots (index_of stripe column) (element_of image (index_of stripe column)))
    × ((sheet : List (Slot Record)) → settled (gathered (record { format = f; first = first }) stripe column rows words now element_count (columns_of f)) sheet (sheet_after column sheet) ≡ offered_at is_same_record sheet column r)
