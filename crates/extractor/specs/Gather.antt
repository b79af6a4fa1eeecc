-- Gathering a picture: what start and gather answer, and what they leave in the element table and on a stripe's sheet.
use Rattle.std.specs.Prelude.{ℕ, not, List, Ok, Err, Result, ◌==◌, nat_eq}
use Rattle.fault.specs.declared.Fault.{Fault}
use Rattle.fault.specs.declared.Fault.TheVariants.{Length, SlabExtent, FrameOrField, UnexpectedReference}
use Rattle.fault.specs.Refusing.{refuse, then}
use Rattle.column.specs.Column.{carried_rows}
use Rattle.record.specs.declared.record.Record.{Record}
use Rattle.record.specs.declared.record.Block.{Block}
use Rattle.record.specs.Equality.{is_same_record}
use Rattle.slots.specs.declared.slot.Slot.{Slot}
use Rattle.slots.specs.Slots.{offered_at}
use Rattle.block.specs.Code.{decoded}
use Rattle.format.specs.Formats.{accepted, first_of, columns_of, frame_of, is_slab, within, reference_of, index_of, element_count}
use Rattle.inserter.specs.Place.{agrees}
use Rattle.extractor.specs.declared.gathering.Gathering.{Gathering}

-- what is left by a call: what an acceptance makes of it, or as it was
abbrev pub settled : {A B : Type 0} → Result A Fault → B → (A → B) → B
settled (Ok x) was makes = makes x
settled (Err fault) was makes = was

-- start, with a table of so many slots: 3, 4, 5
abbrev pub starting : ℕ → ℕ → ℕ → Result Gathering Fault
starting number first slots =
    then (accepted number) (λ f.
    then (first_of first) (λ n.
    refuse (not (slots == element_count)) Length
    (Ok (record { format = f; first = n }))))

-- a block that was read: 18 if it is of a frame and the format of fields, or the other way round; 19 if another reference is due
abbrev pub expected : Gathering → ℕ → ℕ → Block → Result Block Fault
expected g stripe column b =
    refuse (not (agrees b.picture.fr_fl_srib (frame_of g.format))) FrameOrField
    (refuse (not (b.reference == reference_of g.format g.first stripe column)) UnexpectedReference
    (Ok b))

-- where a macroblock's element belongs, with a table and a sheet of so many slots: 5 for the table, 5 for the sheet, 10, 11
abbrev pub admitted : Gathering → ℕ → ℕ → ℕ → ℕ → ℕ → ℕ → Result ℕ Fault
admitted g stripe column rows words slots sheet =
    refuse (not (slots == element_count)) Length
    (refuse (not (sheet == columns_of g.format)) Length
    (refuse (not (is_slab g.format rows words)) SlabExtent
    (within g.format stripe column (index_of stripe column))))

-- gather: 5, 10 and 11, then 13 to 17 for what the column carries, then 18 and 19
abbrev pub gathered : Gathering → ℕ → ℕ → ℕ → ℕ → (ℕ → ℕ → ℕ) → ℕ → ℕ → Result Block Fault
gathered g stripe column rows words at slots sheet =
    then (admitted g stripe column rows words slots sheet) (λ _.
    then (decoded (carried_rows at column)) (expected g stripe column))

-- the block alone
abbrev pub then_block : Result (ℕ × Block) Fault → Result Block Fault
then_block r = then r (λ x. Ok x.1)

-- the table after a block was gathered: its element is offered at the macroblock's index
abbrev pub elements_after : ℕ → ℕ → List (Slot ℕ) → Block → List (Slot ℕ)
elements_after stripe column slots b = offered_at nat_eq slots (index_of stripe column) b.element

-- the sheet of the stripe: its record is offered at the column
abbrev pub sheet_after : ℕ → List (Slot Record) → Block → List (Slot Record)
sheet_after column sheet b = offered_at is_same_record sheet column b.«record»
