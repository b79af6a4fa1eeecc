-- Gathering the slab in packed memory.
use Rattle.std.specs.Prelude.{ℕ, List, [], ◌∷◌, length, Result}
use Rattle.fault.specs.declared.Fault.{Fault}
use Rattle.record.specs.declared.record.Record.{Record}
use Rattle.record.specs.declared.record.Block.{Block}
use Rattle.buffer.specs.Packed.{packed_at}
use Rattle.extractor.specs.declared.gathering.Gathering.{Gathering}
use Rattle.extractor.specs.Gather.{gathered}
use Rattle.slots.specs.declared.slot.Slot.{Slot}
use Rattle.slots.specs.Slots.{cleared}
use Rattle.tally.specs.declared.kind.Tally.{Tally}
use Rattle.tally.specs.Stripe.{tallied, elements_offered, records_offered}
use Rattle.format.specs.declared.table.Format.TheVariants.{Bench}
use Rattle.bench.specs.Slab.{extent_in}

-- what a gather answers of each column, with a table and a sheet of so many slots
abbrev pub answers_in : Gathering → ℕ → List ℕ → ℕ → ℕ → ℕ → Result Block Fault
answers_in g stripe memory slots sheet column =
    gathered g stripe column (extent_in memory).rows (extent_in memory).words (packed_at memory (extent_in memory).words) slots sheet

-- what is counted of the stripe, a column for each slot of its sheet
unfoldable pub tally_in : Gathering → ℕ → List ℕ → ℕ → ℕ → Tally
tally_in g stripe memory slots sheet = tallied (answers_in g stripe memory slots sheet) sheet

-- the table after the stripe
unfoldable pub table_after : Gathering → ℕ → List ℕ → ℕ → List (Slot ℕ) → List (Slot ℕ)
table_after g stripe memory sheet table = elements_offered (answers_in g stripe memory (length table) sheet) stripe sheet table

-- the sheet, which is cleared first
unfoldable pub sheet_after : Gathering → ℕ → List ℕ → ℕ → List (Slot Record) → List (Slot Record)
sheet_after g stripe memory slots sheet = records_offered (answers_in g stripe memory slots (length sheet)) (length sheet) (cleared sheet)

-- the picture that is gathered: format 4, from reference 0
abbrev pub bench_picture : Gathering
bench_picture = record { format = Bench; first = 0 }

-- what is counted of each of the three stripes, whose memories are given by number
abbrev pub tallies_in : Gathering → (ℕ → List ℕ) → ℕ → ℕ → List Tally
tallies_in g memory slots sheet = tally_in g 0 (memory 0) slots sheet ∷ tally_in g 1 (memory 1) slots sheet ∷ tally_in g 2 (memory 2) slots sheet ∷ []

-- the table after them, with a sheet of so many slots
abbrev pub table_of : Gathering → (ℕ → List ℕ) → ℕ → List (Slot ℕ) → List (Slot ℕ)
table_of g memory sheet table = table_after g 2 (memory 2) sheet (table_after g 1 (memory 1) sheet (table_after g 0 (memory 0) sheet table))

-- the sheet after them, with a table of so many slots: each stripe clears it first
abbrev pub sheet_of : Gathering → (ℕ → List ℕ) → ℕ → List (Slot Record) → List (Slot Record)
sheet_of g memory slots sheet = sheet_after g 2 (memory 2) slots (sheet_after g 1 (memory 1) slots (sheet_after g 0 (memory 0) slots sheet))
