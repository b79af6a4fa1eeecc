-- Gathering a stripe, one column after the other: what is counted, and what is left in the table and on the sheet.
use Rattle.std.specs.Prelude.{ℕ, zero, suc, ◌+◌, cond, List, Result}
use Rattle.fault.specs.declared.Fault.{Fault}
use Rattle.record.specs.declared.record.Record.{Record}
use Rattle.record.specs.declared.record.Block.{Block}
use Rattle.slots.specs.declared.slot.Slot.{Slot}
use Rattle.extractor.specs.declared.gathering.Gathering.{Gathering}
use Rattle.extractor.specs.Gather.{settled, gathered, elements_after, sheet_after}
use Rattle.tally.specs.declared.kind.Kind.{Kind}
use Rattle.tally.specs.declared.kind.Kind.TheVariants.{Good, Foreign, Bad}
use Rattle.tally.specs.declared.kind.Tally.{Tally}
use Rattle.tally.specs.Kinds.{kind_of, same_kind}

-- what gathering answers along a stripe, column by column
abbrev pub answers_along : Gathering → ℕ → ℕ → ℕ → (ℕ → ℕ → ℕ) → ℕ → ℕ → ℕ → Result Block Fault
answers_along g stripe rows words at slots sheet column = gathered g stripe column rows words at slots sheet

-- how many of the first n answers are of a kind
unfoldable pub count_of : Kind → (ℕ → Result Block Fault) → ℕ → ℕ
count_of k answers zero = 0
count_of k answers (suc n) = count_of k answers n + cond (same_kind (kind_of (answers n)) k) 1 0

-- the three counts
abbrev pub tallied : (ℕ → Result Block Fault) → ℕ → Tally
tallied answers n = record { good = count_of Good answers n; foreign = count_of Foreign answers n; bad = count_of Bad answers n }

-- the table after the first n columns of a stripe got these answers: each acceptance offers its element
unfoldable pub elements_offered : (ℕ → Result Block Fault) → ℕ → ℕ → List (Slot ℕ) → List (Slot ℕ)
elements_offered answers stripe zero slots = slots
elements_offered answers stripe (suc n) slots =
    settled (answers n) (elements_offered answers stripe n slots) (elements_after stripe n (elements_offered answers stripe n slots))

-- the stripe's sheet: each acceptance offers its record
unfoldable pub records_offered : (ℕ → Result Block Fault) → ℕ → List (Slot Record) → List (Slot Record)
records_offered answers zero sheet = sheet
records_offered answers (suc n) sheet = settled (answers n) (records_offered answers n sheet) (sheet_after n (records_offered answers n sheet))
