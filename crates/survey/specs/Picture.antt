-- A survey of the bench picture that three memories hold, which are given by their stripes.
use Rattle.std.specs.Prelude.{ℕ, List, replicate}
use Rattle.slots.specs.declared.slot.Slot.{Slot}
use Rattle.slots.specs.declared.slot.Slot.TheVariants.{Empty}
use Rattle.fault.specs.Refusing.{done}
use Rattle.extractor.specs.declared.gathering.Gathering.{Gathering}
use Rattle.extractor.specs.Delivery.{delivering}
use Rattle.bench.specs.Gather.{bench_picture, tallies_in, table_of}
use Rattle.survey.specs.declared.report.Survey.{Survey}

-- what is counted of each stripe, and what deliver answers of the table that they leave
abbrev pub surveyed_by : Gathering → (ℕ → List ℕ) → List (Slot ℕ) → Survey
surveyed_by g memory table =
    record { tallies = tallies_in g memory 135 45; delivered = done (delivering (table_of g memory 45 table)) }

-- the survey of the memories of the three stripes: all is gathered in order of position, on an empty table
abbrev pub surveyed : (ℕ → List ℕ) → Survey
surveyed memory = surveyed_by bench_picture memory (replicate 135 Empty)
