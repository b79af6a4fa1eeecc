-- What is gathered of the picture.
use Rattle.std.specs.Prelude.{ℕ, ◌+◌, Bool, List, replicate, count_by}
use Rattle.slots.specs.declared.slot.Slot.{Slot}
use Rattle.slots.specs.declared.slot.Slot.TheVariants.{Empty}
use Rattle.slots.specs.declared.slot.State.{State}
use Rattle.slots.specs.Slots.{state_of, same_state}
use Rattle.bench.specs.Gather.{bench_picture, tally_in, table_of}
use Rattle.carry_picture.specs.declared.line.PictureLine.{PictureLine}

abbrev pub is_held : Slot ℕ → Bool
is_held slot = same_state (state_of slot) State.Held

-- how many slots hold a value
abbrev pub held_in : List (Slot ℕ) → ℕ
held_in slots = count_by is_held slots

-- how many gathers of the three stripes are accepted, with a table of 135 slots and a sheet of 45
abbrev pub good_of : (ℕ → List ℕ) → ℕ
good_of memory =
    (tally_in bench_picture 0 (memory 0) 135 45).good + (tally_in bench_picture 1 (memory 1) 135 45).good + (tally_in bench_picture 2 (memory 2) 135 45).good

-- the accepted gathers of the picture that the memories of the stripes hold, and the slots held after them
abbrev pub gathered_of : (ℕ → List ℕ) → PictureLine
gathered_of memory = record { gathered = good_of memory; held = held_in (table_of bench_picture memory 45 (replicate 135 Empty)) }
