-- How many slots are in a state.
use Rattle.std.specs.Prelude.{ℕ, List, count_by}
use Rattle.slots.specs.declared.slot.Slot.{Slot}
use Rattle.slots.specs.declared.slot.State.{State}
use Rattle.slots.specs.Slots.{state_of, same_state}

-- how many of the slots are in the state
abbrev pub slots_in : {V : Type 0} → State → List (Slot V) → ℕ
slots_in state slots = count_by (λ slot. same_state (state_of slot) state) slots
