-- Delivering a picture's image from the table of its elements.
use Rattle.std.specs.Prelude.{◌≡◌, ℕ, ◌<◌, not, List, map, length, Some, None, Ok, Err, Option, Result, ◌==◌, slice_index_or}
use Rattle.fault.specs.declared.Fault.{Fault}
use Rattle.fault.specs.declared.Fault.TheVariants.{Length, EmptySlot, DisputedSlot}
use Rattle.fault.specs.Refusing.{refuse, then}
use Rattle.slots.specs.declared.slot.Slot.{Slot}
use Rattle.slots.specs.declared.slot.Slot.TheVariants.{Empty, Held, Disputed}
use Rattle.slots.specs.declared.slot.State.{State}
use Rattle.slots.specs.Slots.{lowest_in}
use Rattle.format.specs.Formats.{element_count}
use Rattle.image.specs.Image.{receiving, Sealed}
use Rattle.image.specs.Elements.{element_of, joined, Bytes}

-- refuse with the slot that a search found, else go on
abbrev pub found : {A : Type 0} → Option ℕ → (ℕ → Fault) → Result A Fault → Result A Fault
found None fault rest = rest
found (Some slot) fault rest = Err (fault slot)

-- the element that a slot holds
abbrev pub held_in : Slot ℕ → ℕ
held_in Empty = 0
held_in (Held v) = v
held_in Disputed = 0

-- the elements of a table: 5 if it has not 135 slots, 20 with the lowest empty slot, 21 with the lowest disputed one
abbrev pub collected : List (Slot ℕ) → Result (List ℕ) Fault
collected slots =
    refuse (not (length slots == element_count)) Length
    (found (lowest_in State.Empty slots) EmptySlot
    (found (lowest_in State.Disputed slots) DisputedSlot
    (Ok (map held_in slots))))

-- deliver: 5, 20 and 21, then 22 to 26 for what the elements join to; else that image
abbrev pub delivering : List (Slot ℕ) → Result (List ℕ) Fault
delivering slots = then (collected slots) (λ elements. receiving (joined elements))

-- what is accepted: there are 540 bytes that are sealed, and the table has 135 slots, each of which holds the element of its number
pub record Whole (slots : List (Slot ℕ)) : Type 0 where
  pub bytes : List ℕ
  pub shape : Bytes bytes
  pub sealed : Sealed bytes
  pub long : length slots ≡ element_count
  pub held : (i : ℕ) → i < element_count → slice_index_or slots i Empty ≡ Held (element_of bytes i)
