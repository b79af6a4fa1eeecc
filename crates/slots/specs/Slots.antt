-- Slots and lists of slots, over any values. What tells two values apart is a test `same`, handed in.
use Rattle.std.specs.Prelude.{◌≡◌, ℕ, ◌+◌, ◌<◌, Bool, cond, List, [], ◌∷◌, length, replicate, Some, None, Ok, Err, Option, Result, ◌==◌, ◌≢◌, nat_lt, slice_index_or, slice_set}
use Rattle.fault.specs.declared.Fault.{Fault}
use Rattle.fault.specs.declared.Fault.TheVariants.{SlotNumber}
use Rattle.slots.specs.declared.slot.Slot.{Slot}
use Rattle.slots.specs.declared.slot.Slot.TheVariants.{Empty, Held, Disputed}
use Rattle.slots.specs.declared.slot.State.{State}

-- the states of a slot
abbrev pub states : List State
states = State.Empty ∷ State.Held ∷ State.Disputed ∷ []

-- which of them a slot is in
abbrev pub state_of : {V : Type 0} → Slot V → State
state_of Empty = State.Empty
state_of (Held v) = State.Held
state_of Disputed = State.Disputed

-- the place of a state among them
abbrev pub place_of : State → ℕ
place_of State.Empty = 0
place_of State.Held = 1
place_of State.Disputed = 2

-- there are three, and every state is one of them
pub record Listed : Type 0 where
  pub three : length states ≡ 3
  pub each : (s : State) → slice_index_or states (place_of s) State.Empty ≡ s

abbrev pub same_state : State → State → Bool
same_state s t = place_of s == place_of t

-- one slot on
abbrev pub further : Option ℕ → Option ℕ
further None = None
further (Some n) = Some (n + 1)

module _ {V : Type 0} where
  -- A slot after an offer: the first value fills it, an equal one leaves it, and an unequal one makes it disputed.
  abbrev pub offered : (V → V → Bool) → Slot V → V → Slot V
  offered same Empty v = Held v
  offered same (Held w) v = cond (same w v) (Held w) Disputed
  offered same Disputed v = Disputed

  -- What that comes to, said of equality and not of the test.
  pub record Settled (before : Slot V) (v : V) (after : Slot V) : Type 0 where
    pub filled : before ≡ Empty → after ≡ Held v
    pub equal : before ≡ Held v → after ≡ Held v
    pub unequal : (w : V) → before ≡ Held w → (w ≢ v) → after ≡ Disputed
    pub disputed : before ≡ Disputed → after ≡ Disputed

  -- a slot after one offer after another
  abbrev pub offers : (V → V → Bool) → Slot V → List V → Slot V
  offers same s [] = s
  offers same s (v ∷ vs) = offers same (offered same s v) vs

  -- every one of the values is v
  abbrev pub AllAre : V → List V → Type 0
  AllAre v [] = Unit {0}
  AllAre v (w ∷ ws) = (w ≡ v) × AllAre v ws

  -- However many values are offered, an empty slot comes to hold one exactly if there is one and all are equal; a disputed slot stays so.
  pub record OffersSettle (same : V → V → Bool) : Type 0 where
    pub holds : (v : V) (vs : List V) → AllAre v vs → offers same Empty (v ∷ vs) ≡ Held v
    pub held : (v : V) (vs : List V) → offers same Empty vs ≡ Held v → (vs ≢ []) × AllAre v vs
    pub disputed : (vs : List V) → offers same Disputed vs ≡ Disputed

  -- slots after an offer to number n: the others are as they were, and so are all if there is no such number
  abbrev pub offered_at : (V → V → Bool) → List (Slot V) → ℕ → V → List (Slot V)
  offered_at same slots n v = slice_set slots n (offered same (slice_index_or slots n Empty) v)

  -- as many empty slots
  abbrev pub cleared : List (Slot V) → List (Slot V)
  cleared slots = replicate (length slots) Empty

  -- the number of the lowest slot in a state
  unfoldable pub lowest_in : State → List (Slot V) → Option ℕ
  lowest_in s [] = None
  lowest_in s (x ∷ xs) = cond (same_state (state_of x) s) (Some 0) (further (lowest_in s xs))

  -- none of the first n slots is in the state
  abbrev pub NoneBelow : State → List (Slot V) → ℕ → Type 0
  NoneBelow s slots n = (k : ℕ) → k < n → state_of (slice_index_or slots k Empty) ≢ s

  -- what the lowest slot in a state is: in the state, with none below it; or there is none
  abbrev pub Lowest : State → List (Slot V) → Option ℕ → Type 0
  Lowest s slots None = NoneBelow s slots (length slots)
  Lowest s slots (Some n) = (n < length slots) × (state_of (slice_index_or slots n Empty) ≡ s) × NoneBelow s slots n

-- an answer about number n of so many slots: 6 if there is no such number
abbrev pub numbered : {A : Type 0} → ℕ → ℕ → A → Result A Fault
numbered count n x = cond (nat_lt n count) (Ok x) (Err SlotNumber)

-- the slot of number n
abbrev pub slot_at : {V : Type 0} → List (Slot V) → ℕ → Result (Slot V) Fault
slot_at slots n = numbered (length slots) n (slice_index_or slots n Empty)
