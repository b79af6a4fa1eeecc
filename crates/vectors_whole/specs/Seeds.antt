-- What a seed makes.
use Rattle.std.specs.Prelude.{ℕ, zero, suc, ◌+◌, ◌*◌, ◌/◌, ◌%◌, ◌^◌, List, [], ◌∷◌, map}
use Rattle.vectors_whole.specs.declared.memory.States.{States}

-- one step of the generator
abbrev pub next_state : ℕ → ℕ
next_state state = (1664525 * state + 1013904223) % 2 ^ 32

-- so many states after a state
unfoldable pub states_after : ℕ → ℕ → List ℕ
states_after zero state = []
states_after (suc count) state = next_state state ∷ states_after count (next_state state)

abbrev pub states_of : States → List ℕ
states_of s = states_after s.count s.state

-- their high halves, and their high bytes
abbrev pub high_halves : ℕ → ℕ → List ℕ
high_halves count seed = map (λ state. state / 2 ^ 16) (states_after count seed)

abbrev pub high_bytes : ℕ → ℕ → List ℕ
high_bytes count seed = map (λ state. state / 2 ^ 24) (states_after count seed)
