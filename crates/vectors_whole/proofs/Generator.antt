-- The states of the generator, one by one.
use Rattle.std.proofs.Common.{◌≡◌, ℕ, zero, suc, ◌-◌, ◌<◌, [], ◌∷◌, refl, arith}
use Rattle.vectors_whole.specs.Seeds.{next_state, states_after}

pub states_none : (count state : ℕ) → count ≡ 0 → states_after count state ≡ []
unfolding states_after
states_none count state none = rw none refl

pub states_more : (count state : ℕ) → 0 < count → states_after count state ≡ next_state state ∷ states_after (count - 1) (next_state state)
unfolding states_after
states_more zero state some = absurd (omega arith)
states_more (suc count) state some = let one : suc count - 1 ≡ count = omega arith in rw one refl
