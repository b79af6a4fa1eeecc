-- What is the lowest slot in the state is what the definition computes.
use Rattle.slots.proofs.Searching.{lowest_is}
use Rattle.slots.proofs.search.lowest.Goals as goal

pub returns : goal.returns
returns g c = record { answer = lowest_is _ _ _ c.first_in.ensures; lowest = c.first_in.ensures }
