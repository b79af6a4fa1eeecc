-- The slab shows the memory's words.
use Rattle.std.proofs.Common.{rules}
use Rattle.bench.proofs.carry.count_in.Goals as goal

pub returns-clause-answer : goal.returns-clause-answer
returns-clause-answer g c =
    let s = c.slab_in-slab.ensures in rw (s.value, s.words (search rules)) at c.count_columns.ensures
