-- What the stripes so far came to; the slabs stay.
use Rattle.std.proofs.Common.{◌≡◌, ℕ, ◌<◌, length, slice_index_or}
use Rattle.bench.specs.Gather.{tally_in}
use Rattle.bench.specs.Memory.{memories, memory}
use Rattle.bench.proofs.Gathers.{tables, sheets}
use Rattle.bench.proofs.picture.gather_picture.Given as goal

abbrev pub invariant-loop-stripe : goal.invariant-loop-stripe
invariant-loop-stripe l =
    let slots = l.initial.table.slots.now in
    let sheet = l.initial.sheet in
    let m = memory l.fn.slabs in
    (memories l.slab-items ≡ memories l.initial.slab-items)
    × (length l.tallies ≡ 3)
    × ((k : ℕ) → k < l.stripe → slice_index_or l.tallies k (record { good = 0; foreign = 0; bad = 0 }) ≡ tally_in l.gathering k (m k) (length slots) (length sheet))
    × (l.table.slots.now ≡ tables l.gathering m (length sheet) slots l.stripe)
    × (length l.table.slots.now ≡ length slots)
    × (l.sheet ≡ sheets l.gathering m (length slots) sheet l.stripe)
    × (length l.sheet ≡ length sheet)
    × (l.table.slots.ghost_name ≡ l.initial.table.slots.ghost_name)
