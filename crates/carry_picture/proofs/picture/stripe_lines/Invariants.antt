-- The lines so far; the slabs stay.
use Rattle.std.proofs.Common.{◌≡◌, ℕ, ◌<◌, length, slice_index_or}
use Rattle.bench.specs.Line.{line_of}
use Rattle.bench.specs.Memory.{memories, memory_in}
use Rattle.carry_picture.proofs.picture.stripe_lines.Given as goal

abbrev pub invariant-loop-number : goal.invariant-loop-number
invariant-loop-number l =
    (length l.input ≡ 3)
    × (length l.slabs ≡ 3)
    × (memories l.input ≡ memories l.initial.input)
    × (memories l.slabs ≡ memories l.initial.slabs)
    × (length l.lines ≡ 3)
    × ((k : ℕ) → k < l.number → slice_index_or l.lines k (record { stripe = 0; moved = 0; read = 0 }) ≡ line_of k (memory_in l.initial.input k) (memory_in l.initial.slabs k))
