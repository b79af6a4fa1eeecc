-- The stripes so far carry their blocks; the others are as they were.
use Rattle.std.proofs.Common.{◌≡◌, ℕ, ◌<◌, ◌≤◌, length}
use Rattle.bench.specs.Memory.{memory_in}
use Rattle.carry_picture.specs.Stripe.{LadenSlab}
use Rattle.carry_picture.proofs.placing.place_stripes.Given as goal

abbrev pub invariant-loop-number : goal.invariant-loop-number
invariant-loop-number l =
    let before = memory_in l.initial.slabs in
    let now = memory_in l.slabs in
    (length l.slabs ≡ 3)
    × ((k : ℕ) → k < l.number → LadenSlab k (before k) (now k))
    × ((k : ℕ) → l.number ≤ k → now k ≡ before k)
