-- No stripe has more than 45 accepted gathers.
use Rattle.std.proofs.Common.{length, arith}
use Rattle.bench.specs.Memory.{memory}
use Rattle.bench.proofs.Gathers.{few_good}
use Rattle.carry_picture.proofs.gathering.gather_line.Goals as goal

pub overflow_add-gathered : goal.overflow_add-gathered
overflow_add-gathered c =
    let m = memory c.args.slabs.now in
    let g = c.in_ok-gathering.gathering in
    let slots = length c.start_picture.new.table.slots.now in
    rw c.gather_picture.ensures.tallies (omega (arith, few_good g 0 (m 0) slots 45, few_good g 1 (m 1) slots 45))

pub overflow_add-gathered-2 : goal.overflow_add-gathered-2
overflow_add-gathered-2 c =
    let m = memory c.args.slabs.now in
    let g = c.in_ok-gathering.gathering in
    let slots = length c.start_picture.new.table.slots.now in
    rw c.gather_picture.ensures.tallies (omega (arith, few_good g 0 (m 0) slots 45, few_good g 1 (m 1) slots 45, few_good g 2 (m 2) slots 45))
