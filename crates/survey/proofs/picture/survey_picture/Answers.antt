-- A cleared table of 135 slots is the empty one.
use Rattle.std.proofs.Common.{◌≡◌, replicate, rules}
use Rattle.slots.specs.declared.slot.Slot.TheVariants.{Empty}
use Rattle.bench.specs.Gather.{bench_picture}
use Rattle.survey.proofs.picture.survey_picture.Goals as goal

pub returns-clause-answer : goal.returns-clause-answer
returns-clause-answer c =
    let is : c.in_ok-gathering.gathering ≡ bench_picture = search rules in
    let empty : c.start_picture.new.table.slots.now ≡ replicate 135 Empty = search rules in
    rw (c.survey_stripes.ensures.answer, is, empty)
