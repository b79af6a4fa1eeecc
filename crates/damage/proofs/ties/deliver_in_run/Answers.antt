use Rattle.damage.proofs.Steps.{delivered_step}
use Rattle.damage.proofs.ties.deliver_in_run.Goals as goal

pub returns : goal.returns
returns c =
    let e = c.deliver_into.ensures in
    record {
      answer = e.answer;
      step = delivered_step c.args.table.now.slots.now c.args.image.now.bytes c.deliver_into.new.image.bytes c.deliver_into.result e.answer e.image;
    }
