use Rattle.damage.proofs.Steps.{steps_run}
use Rattle.damage.proofs.ties.steps_make_a_run.Goals as goal

pub returns : goal.returns
returns c = steps_run
