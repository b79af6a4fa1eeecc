use Rattle.format.proofs.Whole.{listed, used}
use Rattle.format.proofs.laws.table_is_whole.Goals as goal

pub returns : goal.returns
returns c = record { listed = listed; used = used }
