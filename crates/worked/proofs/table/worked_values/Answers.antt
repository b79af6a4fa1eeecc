use Rattle.worked.proofs.Tables.{worked_values}
use Rattle.worked.proofs.table.worked_values.Goals as goal

pub returns : goal.returns
returns c = worked_values
