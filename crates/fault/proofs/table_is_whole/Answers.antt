use Rattle.fault.proofs.Complete.{listed, used, apart, told, ascending}
use Rattle.fault.proofs.table_is_whole.Goals as goal

pub returns : goal.returns
returns c = record { listed = listed; used = used; apart = apart; told = told; ascending = ascending }
