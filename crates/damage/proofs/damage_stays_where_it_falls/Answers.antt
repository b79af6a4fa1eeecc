use Rattle.damage.proofs.Apart.{apart}
use Rattle.damage.proofs.Survives.{survives}
use Rattle.damage.proofs.Placings.{unnoticed}
use Rattle.damage.proofs.Rasters.{covers}
use Rattle.damage.proofs.Premises.{worked_runs}
use Rattle.damage.proofs.damage_stays_where_it_falls.Goals as goal

pub returns : goal.returns
returns c = record { law = record { apart = apart; survives = survives; unnoticed = unnoticed; covers = covers }; worked = worked_runs }
