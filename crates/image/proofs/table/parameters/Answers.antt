use Rattle.std.proofs.Common.{sym, subst}
use Rattle.image.specs.Table.{Gapless}
use Rattle.image.proofs.Rows.{gapless}
use Rattle.image.proofs.table.parameters.Goals as goal

pub returns : goal.returns
returns c = record { rows = c.rows.ensures; gapless = subst Gapless (sym c.rows.ensures) gapless }
