-- The block is that of the table, so its numbers fit.
use Rattle.std.proofs.Common.{sym, subst}
use Rattle.record.specs.Laws.{Fitting}
use Rattle.record.proofs.Undoing.{always_fitting}
use Rattle.record.proofs.decode.block_of.Goals as goal

pub returns-clause-fitting : goal.returns-clause-fitting
returns-clause-fitting c = subst Fitting (sym c.spelt.ensures) (always_fitting c.args.rows.now)
