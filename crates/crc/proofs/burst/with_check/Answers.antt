use Rattle.std.proofs.Common.{sym, subst}
use Rattle.crc.specs.Burst.{Rows, CheckFits, Alone, with_check}
use Rattle.crc.proofs.Bursts.{burst_never_passes, checked_block, checked_spelled}
use Rattle.crc.proofs.burst.with_check.Goals as goal

rows : (c : goal.After-checked) → Rows 14 c.args.rows.now
rows c = record { long = c.told-rows; narrow = λ i _. c.fits-rows i }

pub returns-clause-fits : goal.returns-clause-fits
returns-clause-fits c = subst CheckFits (sym c.checked.ensures) (checked_spelled c.args.rows.now (rows c))

pub returns-clause-alone : goal.returns-clause-alone
returns-clause-alone c =
    let r = c.args.rows.now in subst Alone (sym c.checked.ensures) (burst_never_passes (with_check r) (checked_block r (rows c)) (checked_spelled r (rows c)))
