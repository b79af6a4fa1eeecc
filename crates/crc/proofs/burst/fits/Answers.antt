use Rattle.std.proofs.lemmas.Bool.Decides.{Decides-at, Decides-like}
use Rattle.crc.specs.Burst.{Block, check_fits}
use Rattle.crc.proofs.Bursts.{burst_never_passes, zero_if_fits, fits_if_zero, fitting_decides}
use Rattle.crc.proofs.burst.fits.Goals as goal

block : (c : goal.After-is_fitting) → Block c.args.rows.now
block c = record { long = c.told-rows; narrow = λ i _. c.fits-rows i }

pub returns-clause-zero : goal.returns-clause-zero
returns-clause-zero c =
    let rows = c.args.rows.now in
    let r = c.is_fitting.result in
    Decides-like r (zero_if_fits rows (block c)) (fits_if_zero rows (block c)) (Decides-at r (check_fits rows) c.is_fitting.ensures (fitting_decides rows))

pub returns-clause-alone : goal.returns-clause-alone
returns-clause-alone c =
    let rows = c.args.rows.now in
    λ t. burst_never_passes rows (block c) ((Decides-at c.is_fitting.result (check_fits rows) c.is_fitting.ensures (fitting_decides rows)).0 t)
