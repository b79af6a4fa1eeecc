use Rattle.crc.proofs.Bursts.{burst_never_passes, ends_at_zero, checked_fits}
use Rattle.crc.proofs.burst.burst_never_passes.Goals as goal

pub returns : goal.returns
returns c = record { burst = burst_never_passes; ends = ends_at_zero; checked = checked_fits }
