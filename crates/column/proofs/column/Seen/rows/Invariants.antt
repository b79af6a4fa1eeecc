-- The rows so far are those that the window carries.
use Rattle.std.proofs.Common.{◌≡◌, ℕ, ◌<◌, length, get_or}
use Rattle.column.specs.Window.{row_of}
use Rattle.column.proofs.column.Seen.rows.Given as goal

abbrev pub invariant-loop-i : goal.invariant-loop-i
invariant-loop-i g l = (length l.row-items ≡ 16) × ((k : ℕ) → k < l.i → get_or l.row-items k 0 ≡ row_of (g.R.Raster.at l.self.slab.now) l.self.first k)
