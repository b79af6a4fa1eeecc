-- The window so far carries the first rows of the block.
use Rattle.std.proofs.Common.{◌≡◌, ℕ, ◌<◌}
use Rattle.column.specs.Window.{rows_to}
use Rattle.column.proofs.column.embed_rows.Given as goal

abbrev pub invariant-loop-row : goal.invariant-loop-row
invariant-loop-row g l =
    let m = g.R.Raster in
    m.kept l.initial.slab l.slab
    × ((i j : ℕ) → i < m.rows l.initial.slab → j < m.words l.initial.slab → m.at l.slab i j ≡ rows_to (m.at l.initial.slab) l.first l.rows l.row i j)
