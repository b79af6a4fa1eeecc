-- The row so far carries the first k bits.
use Rattle.std.proofs.Common.{◌≡◌, ℕ, ◌<◌, cond, eqb}
use Rattle.column.specs.Window.{line_to}
use Rattle.column.proofs.column.embed_row.Given as goal

abbrev pub invariant-loop-k : goal.invariant-loop-k
invariant-loop-k g l =
    let m = g.R.Raster in
    m.kept l.initial.slab l.slab
    × ((i j : ℕ) → i < m.rows l.initial.slab → j < m.words l.initial.slab → m.at l.slab i j ≡ cond (eqb i l.row) (line_to (m.at l.initial.slab i) l.first l.value l.k j) (m.at l.initial.slab i j))
