-- The columns so far are read as their blocks.
use Rattle.bench.specs.Stripe.{Laden}
use Rattle.bench.proofs.carry.write_columns.Given as goal

abbrev pub invariant-loop-column : goal.invariant-loop-column
invariant-loop-column g l =
    let m = g.R.Raster in
    m.kept l.initial.slab l.slab × Laden g.W.Writer.block l.stripe.number 1440 l.column (m.at l.initial.slab) (m.at l.slab)
