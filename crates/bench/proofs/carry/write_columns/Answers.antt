use Rattle.std.proofs.Common.{◌∙◌, rules}
use Rattle.bench.proofs.Stripes.{one_laden}
use Rattle.bench.proofs.carry.write_columns.Goals as goal

pub loop-column-preserved : goal.loop-column-preserved
loop-column-preserved g c =
    let m = g.R.Raster in
    let i = c.loop-column.invariant in
    let w = c.write in (
      m.onward c.args.slab.now c.loop-column.slab w.new.slab i.0 w.ensures.kept,
      one_laden g.W.Writer.block c.args.stripe.number 1440 c.loop-column.column (m.at c.args.slab.now) (m.at c.loop-column.slab) (m.at w.new.slab) (search rules) i.1 (w.ensures.one (m.rows_kept c.args.slab.now c.loop-column.slab i.0 ∙ c.requires.0) (m.words_kept c.args.slab.now c.loop-column.slab i.0 ∙ c.requires.1)),
    )
