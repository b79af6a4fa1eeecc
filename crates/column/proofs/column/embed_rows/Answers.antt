use Rattle.std.proofs.Common.{get_or, rules}
use Rattle.column.proofs.Steps.{row_more}
use Rattle.column.proofs.column.embed_rows.Goals as goal

pub loop-row-preserved : goal.loop-row-preserved
loop-row-preserved g c =
    let m = g.R.Raster in (
      m.onward c.args.slab.now c.loop-row.slab c.embed_row.new.slab c.loop-row.invariant.0 c.embed_row.ensures.kept,
      row_more (m.at c.args.slab.now) (m.at c.loop-row.slab) (m.at c.embed_row.new.slab) _ _ c.args.first c.args.rows.now c.loop-row.row (get_or c.args.rows.now c.loop-row.row 0)
          (search rules) (search rules) (search rules) c.loop-row.invariant.1 (λ i j hi hj. c.embed_row.ensures.after i j (search rules) (search rules)),
    )
