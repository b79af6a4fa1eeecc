use Rattle.std.proofs.Common.{rules}
use Rattle.column.proofs.Steps.{bit_more}
use Rattle.column.proofs.column.embed_row.Goals as goal

pub loop-k-preserved : goal.loop-k-preserved
loop-k-preserved g c =
    let m = g.R.Raster in (
      m.onward c.args.slab.now c.loop-k.slab c.embed_bit.new.slab c.loop-k.invariant.0 c.embed_bit.ensures.kept,
      bit_more (m.at c.args.slab.now) (m.at c.loop-k.slab) (m.at c.embed_bit.new.slab) _ _ c.args.row c.args.first c.args.value c.loop-k.k c.bit_of.result
          (search rules) (search rules) (search rules) (search rules) c.loop-k.invariant.1 (λ i j hi hj. c.embed_bit.ensures.after i j (search rules) (search rules)),
    )
