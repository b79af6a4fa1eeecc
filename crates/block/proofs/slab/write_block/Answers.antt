-- A refused write leaves every word, so none differs.
use Rattle.std.proofs.Common.{false, [], refl}
use Rattle.column.proofs.Laws.{few_differ}
use Rattle.block.proofs.slab.write_block.Goals as goal

pub returns-in_err-rows-clause-few : goal.returns-in_err-rows-clause-few
returns-in_err-rows-clause-few g c =
    let at = g.R.Raster.at c.args.slab.now in few_differ at at (g.R.Raster.rows c.args.slab.now) (g.R.Raster.words c.args.slab.now) 0 [] false (λ i j hi hj. refl)
