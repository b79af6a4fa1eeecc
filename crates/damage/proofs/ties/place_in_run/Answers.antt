use Rattle.damage.specs.Ties.{grid_of}
use Rattle.damage.proofs.Steps.{place_step}
use Rattle.damage.proofs.ties.place_in_run.Goals as goal

pub returns : goal.returns
returns g c =
    let picture = c.args.picture.now in
    let e = c.place_on.ensures in
    record {
      answer = e.places.answer;
      kept = e.kept;
      step = place_step picture.format picture.first c.args.stripe c.args.column c.args.image.now.bytes c.args.record.now
          (grid_of g.R.Raster.rows g.R.Raster.words g.R.Raster.at c.args.slab.now) (grid_of g.R.Raster.rows g.R.Raster.words g.R.Raster.at c.place_on.new.slab)
          c.place_on.result e.places;
    }
