use Rattle.std.proofs.Common.{is_ok, ap, ◌∙◌}
use Rattle.std.proofs.lemmas.Bool.Decides.{Decides-at}
use Rattle.extractor.proofs.Readings.{reading_accepts, reading_burst}
use Rattle.extractor.proofs.reading.read.Goals as goal

pub returns : goal.returns
returns g c =
    let slab = c.args.slab.now in
    let rows = g.R.Raster.rows slab in
    let words = g.R.Raster.words slab in
    let at = g.R.Raster.at slab in
    let e = c.read_numbered.ensures in
    record {
      answer = e;
      accepts = Decides-at (is_ok c.read_numbered.result) _ (ap is_ok e) (reading_accepts c.args.column rows words at c.args.number);
      burst = λ b. ap is_ok e ∙ reading_burst c.args.column rows words at c.args.number b;
    }
