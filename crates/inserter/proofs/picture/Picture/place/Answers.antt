-- A refused place leaves every word.
use Rattle.std.proofs.Common.{◌≡◌, false, [], Err, sym, refl, ap, ◌∙◌, rules}
use Rattle.raster.specs.declared.extent.Extent.{Extent}
use Rattle.column.proofs.Laws.{few_differ}
use Rattle.inserter.specs.Place.{placing, placed_at}
use Rattle.inserter.proofs.picture.Picture.place.Goals as goal

pub returns-in_err-block : goal.returns-in_err-block
returns-in_err-block g c =
    let slab = c.args.slab.now in
    let at = g.R.Raster.at slab in
    let picture = c.args.self.now in
    let refused : placing picture.format picture.first c.args.stripe c.args.column (g.R.Raster.rows slab) (g.R.Raster.words slab) c.args.image.now.bytes c.args.record.now ≡ Err c.in_err-block.field-0.0 =
    ap (λ (x : Extent). placing picture.format picture.first c.args.stripe c.args.column x.rows x.words c.args.image.now.bytes c.args.record.now) (sym c.extent.ensures)
    ∙ sym c.block_for.ensures.answer ∙ c.in_err-block.was in
    record {
      answer = search rules;
      kept = g.R.Raster.still c.args.slab.now;
      after = λ i j hi hj. sym (ap (λ p. placed_at p at c.args.column i j) refused);
      reads = search rules;
      others = search rules;
      only = search rules;
      few = few_differ at at (g.R.Raster.rows c.args.slab.now) (g.R.Raster.words c.args.slab.now) 0 [] false (λ i j hi hj. refl);
    }
