use Rattle.std.proofs.Common.{length, is_ok, ap, ◌∙◌}
use Rattle.extractor.proofs.Gatherings.{gathered_burst}
use Rattle.extractor.proofs.gathering.Gathering.gather.Goals as goal

pub returns : goal.returns
returns g c =
    let slab = c.args.slab.now in
    let e = c.take.ensures in
    record {
      answer = e.answer;
      table = e.table;
      sheet = e.sheet;
      burst = λ b. ap is_ok e.answer ∙ gathered_burst c.args.self.now c.args.stripe c.args.column (g.R.Raster.rows slab) (g.R.Raster.words slab) (g.R.Raster.at slab) (length c.args.table.now.slots.now) (length c.args.sheet.now.slots.now) b;
      table_name = e.table_name;
      sheet_name = e.sheet_name;
    }
