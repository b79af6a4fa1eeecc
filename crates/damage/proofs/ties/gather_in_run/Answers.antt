use Rattle.damage.specs.Ties.{grid_of}
use Rattle.damage.proofs.Steps.{gather_step}
use Rattle.damage.proofs.ties.gather_in_run.Goals as goal

pub returns : goal.returns
returns g c =
    let e = c.gather_from.ensures in
    record {
      answer = e.gathers.answer;
      step = gather_step c.args.gathering.now c.args.stripe c.args.column
          (grid_of g.R.Raster.rows g.R.Raster.words g.R.Raster.at c.args.slab.now) c.args.table.now.slots.now c.gather_from.new.table.slots.now c.args.sheet.now.slots.now c.gather_from.new.sheet.slots.now
          c.gather_from.result e.gathers;
      table_name = e.table_name;
      sheet_name = e.sheet_name;
    }
