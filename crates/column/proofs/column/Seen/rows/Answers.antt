use Rattle.std.proofs.Common.{Ok, ap, rules}
use Rattle.std.proofs.lemmas.List.FromFn.{fill_by_all}
use Rattle.column.specs.Window.{row_of, rows_of}
use Rattle.column.proofs.column.Seen.rows.Goals as goal

pub returns : goal.returns
unfolding rows_of
returns g c = ap Ok (fill_by_all (row_of (g.R.Raster.at c.args.self.now.slab.now) c.args.self.now.first) c.loop-i.row-items 16 0 c.loop-i.invariant.0 (λ k h. c.loop-i.invariant.1 k (search rules)))
