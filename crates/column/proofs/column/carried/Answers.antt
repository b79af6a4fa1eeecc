use Rattle.std.proofs.Common.{◌≡◌, ◌*◌, rules}
use Rattle.column.proofs.Spelled.{window_rows}
use Rattle.column.proofs.column.carried.Goals as goal

pub returns : goal.returns
returns g c =
    let e : c.in_ok-first.first ≡ 32 * c.args.column = search rules in
    let b = window_rows (g.R.Raster.at c.args.slab.now) c.in_ok-first.first c.args.column e in
    search rules
