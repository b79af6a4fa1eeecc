use Rattle.std.proofs.Common.{sym, rules}
use Rattle.fault.proofs.Turns.{callable_in_try, folded}
use Rattle.column.specs.Column.{spelled}
use Rattle.column.proofs.Spelled.{spelled_none}
use Rattle.column.proofs.column.Seen.row.Goals as goal

pub try_fold-requires-clause-callable : goal.try_fold-requires-clause-callable
try_fold-requires-clause-callable g c =
    let line = g.R.Raster.at c.args.self.now.slab.now c.args.row in
    let first = c.args.self.now.first in
    callable_in_try _ _ (spelled line first) 0 (sym (spelled_none line first)) 16 (λ k v q l t. search rules) (λ k l. search rules)

pub returns : goal.returns
returns g c =
    let line = g.R.Raster.at c.args.self.now.slab.now c.args.row in
    let first = c.args.self.now.first in
    let t = c.try_fold.ensures.ran in
    folded _ _ (spelled line first) 0 (sym (spelled_none line first)) 16 (λ k v q l t. search rules) c.try_fold.result t.0 t.1 _ t.2 t.3 _ t.4 t.5 t.6 (λ k b. (b.0, b.1, _, b.3, b.4))
