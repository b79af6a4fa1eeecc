use Rattle.std.proofs.Common.{sym, rules}
use Rattle.fault.proofs.Turns.{callable_in_try, folded}
use Rattle.raster.specs.Difference.{differing_words}
use Rattle.raster.proofs.Differences.{words_none, words_more, words_at_most}
use Rattle.raster.proofs.difference.Pair.differing_in_row.Goals as goal

pub try_fold-requires-clause-callable : goal.try_fold-requires-clause-callable
try_fold-requires-clause-callable g c =
    let a = g.P.Raster.at c.args.self.now.a.now c.args.row in
    let b = g.Q.Raster.at c.args.self.now.b.now c.args.row in
    callable_in_try _ _ (differing_words a b) 0 (sym (words_none a b)) _ (λ k v q l t. let more = words_more a b k in search rules) (λ k l. let few = words_at_most a b k in search rules)

pub returns : goal.returns
returns g c =
    let a = g.P.Raster.at c.args.self.now.a.now c.args.row in
    let b = g.Q.Raster.at c.args.self.now.b.now c.args.row in
    let t = c.try_fold.ensures.ran in
    folded _ _ (differing_words a b) 0 (sym (words_none a b)) _ (λ k v q l t. let more = words_more a b k in search rules) c.try_fold.result t.0 t.1 _ t.2 t.3 _ t.4 t.5 t.6 (λ k b. (b.0, b.1, _, b.3, b.4))
