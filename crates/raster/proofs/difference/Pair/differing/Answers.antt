use Rattle.std.proofs.Common.{sym, rules}
use Rattle.fault.proofs.Turns.{callable_in_try, folded}
use Rattle.raster.specs.Difference.{differing}
use Rattle.raster.proofs.Differences.{rows_none, rows_more, rows_at_most, words_at_most}
use Rattle.raster.proofs.difference.Pair.differing.Goals as goal

pub try_fold-requires-clause-callable : goal.try_fold-requires-clause-callable
try_fold-requires-clause-callable g c =
    let a = g.P.Raster.at c.args.self.now.a.now in
    let b = g.Q.Raster.at c.args.self.now.b.now in
    let words = c.args.self.now.both.words in
    callable_in_try _ _ (λ k. differing a b k words) 0 (sym (rows_none a b words)) _ (λ k v q l t. let more = rows_more a b k words in search rules)
    (λ k l. let few = rows_at_most a b k words in let here = words_at_most (a k) (b k) words in search rules)

pub returns : goal.returns
returns g c =
    let a = g.P.Raster.at c.args.self.now.a.now in
    let b = g.Q.Raster.at c.args.self.now.b.now in
    let words = c.args.self.now.both.words in
    let t = c.try_fold.ensures.ran in
    folded _ _ (λ k. differing a b k words) 0 (sym (rows_none a b words)) _ (λ k v q l t. let more = rows_more a b k words in search rules) c.try_fold.result t.0 t.1 _ t.2 t.3 _ t.4 t.5 t.6 (λ k b. (b.0, b.1, _, b.3, b.4))
