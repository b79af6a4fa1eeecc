-- The slab shows the memory's words, before and after.
use Rattle.std.proofs.Common.{◌≡◌, ap, ◌∙◌, rules}
use Rattle.buffer.specs.Packed.{packed_at}
use Rattle.bench.specs.Stripe.{Laden}
use Rattle.bench.proofs.carry.write_in.Goals as goal

pub returns-clause-laden : goal.returns-clause-laden
returns-clause-laden g c =
    let s = c.slab_in-slab in
    let e = c.write_columns in
    let w : s.result.extent.words ≡ 1440 = search rules in
    let w' : e.new.slab.extent.words ≡ 1440 = ap (λ x. x.words) e.ensures.kept.0 ∙ w in
    let l : Laden g.W.Writer.block c.args.stripe.number 1440 45 (packed_at c.args.memory.now 1440) (packed_at e.new.slab.memory.now 1440) = rw (w', w, s.ensures.value) at e.ensures.laden in
    search (rules, l)
