use Rattle.std.proofs.Common.{◌<◌, length, sym, ◌∙◌, inl, inr, arith}
use Rattle.std.proofs.lemmas.Bool.{cases_eq}
use Rattle.std.proofs.lemmas.List.{length-set}
use Rattle.bench.proofs.Memories.{memory_at, memory_set, memory_beside}
use Rattle.carry_picture.proofs.placing.place_stripes.Goals as goal

pub loop-number-preserved : goal.loop-number-preserved
loop-number-preserved c =
    let i = c.loop-number.invariant in
    let n = c.loop-number.number in
    let items = c.loop-number.slabs in
    let here : n < length items = omega (arith, i.0, c.loop-number-test.true) in (
      length-set items n _ ∙ i.0,
      (λ k h. elim (cases_eq k n) [ inl s ↦ rw (s, memory_set items n _ here, sym (i.2 n (omega arith)), memory_at items n c.index-slabs-number.result here) c.place_stripe.ensures.laden | inr d ↦ rw (memory_beside items n k _ d) (i.1 k (omega (arith, h, d))) ]),
      (λ k h. memory_beside items n k _ (λ e. omega (arith, e, h)) ∙ i.2 k (omega (arith, h))),
    )
