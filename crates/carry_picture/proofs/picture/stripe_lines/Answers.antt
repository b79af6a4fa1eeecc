-- One line more, of slabs that are as they were.
use Rattle.std.proofs.Common.{◌≡◌, ℕ, ◌<◌, [], slice_index_or, sym, ap, ap₂, ◌∙◌, inl, inr, arith, subst}
use Rattle.std.proofs.lemmas.Bool.{cases_eq}
use Rattle.std.proofs.lemmas.List.{length-set, get_or-set_other}
use Rattle.std.proofs.lemmas.Grind.{get_or-set_at}
use Rattle.std.proofs.Math.Seq.{map-set_same}
use Rattle.bench.specs.declared.slabs.Slab.{Slab}
use Rattle.buffer.specs.Packed.{packed_at}
use Rattle.bench.specs.Line.{line_of}
use Rattle.bench.specs.Stripe.{Reads}
use Rattle.bench.specs.Memory.{memory_in}
use Rattle.bench.proofs.Memories.{memory_at}
use Rattle.carry_picture.specs.Content.{block_at}
use Rattle.carry_picture.proofs.Stripes.{ok_same}
use Rattle.carry_picture.proofs.picture.stripe_lines.Goals as goal

pub loop-number-preserved : goal.loop-number-preserved
loop-number-preserved c =
    let i = c.loop-number.invariant in
    let n = c.loop-number.number in
    let inputs = c.loop-number.input in
    let slabs = c.loop-number.slabs in
    let e = c.stripe_line.ensures in
    let before : (slice_index_or inputs n c.index-input-number.result).bytes.items ≡ memory_in c.args.input.now n =
    sym (memory_at inputs n c.index-input-number.result (omega (arith, i.0, c.loop-number-test.true))) ∙ ap (λ m. slice_index_or m n []) i.2 in
    let after : (slice_index_or slabs n c.index-slabs-number.result).bytes.items ≡ memory_in c.args.slabs.now n =
    sym (memory_at slabs n c.index-slabs-number.result (omega (arith, i.1, c.loop-number-test.true))) ∙ ap (λ m. slice_index_or m n []) i.3 in
    let reads : (k : ℕ) → k < 45 → Reads block_at (packed_at (slice_index_or slabs n c.index-slabs-number.result).bytes.items 1440) n k =
    λ k h. subst (λ m. Reads block_at (packed_at m 1440) n k) (sym after) (c.requires n k c.loop-number-test.true h) in
    let line : c.in_ok-lines.field-0 ≡ line_of n (memory_in c.args.input.now n) (memory_in c.args.slabs.now n) =
    ok_same c.stripe_line.result _ _ c.in_ok-lines.was (e.all reads) ∙ ap₂ (line_of n) before after in (
      length-set inputs n _ ∙ i.0,
      length-set slabs n _ ∙ i.1,
      map-set_same (λ (s : Slab). s.bytes.items) inputs n _ c.index-input-number.result e.before ∙ i.2,
      map-set_same (λ (s : Slab). s.bytes.items) slabs n _ c.index-slabs-number.result e.after ∙ i.3,
      length-set c.loop-number.lines n _ ∙ i.4,
      (λ k h. elim (cases_eq k n) [ inl s ↦ get_or-set_at c.loop-number.lines n k _ _ s (omega (arith, i.4, c.loop-number-test.true)) ∙ line ∙ ap (λ j. line_of j (memory_in c.args.input.now j) (memory_in c.args.slabs.now j)) (sym s) | inr d ↦ get_or-set_other c.loop-number.lines n k _ _ d ∙ i.5 k (omega (arith, h, d)) ]),
    )
