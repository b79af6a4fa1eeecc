use Rattle.std.proofs.Common.{◌≡◌, ℕ, ◌≤◌, length, sym, refl, ap, ◌∙◌, ap₂, arith}
use Rattle.extractor.specs.Gather.{settled, elements_after, sheet_after}
use Rattle.tally.specs.declared.kind.Kind.TheVariants.{Good, Foreign, Bad}
use Rattle.tally.specs.Stripe.{answers_along}
use Rattle.tally.proofs.Stripes.{count_below, elements_none, elements_more, records_none, records_more, elements_length, records_length, tallied_none, tallied_more}
use Rattle.tally.proofs.stripe.gather_stripe.Goals as goal

pub loop-column-init : goal.loop-column-init
loop-column-init g c =
    let m = g.R.Raster in
    let slab = c.args.slab.now in
    let slots = c.args.table.now.slots.now in
    let sheet = c.args.sheet.now.slots.now in
    let answers = answers_along c.args.gathering.now c.args.stripe (m.rows slab) (m.words slab) (m.at slab) (length slots) (length sheet) in
    let d = c.default-tally.ensures in
    let none : c.default-tally.result ≡ record { good = 0; foreign = 0; bad = 0 } = λ i. record { good = d.0 i; foreign = d.1.0 i; bad = d.1.1 i } in
    (none ∙ sym (tallied_none answers), sym (elements_none answers c.args.stripe slots), sym (records_none answers sheet), refl, refl, refl, refl)

pub told-tally-requires : goal.told-tally-requires
told-tally-requires g c =
    let m = g.R.Raster in
    let slab = c.args.slab.now in
    let answers = answers_along c.args.gathering.now c.args.stripe (m.rows slab) (m.words slab) (m.at slab) (length c.args.table.now.slots.now) (length c.args.sheet.now.slots.now) in
    let n = c.loop-column.column in
    let t = c.loop-column.invariant.0 in
    let good : c.loop-column.tally.good ≤ n = rw t (count_below answers Good n) in
    let foreign : c.loop-column.tally.foreign ≤ n = rw t (count_below answers Foreign n) in
    let bad : c.loop-column.tally.bad ≤ n = rw t (count_below answers Bad n) in
    (omega arith, (omega arith, omega arith))

pub loop-column-preserved : goal.loop-column-preserved
loop-column-preserved g c =
    let m = g.R.Raster in
    let slab = c.args.slab.now in
    let slots = c.args.table.now.slots.now in
    let sheet = c.args.sheet.now.slots.now in
    let answers = answers_along c.args.gathering.now c.args.stripe (m.rows slab) (m.words slab) (m.at slab) (length slots) (length sheet) in
    let n = c.loop-column.column in
    let i = c.loop-column.invariant in
    let e = c.gather-answer.ensures in
    let said : c.gather-answer.result ≡ answers n =
    e.answer ∙ ap₂ (λ (x y : ℕ). answers_along c.args.gathering.now c.args.stripe (m.rows slab) (m.words slab) (m.at slab) x y n) i.3 i.4 in (
      c.told-tally.ensures ∙ tallied_more answers n c.loop-column.tally c.gather-answer.result c.from.result i.0 said c.from.ensures,
      e.table ∙ ap₂ (λ r s. settled r s (elements_after c.args.stripe n s)) said i.1 ∙ sym (elements_more answers c.args.stripe n slots),
      e.sheet ∙ ap₂ (λ r s. settled r s (sheet_after n s)) said i.2 ∙ sym (records_more answers n sheet),
      ap length e.table ∙ elements_length c.gather-answer.result c.args.stripe n _ ∙ i.3,
      ap length e.sheet ∙ records_length c.gather-answer.result n _ ∙ i.4,
      e.table_name ∙ i.5,
      e.sheet_name ∙ i.6,
    )
