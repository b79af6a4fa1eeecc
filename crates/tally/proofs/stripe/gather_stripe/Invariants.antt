-- What the columns so far came to.
use Rattle.std.proofs.Common.{◌≡◌, ℕ, length}
use Rattle.tally.specs.Stripe.{answers_along, tallied, elements_offered, records_offered}
use Rattle.tally.proofs.stripe.gather_stripe.Given as goal

abbrev pub invariant-loop-column : goal.invariant-loop-column
invariant-loop-column g l =
    let m = g.R.Raster in
    let slots = l.initial.table.slots.now in
    let sheet = l.initial.sheet.slots.now in
    let answers = answers_along l.gathering l.stripe (m.rows l.slab) (m.words l.slab) (m.at l.slab) (length slots) (length sheet) in
    (l.tally ≡ tallied answers l.column)
    × (l.table.slots.now ≡ elements_offered answers l.stripe l.column slots)
    × (l.sheet.slots.now ≡ records_offered answers l.column sheet)
    × (length l.table.slots.now ≡ length slots)
    × (length l.sheet.slots.now ≡ length sheet)
    × (l.table.slots.ghost_name ≡ l.initial.table.slots.ghost_name)
    × (l.sheet.slots.ghost_name ≡ l.initial.sheet.slots.ghost_name)
