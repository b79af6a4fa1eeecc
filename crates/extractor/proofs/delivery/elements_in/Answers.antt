use Rattle.std.proofs.Common.{ℕ, map, get_or, sym, ◌∙◌, arith, rules}
use lib.ListN.{length-map}
use Rattle.std.proofs.lemmas.List.{get_or-map}
use Rattle.std.proofs.lemmas.List.FromFn.{fill_by_all}
use Rattle.slots.specs.declared.slot.Slot.TheVariants.{Empty}
use Rattle.image.proofs.Made.{made}
use Rattle.extractor.specs.Delivery.{held_in}
use Rattle.extractor.proofs.delivery.elements_in.Goals as goal

pub returns : goal.returns
returns c =
    let slots = c.args.table.now.slots.now in
    let element : ℕ → ℕ = λ i. held_in (get_or slots i Empty) in
    made _ element _ (λ i y q k. search rules) c.from_fn.result 0 135 c.from_fn.ensures.items
    ∙ sym (fill_by_all element (map held_in slots) 135 0 (length-map slots held_in ∙ c.requires) (λ k h. get_or-map held_in slots k Empty 0 (omega (arith, c.requires))))
