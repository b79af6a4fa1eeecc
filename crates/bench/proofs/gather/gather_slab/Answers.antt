-- The slab shows the memory's words, and the sheet has as many slots once it is cleared.
use Rattle.std.proofs.Common.{◌≡◌, length, refl, ap, ◌∙◌, rules}
use lib.ListN.{length-replicate}
use Rattle.slots.specs.Slots.{cleared}
use Rattle.tally.specs.declared.kind.Kind.TheVariants.{Good}
use Rattle.tally.proofs.Stripes.{count_below}
use Rattle.bench.specs.Gather.{answers_in, tally_in, table_after, sheet_after}
use Rattle.bench.proofs.Gathers.{tally_as, elements_as, records_as, length_offered}
use Rattle.bench.proofs.gather.gather_slab.Goals as goal

pub returns : goal.returns
unfolding tally_in table_after sheet_after
returns c =
    let g = c.args.gathering.now in
    let slots = length c.args.table.now.slots.now in
    let memory = c.args.memory.now in
    let sheet = c.args.sheet.now in
    let slab = c.slab_in-slab.ensures in
    let empty : c.clear.new.self.slots.now ≡ cleared sheet = c.clear.ensures.slots ∙ ap cleared c.new-records.ensures.slots in
    let long : length c.clear.new.self.slots.now ≡ length sheet = ap length empty ∙ simp length-replicate in
    let e = c.gather_stripe.ensures in
    let tally : c.gather_stripe.result ≡ tally_in g c.args.stripe memory slots (length sheet) =
    e.tally ∙ tally_as c.args.stripe g g slots slots _ _ _ _ _ _ refl refl slab.extent slab.value long in
    record {
      tally = tally;
      few = rw tally (count_below (answers_in g c.args.stripe memory slots (length sheet)) Good (length sheet));
      memory = search rules;
      slots = ap length e.table ∙ length_offered _ c.args.stripe _ _;
      table = e.table ∙ elements_as c.args.stripe g g slots slots _ _ _ _ _ _ refl refl slab.extent slab.value long c.args.table.now.slots.now;
      sheet = search (rules, e.sheet ∙ records_as c.args.stripe g g slots slots _ _ _ _ _ _ refl refl slab.extent slab.value long _ _ empty);
      name = search rules;
    }
