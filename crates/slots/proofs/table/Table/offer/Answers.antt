-- The laws, from what `offer_at` answers and writes.
use Rattle.std.proofs.Common.{rules}
use Rattle.slots.proofs.Offering.{offers_settle, settled_at, others_at, refused_at}
use Rattle.slots.proofs.table.Table.offer.Goals as goal

pub returns : goal.returns
returns g c =
    let same = g.V.Exact.same in
    let exact = g.met.V.Exact.exact in
    let old = c.args.self.now.slots.now in
    let new = c.offer_at.new.slots in
    let e = c.offer_at.ensures in
    record {
      answer = e.answer;
      slots = e.slots;
      name = search rules;
      settled = settled_at same exact old new c.args.number c.args.value c.offer_at.result e.answer e.slots;
      others = others_at same old new c.args.number c.args.value e.slots;
      refused = refused_at same old new c.args.number c.args.value e.slots;
      run = offers_settle same exact;
    }
