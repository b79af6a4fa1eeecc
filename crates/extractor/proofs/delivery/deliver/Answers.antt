use Rattle.std.proofs.Common.{is_ok, ap}
use Rattle.std.proofs.lemmas.Bool.Decides.{Decides-at}
use Rattle.extractor.proofs.Deliveries.{delivery_accepts}
use Rattle.extractor.proofs.delivery.deliver.Goals as goal

pub returns : goal.returns
returns c =
    let e = c.deliver_elements.ensures in
    record {
      answer = e.answer;
      image = e.image;
      accepts = Decides-at (is_ok c.deliver_elements.result) _ (ap is_ok e.answer) (delivery_accepts c.args.table.now.slots.now e.back);
    }
