use Rattle.inserter.proofs.Placings.{of_accepted}
use Rattle.inserter.proofs.picture.Picture.block_for.Goals as goal

pub returns : goal.returns
returns c =
    let picture = c.args.self.now in
    let e = c.judge.ensures in
    record {
      answer = e;
      ready = of_accepted picture.format picture.first c.args.stripe c.args.column c.args.slab.rows c.args.slab.words c.args.image.now.bytes c.args.record.now c.judge.result e;
    }
