use Rattle.image.proofs.Sealing.{sealed_made}
use Rattle.image.proofs.judge.sealed.Goals as goal

pub returns : goal.returns
returns c = let r = c.image_of in record { answer = r.ensures; sealed = sealed_made c.args.data.now r.result r.ensures }
