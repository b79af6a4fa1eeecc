use Rattle.std.proofs.Common.{rules}
use Rattle.image.specs.Elements.{byte_of, joined}
use Rattle.image.proofs.Made.{made}
use Rattle.image.proofs.elements.bytes_of.Goals as goal

pub returns : goal.returns
unfolding joined
returns c = made _ (byte_of c.args.elements.now) _ (λ i y q k. search rules) c.from_fn.result 0 540 c.from_fn.ensures.items
