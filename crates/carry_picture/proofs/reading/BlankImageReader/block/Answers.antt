use Rattle.std.proofs.Common.{◌≡◌, rules}
use Rattle.image.specs.Elements.{element_of}
use Rattle.carry_picture.proofs.Contents.{block_made}
use Rattle.carry_picture.proofs.reading.BlankImageReader.block.Goals as goal

pub returns : goal.returns
returns c =
    let image = c.args.self.now.sealed.bytes in
    let n = c.position-position.result in
    let element : c.unwrap_or.result ≡ element_of image n = search rules in
    block_made c.args.spot.stripe.number c.args.spot.column n image _ _ _ (search rules) (search rules) c.position-position.ensures.position (search rules) (search rules) element c.zero_record.ensures
