use Rattle.carry_picture.specs.Content.{blank}
use Rattle.carry_picture.proofs.Contents.{blank_frame}
use Rattle.carry_picture.proofs.content.blank_image.Goals as goal

pub returns : goal.returns
unfolding blank
returns c = record { bytes = c.blank.ensures.bytes; frame = blank_frame c.blank.result.bytes c.blank.ensures.fields }
