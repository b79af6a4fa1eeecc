use Rattle.std.proofs.Common.{◌+◌, ◌*◌, sym, ◌∙◌}
use Rattle.image.proofs.Joining.{element_bytes}
use Rattle.image.proofs.elements.element_of.Goals as goal

pub returns : goal.returns
returns c = c.word.ensures ∙ sym (element_bytes c.args.bytes.now c.args.i (λ k _. c.fits-bytes (4 * c.args.i + k)))
