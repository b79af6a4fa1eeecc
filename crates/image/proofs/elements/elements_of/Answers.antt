use Rattle.std.proofs.Common.{◌≡◌, ap, ◌∙◌, rules}
use Rattle.image.specs.Elements.{element_of, elements_of, joined, Bytes}
use Rattle.image.proofs.Joining.{joined_elements}
use Rattle.image.proofs.Made.{made}
use Rattle.image.proofs.elements.elements_of.Goals as goal

all : (c : goal.After-from_fn) → c.from_fn.result ≡ elements_of c.args.bytes.now
unfolding elements_of
all c = made _ (element_of c.args.bytes.now) _ (λ i y q k. search rules) c.from_fn.result 0 135 c.from_fn.ensures.items

pub returns : goal.returns
returns c =
    let bytes = c.args.bytes.now in
    let b : Bytes bytes = record { long = c.told-bytes; narrow = λ i _. c.fits-bytes i } in
    record { elements = all c; back = ap joined (all c) ∙ joined_elements bytes b }
