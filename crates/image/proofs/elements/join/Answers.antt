use Rattle.std.proofs.Common.{ap, ◌∙◌}
use Rattle.image.specs.Elements.{elements_of, Elements}
use Rattle.image.proofs.Joining.{joining_undoes, taking_undoes, elements_joined}
use Rattle.image.proofs.elements.join.Goals as goal

pub returns : goal.returns
returns c =
    let elements = c.args.elements.now in
    let e : Elements elements = record { long = c.told-elements; narrow = λ i _. c.fits-elements i } in
    record {
      bytes = c.bytes_of.ensures;
      back = ap elements_of c.bytes_of.ensures ∙ elements_joined elements e;
      joining = joining_undoes;
      taking = taking_undoes;
    }
