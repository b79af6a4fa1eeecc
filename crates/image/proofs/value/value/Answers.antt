use Rattle.std.proofs.Common.{ap, ◌∙◌, ap₂}
use Rattle.image.specs.declared.table.Parameter.{Parameter}
use Rattle.image.specs.Value.{spelled, value_of}
use Rattle.image.proofs.value.value.Goals as goal

pub returns : goal.returns
unfolding value_of
returns c =
    let e = c.parameter-parameter.ensures.is in
    c.spelled.ensures
    ∙ ap₂ (spelled c.args.bytes.now) (c.from.ensures ∙ ap (λ (p : Parameter). p.first_bit) e) (c.from-2.ensures ∙ ap (λ (p : Parameter). p.width) e)
