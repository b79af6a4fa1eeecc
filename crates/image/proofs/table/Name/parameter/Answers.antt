use Rattle.std.proofs.Common.{◌≡◌, ◌+◌, ◌≤◌, sym, subst, ap₂}
use Rattle.image.specs.Table.{row_at, parameter_of}
use Rattle.image.specs.declared.table.Parameter.{Parameter}
use Rattle.image.proofs.Rows.{inside, narrow}
use Rattle.image.proofs.table.Name.parameter.Goals as goal

pub returns : goal.returns
unfolding parameter_of
returns c =
    let name = c.args.self in
    let e : row_at c.parameters.result.now c.row.result ≡ parameter_of name = ap₂ row_at c.parameters.ensures.rows c.row.ensures in
    record {
      is = e;
      inside = subst (λ (p : Parameter). p.first_bit + p.width ≤ 4320) (sym e) (inside name);
      narrow = subst (λ (p : Parameter). p.width ≤ 41) (sym e) (narrow name);
    }
