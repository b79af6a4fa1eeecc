use Rattle.std.proofs.Common.{arith, map, subst, sym}
use Rattle.cases.specs.Lines.{IsCut}
use Rattle.cases.proofs.Cutting.{cut_of}
use Rattle.cases.proofs.run.words_of.Goals as goal

pub returns : goal.returns
returns c =
    let run = c.in_ok-collect.ensures.runs tt in
    let cut = c.split.ensures.runs run.0 run.0.seen run.1 in
    let pieces = cut.2 (omega arith) (λ _ same. same, λ _ _ found. found) in
    subst (λ words. IsCut c.args.line.now (map (λ word. word.now) words)) (sym run.3.0)
    (cut_of run.0 c.args.line.now c.args.line run.2 (cut.0 run.2) pieces)
