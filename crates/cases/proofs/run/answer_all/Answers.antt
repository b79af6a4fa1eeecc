use Rattle.std.proofs.Common.{ap, subst, ◌∙◌, string_bytes}
use Rattle.std.specs.Io.Iter.{lines_known_bytes}
use Rattle.cases.specs.Lines.{AnswersLine}
use Rattle.cases.proofs.Answering.{answered_none, answered_more, answered_all}
use Rattle.cases.proofs.run.answer_all.Goals as goal

pub loop-line-init : goal.loop-line-init
loop-line-init g c =
    answered_none (g.K.Kinds.answers c.args.kinds.now) (g.R.Read.remaining c.args.input)
    (lines_known_bytes g.R.Read.remaining c.into_iter-line-iterator.result) (g.W.Write.contents c.args.output.now)
    (ap (lines_known_bytes g.R.Read.remaining) c.into_iter-line-iterator.ensures.into_iter_gives ∙ c.lines-line-items.ensures)

pub loop-line-preserved : goal.loop-line-preserved
loop-line-preserved g c =
    let line = string_bytes c.in_ok-text.text in
    let read = rw c.in_ok-text.was at c.in-Some.ensures.steps.1 in
    let said = c.in_ok-answer_line.ensures in
    answered_more (g.K.Kinds.answers c.args.kinds.now) (g.R.Read.remaining c.args.input)
    (lines_known_bytes g.R.Read.remaining c.loop-line.line-iterator) (lines_known_bytes g.R.Read.remaining c.next.new.self)
    (g.W.Write.contents c.args.output.now) (g.W.Write.contents c.loop-line.output) (g.W.Write.contents c.answer_line.new.output)
    line said.1 said.0 c.loop-line.invariant read.0 read.1
    (subst (λ text. AnswersLine (g.K.Kinds.answers c.args.kinds.now) text said.0) c.as_str.ensures.value said.2)
    said.3 said.4

pub returns : goal.returns
returns g c =
    answered_all (g.K.Kinds.answers c.args.kinds.now) (g.R.Read.remaining c.args.input)
    (lines_known_bytes g.R.Read.remaining c.loop-line.line-iterator) (g.W.Write.contents c.args.output.now)
    (g.W.Write.contents c.loop-line.output) c.loop-line.invariant c.in-None.ensures.steps.1
