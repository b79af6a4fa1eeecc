use Rattle.std.specs.Io.Iter.{lines_known_bytes}
use Rattle.cases.proofs.Answering.{Answered}
use Rattle.cases.proofs.run.answer_all.Given as goal

-- the lines so far are answered
abbrev pub invariant-loop-line : goal.invariant-loop-line
invariant-loop-line g l =
    Answered (g.K.Kinds.answers l.kinds) (g.R.Read.remaining l.fn.input) (lines_known_bytes g.R.Read.remaining l.line-iterator) (g.W.Write.contents l.initial.output) (g.W.Write.contents l.output)
