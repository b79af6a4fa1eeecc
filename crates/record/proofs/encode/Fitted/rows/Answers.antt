-- The rows are those of the table, so decoding undoes them.
use Rattle.std.proofs.Common.{sym, ap, ◌∙◌, subst}
use Rattle.record.specs.Layout.{block_of}
use Rattle.record.specs.Laws.{Fitting, Formed}
use Rattle.record.proofs.Undoing.{decoding_undoes}
use Rattle.record.proofs.Widths.{passes}
use Rattle.record.proofs.encode.Fitted.rows.Goals as goal

fitting : (c : goal.After-filled) → Fitting c.args.self.now.block.now
fitting c = record { widths = passes c.args.self.now.block.now.«record» c.args.self.now.within; reference = c.filled.ensures.reference; element = c.filled.ensures.element }

pub returns-clause-formed : goal.returns-clause-formed
returns-clause-formed c = subst Formed (sym c.filled.ensures.value) (decoding_undoes c.args.self.now.block.now (fitting c)).0

pub returns-clause-back : goal.returns-clause-back
returns-clause-back c = ap block_of c.filled.ensures.value ∙ (decoding_undoes c.args.self.now.block.now (fitting c)).1
