use Rattle.std.proofs.Output.{has_written_of_eq}
use Rattle.cases.proofs.Printing.{block_text_of}
use Rattle.cases.proofs.text.BlockLineDisplay.fmt.Goals as goal

pub returns-clause-writes : goal.returns-clause-writes
returns-clause-writes g c = λ plain ok.
    has_written_of_eq _ _ _ _ _
    (block_text_of c.args.self.now.0 _ _ _ _ c.picture_numbers.ensures c.flag_numbers.ensures c.vector_numbers.ensures c.other_numbers.ensures)
    (c.write.ensures.writes plain ok)
