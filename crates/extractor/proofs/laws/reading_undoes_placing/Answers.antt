use Rattle.extractor.proofs.Undoing.{reading_undoes_placing}
use Rattle.extractor.proofs.laws.reading_undoes_placing.Goals as goal

pub returns : goal.returns
returns c = reading_undoes_placing
