use Rattle.record.proofs.Undoing.{rows_filled, decoding_undoes, encoding_undoes, spelt_once, samples}
use Rattle.record.proofs.laws.layout_stands.Goals as goal

pub returns : goal.returns
returns c = record { filled = rows_filled; undone = decoding_undoes; redone = encoding_undoes; once = spelt_once; samples = samples }
