-- What is printed of a survey, byte for byte.
use Rattle.std.specs.Prelude.{ℕ, ◌+◌, List, [], ◌∷◌, ◌++◌, Ok, Err, codes, decimal, Result}
use Rattle.fault.specs.declared.Fault.{Fault}
use Rattle.fault.specs.Table.{number_of}
use Rattle.tally.specs.declared.kind.Tally.{Tally}
use Rattle.survey.specs.declared.report.Survey.{Survey}

abbrev pub stripe_text : ℕ → Tally → List ℕ
stripe_text stripe t = codes "stripe " ++ (decimal stripe ++ (codes " good " ++ (decimal t.good ++ (codes " foreign " ++ (decimal t.foreign ++ (codes " bad " ++ decimal t.bad))))))

abbrev pub picture_text : Result (Unit {0}) Fault → List ℕ
picture_text (Ok x) = codes "picture whole"
picture_text (Err fault) = codes "picture refused " ++ decimal (number_of fault)

-- a line for each tally, numbered from this stripe on
abbrev pub stripes_text : ℕ → List Tally → List ℕ
stripes_text stripe [] = []
stripes_text stripe (t ∷ ts) = stripe_text stripe t ++ (codes "\n" ++ stripes_text (stripe + 1) ts)

abbrev pub survey_text : Survey → List ℕ
survey_text s = stripes_text 0 s.tallies ++ picture_text s.delivered
