-- The lines of cases, and what is answered to them.
use Rattle.std.specs.Prelude.{◌≡◌, ◌<◌, ⊤, ℕ, List, [], ◌∷◌, ◌++◌, string_bytes, drop, length, slice_index_or, Ok, Err, Result}
use Rattle.std.specs.List.{join_with_byte, flat_map}
use Rattle.std.specs.Io.BufRead.{first_line, drop_through}
use Rattle.std.specs.Str.Iter.{LacksByte}
use Rattle.std.specs.declared.string.String.{String}
use Rattle.std.specs.declared.alloc.Global.{Global}
use Rattle.cases.specs.declared.stop.Stop.{Stop}
use Rattle.cases.specs.declared.stop.Stop.TheVariants.{Refused, Broken, NoMemory}
use Rattle.cases.specs.Text.{refusal_text}
use Rattle.cases.specs.Words.{first}

-- the words of a line: with a blank between them they are the line, and none has a blank
pub record IsCut (line : List ℕ) (words : List (List ℕ)) : Type 0 where
  pub some : 0 < length words
  pub apart : (k : ℕ) → k < length words → LacksByte 32 (slice_index_or words k [])
  pub joined : line ≡ join_with_byte 32 words

-- what may be answered to a line, if there is memory for its words: what may be to its first word as the kind, and the others
abbrev pub AnswersLine : (List ℕ → List (List ℕ) → Result (String Global) Stop → Type 0) → List ℕ → Result (String Global) Stop → Type 0
AnswersLine answers line (Err NoMemory) = ⊤
AnswersLine answers line (Err (Broken error)) = (words : List (List ℕ)) × IsCut line words × answers (first words) (drop 1 words) (Err (Broken error))
AnswersLine answers line (Err (Refused fault)) = (words : List (List ℕ)) × IsCut line words × answers (first words) (drop 1 words) (Err (Refused fault))
AnswersLine answers line (Ok text) = (words : List (List ℕ)) × IsCut line words × answers (first words) (drop 1 words) (Ok text)

-- the text of an answer, or of the refusal that it is
abbrev pub IsTextOf : Result (String Global) Stop → List ℕ → Type 0
IsTextOf (Ok line) text = text ≡ string_bytes line
IsTextOf (Err (Refused fault)) text = text ≡ refusal_text fault
IsTextOf (Err (Broken error)) text = ⊥
IsTextOf (Err NoMemory) text = ⊥

-- the texts answer the lines of an input, one each
abbrev pub AnswersAll : (List ℕ → List (List ℕ) → Result (String Global) Stop → Type 0) → List ℕ → List (List ℕ) → Type 0
AnswersAll answers input [] = input ≡ []
AnswersAll answers input (text ∷ texts) =
    (0 < length input)
    × ((answer : Result (String Global) Stop) × AnswersLine answers (first_line input) answer × IsTextOf answer text)
    × AnswersAll answers (drop_through 10 input) texts

-- the texts as lines
abbrev pub lines_of : List (List ℕ) → List ℕ
lines_of texts = flat_map (λ text. text ++ 10 ∷ []) texts
