-- What is answered to a case.
use Rattle.std.specs.Prelude.{◌≡◌, ◌≢◌, ⊤, ℕ, List, [], map, pos, codes, Ok, Err, Result, IfOk, IsErr, string_bytes}
use Rattle.std.specs.declared.string.String.{String}
use Rattle.std.specs.declared.alloc.Global.{Global}
use Rattle.anyhow.specs.declared.error.Error.{Error}
use Rattle.fault.specs.declared.Fault.{Fault}
use Rattle.cases.specs.declared.stop.Stop.{Stop}
use Rattle.cases.specs.declared.stop.Stop.TheVariants.{Refused, Broken, NoMemory}
use Rattle.crc.specs.Register.{check_of, byte_bits}
use Rattle.block.specs.Code.{encoded, decoded}
use Rattle.cases.specs.Numbers.{block_numbers}
use Rattle.cases.specs.Text.{refusal_text, hex_text, rows_text, block_text}
use Rattle.cases.specs.Words.{Spells, SpellsBytes, block_forms, row_forms}

-- The case holds an input of the call, and the answer is the text of what the call gives for it, or its refusal. A case is broken only if
-- it holds no input. Nothing is said of one for which there is no memory.
abbrev pub Answers : {I A : Type 0} → (I → Type 0) → (I → Result A Fault) → (A → List ℕ) → Result (String Global) Stop → Type 0
Answers {I} {A} Holds call text (Ok line) = (input : I) × Holds input × ((given : A) × (call input ≡ Ok given) × (string_bytes line ≡ text given))
Answers {I} Holds call text (Err (Refused fault)) = (input : I) × Holds input × (call input ≡ Err fault)
Answers {I} Holds call text (Err (Broken error)) = (input : I) → ¬ (Holds input)
Answers Holds call text (Err NoMemory) = ⊤

-- what is printed of an answer: the answer itself, or the text of the refusal
abbrev pub Told : Result (String Global) Stop → Result (String Global) Error → Type 0
Told (Ok line) printed = printed ≡ Ok line
Told (Err (Refused fault)) printed = IfOk printed (λ line. string_bytes line ≡ refusal_text fault)
Told (Err (Broken error)) printed = printed ≡ Err error
Told (Err NoMemory) printed = IsErr printed

-- what is answered to the three kinds of cases about checks and blocks; the words are those after the kind
pub record OfBlocks (kind : List ℕ) (words : List (List ℕ)) (answer : Result (String Global) Stop) : Type 0 where
  pub check : kind ≡ codes "check" → Answers (SpellsBytes words) (λ bytes. Ok (check_of (byte_bits bytes))) (hex_text 8) answer
  pub encode : kind ≡ codes "encode" → Answers (λ b. Spells block_forms words (block_numbers b) []) encoded rows_text answer
  pub decode : kind ≡ codes "decode" → Answers (λ rows. Spells row_forms words (map pos rows) []) decoded block_text answer

-- a case of any other kind is broken
abbrev pub NoOther : List ℕ → Result (String Global) Stop → Type 0
NoOther kind answer =
    kind ≢ codes "check" → kind ≢ codes "encode" → kind ≢ codes "decode" → (error : Error) × (answer ≡ Err (Broken error))
