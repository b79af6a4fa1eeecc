-- The answers to lines, one after the other.
use Rattle.std.proofs.Common.{◌≡◌, ℕ, ◌<◌, List, [], ◌∷◌, ◌++◌, length, sym, ap, subst, ◌∙◌, append-nil, append_assoc, Some, None, Option, Result}
use Rattle.std.specs.Prelude.{IfSome}
use Rattle.std.specs.Io.BufRead.{first_line, drop_through, DropsThrough}
use Rattle.std.specs.Io.KnownBytes.{Appends, IsAtEnd}
use Rattle.std.proofs.KnownBytes.{Appends-nil, Appends-trans}
use Rattle.std.proofs.lemmas.Grind.{flat_map-append}
use Rattle.std.specs.declared.string.String.{String}
use Rattle.std.specs.declared.alloc.Global.{Global}
use Rattle.cases.specs.declared.stop.Stop.{Stop}
use Rattle.cases.specs.Lines.{AnswersLine, AnswersAll, IsTextOf, lines_of}

module _ (answers : List ℕ → List (List ℕ) → Result (String Global) Stop → Type 0) where
  -- So far texts were written, and they and those that answer the rest answer the whole input.
  abbrev pub Answered : Option (List ℕ) → Option (List ℕ) → Option (List ℕ) → Option (List ℕ) → Type 0
  Answered input rest old new = IfSome input (λ bytes. (texts : List (List ℕ)) × (others : List ℕ) × (rest ≡ Some others) × ((more : List (List ℕ)) → AnswersAll answers others more → AnswersAll answers bytes (texts ++ more)) × Appends old new (lines_of texts))

  pub answered_none : (input rest old : Option (List ℕ)) → rest ≡ input → Answered input rest old old
  answered_none None rest old same = tt
  answered_none (Some bytes) rest old same = ([], bytes, same, λ more all. all, Appends-nil old)

  pub answered_more : (input rest rest' old mid new : Option (List ℕ)) (line text : List ℕ) (answer : Result (String Global) Stop) → Answered input rest old mid → IfSome rest (λ xs. (0 < length xs) × (line ≡ first_line xs)) → DropsThrough rest rest' 10 → AnswersLine answers line answer → IsTextOf answer text → Appends mid new (text ++ 10 ∷ []) → Answered input rest' old new
  answered_more None rest rest' old mid new line text answer before read taken answers_it told wrote = tt
  answered_more (Some bytes) rest rest' old mid new line text answer before read taken answers_it told wrote =
      let texts = before.0 in
      let others = before.1 in
      let front : (0 < length others) × (line ≡ first_line others) = subst (λ r. IfSome r (λ xs. (0 < length xs) × (line ≡ first_line xs))) before.2 read in
      let left : rest' ≡ Some (drop_through 10 others) = subst (λ r. DropsThrough r rest' 10) before.2 taken in
      let one : AnswersLine answers (first_line others) answer = subst (λ l. AnswersLine answers l answer) front.1 answers_it in (
        texts ++ text ∷ [],
        drop_through 10 others,
        left,
        λ more all. subst (λ all_texts. AnswersAll answers bytes all_texts) (sym (append_assoc texts (text ∷ []) more)) (before.3 (text ∷ more) (front.0, (answer, one, told), all)),
        subst (Appends old new) (ap (λ z. lines_of texts ++ z) (sym (append-nil (text ++ 10 ∷ []))) ∙ sym (flat_map-append (λ t. t ++ 10 ∷ []) texts (text ∷ []))) (Appends-trans old mid new (lines_of texts) (text ++ 10 ∷ []) before.4 wrote),
      )

  pub answered_all : (input rest old new : Option (List ℕ)) → Answered input rest old new → IsAtEnd rest → IfSome input (λ bytes. (texts : List (List ℕ)) × AnswersAll answers bytes texts × Appends old new (lines_of texts))
  answered_all None rest old new before end = tt
  answered_all (Some bytes) rest old new before end =
      let none : before.1 ≡ [] = subst IsAtEnd before.2 end in
      let texts = before.0 in
      (texts, subst (AnswersAll answers bytes) (append-nil texts) (before.3 [] none), before.4)
