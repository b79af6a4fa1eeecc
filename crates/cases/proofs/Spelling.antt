-- What the words of a case spell, part by part.
use Rattle.std.proofs.Common.{◌≡◌, ℕ, ◌+◌, ◌-◌, ◌<◌, ◌≤◌, List, [], ◌∷◌, ◌++◌, length, take, drop, map, replicate, suc, refl, sym, ap, ◌∙◌, arith, ℤ, pos, true}
use Rattle.std.specs.Prelude.{◌&&◌, ◌==◌}
use Rattle.std.proofs.Math.Bool.{and_assoc}
use Rattle.std.proofs.Math.ListN.{set}
use Rattle.std.proofs.lemmas.List.{take_more_set, map-append, append_assoc}
use Rattle.cases.specs.Words.{Form, unsigned, first, is_number, number_in, Spells, spelt, spelt_whole, numbers_in, words_after, picture_forms, record_forms, block_forms}

spelt-append : (fs gs : List Form) (words : List (List ℕ)) → spelt (fs ++ gs) words ≡ spelt fs words && spelt gs (words_after fs words)
unfolding spelt words_after
spelt-append [] gs words = refl
spelt-append (f ∷ fs) gs words = ap (λ b. is_number f (first words) && b) (spelt-append fs gs (drop 1 words)) ∙ sym (and_assoc (is_number f (first words)) (spelt fs (drop 1 words)) _)

numbers_in-append : (fs gs : List Form) (words : List (List ℕ)) → numbers_in (fs ++ gs) words ≡ numbers_in fs words ++ numbers_in gs (words_after fs words)
unfolding numbers_in words_after
numbers_in-append [] gs words = refl
numbers_in-append (f ∷ fs) gs words = ap (λ ns. number_in f (first words) ∷ ns) (numbers_in-append fs gs (drop 1 words))

words_after-append : (fs gs : List Form) (words : List (List ℕ)) → words_after (fs ++ gs) words ≡ words_after gs (words_after fs words)
unfolding words_after
words_after-append [] gs words = refl
words_after-append (f ∷ fs) gs words = words_after-append fs gs (drop 1 words)

-- the parts of a block: the picture's flags, the reference, the element, and the record
pub block_spelt : (words : List (List ℕ)) → spelt block_forms words ≡ spelt picture_forms words && (is_number (unsigned 10 16) (first (words_after picture_forms words)) && (is_number (unsigned 10 32) (first (drop 1 (words_after picture_forms words))) && spelt record_forms (drop 1 (drop 1 (words_after picture_forms words)))))
block_spelt words = spelt-append picture_forms (unsigned 10 16 ∷ unsigned 10 32 ∷ record_forms) words ∙ ap (λ b. spelt picture_forms words && b) (two (words_after picture_forms words))
  where
    two : (others : List (List ℕ)) → spelt (unsigned 10 16 ∷ unsigned 10 32 ∷ record_forms) others ≡ is_number (unsigned 10 16) (first others) && (is_number (unsigned 10 32) (first (drop 1 others)) && spelt record_forms (drop 1 (drop 1 others)))
    two others = unfold spelt in refl

pub block_numbers_in : (words : List (List ℕ)) → numbers_in block_forms words ≡ numbers_in picture_forms words ++ (number_in (unsigned 10 16) (first (words_after picture_forms words)) ∷ number_in (unsigned 10 32) (first (drop 1 (words_after picture_forms words))) ∷ numbers_in record_forms (drop 1 (drop 1 (words_after picture_forms words))))
block_numbers_in words = numbers_in-append picture_forms (unsigned 10 16 ∷ unsigned 10 32 ∷ record_forms) words ∙ ap (λ ns. numbers_in picture_forms words ++ ns) (two (words_after picture_forms words))
  where
    two : (others : List (List ℕ)) → numbers_in (unsigned 10 16 ∷ unsigned 10 32 ∷ record_forms) others ≡ number_in (unsigned 10 16) (first others) ∷ number_in (unsigned 10 32) (first (drop 1 others)) ∷ numbers_in record_forms (drop 1 (drop 1 others))
    two others = unfold numbers_in in refl

pub block_words_after : (words : List (List ℕ)) → words_after block_forms words ≡ words_after record_forms (drop 1 (drop 1 (words_after picture_forms words)))
block_words_after words = words_after-append picture_forms (unsigned 10 16 ∷ unsigned 10 32 ∷ record_forms) words ∙ two (words_after picture_forms words)
  where
    two : (others : List (List ℕ)) → words_after (unsigned 10 16 ∷ unsigned 10 32 ∷ record_forms) others ≡ words_after record_forms (drop 1 (drop 1 others))
    two others = unfold words_after in refl

-- while a row is to come, the forms of those to come begin with its own
pub rows_to_come : (i : ℕ) (form : Form) → i < 16 → replicate (16 - i) form ≡ form ∷ replicate (16 - (i + 1)) form
rows_to_come i form inside = let one : 16 - i ≡ suc (16 - (i + 1)) = omega arith in rw one refl

no_rows_to_come : (i : ℕ) (form : Form) → 16 ≤ i → replicate (16 - i) form ≡ []
no_rows_to_come i form past = let none : 16 - i ≡ 0 = omega arith in rw none refl

-- what one more row is to those so far and those to come
pub rows_numbers : (items : List ℕ) (words rest : List (List ℕ)) (i v : ℕ) → i < 16 → i < length items → pos v ≡ number_in (unsigned 16 16) (first words) → rest ≡ drop 1 words → map pos (take i items) ++ numbers_in (replicate (16 - i) (unsigned 16 16)) words ≡ map pos (take (i + 1) (set items i v)) ++ numbers_in (replicate (16 - (i + 1)) (unsigned 16 16)) rest
unfolding numbers_in
rows_numbers items words rest i v inside there number taken =
    rw (rows_to_come i (unsigned 16 16) inside)
    (rw (take_more_set items i v there)
    (rw (map-append pos (take i items) (v ∷ []))
    (sym (append_assoc (map pos (take i items)) (pos v ∷ []) _ ∙ cc (number, taken)))))

pub rows_spelt : (words rest : List (List ℕ)) (i : ℕ) → i < 16 → true ≡ is_number (unsigned 16 16) (first words) → rest ≡ drop 1 words → spelt (replicate (16 - i) (unsigned 16 16)) words ≡ spelt (replicate (16 - (i + 1)) (unsigned 16 16)) rest
unfolding spelt
rows_spelt words rest i inside accepted taken =
    rw (rows_to_come i (unsigned 16 16) inside) (ap (λ b. b && spelt (replicate (16 - (i + 1)) (unsigned 16 16)) (drop 1 words)) (sym accepted) ∙ ap (spelt (replicate (16 - (i + 1)) (unsigned 16 16))) (sym taken))

pub rows_after : (words rest : List (List ℕ)) (i : ℕ) → i < 16 → rest ≡ drop 1 words → words_after (replicate (16 - i) (unsigned 16 16)) words ≡ words_after (replicate (16 - (i + 1)) (unsigned 16 16)) rest
unfolding words_after
rows_after words rest i inside taken =
    rw (rows_to_come i (unsigned 16 16) inside) (ap (words_after (replicate (16 - (i + 1)) (unsigned 16 16))) (sym taken))

-- no row is to come
pub rows_whole : (i : ℕ) (words : List (List ℕ)) → 16 ≤ i → (spelt (replicate (16 - i) (unsigned 16 16)) words ≡ true) × (numbers_in (replicate (16 - i) (unsigned 16 16)) words ≡ []) × (words_after (replicate (16 - i) (unsigned 16 16)) words ≡ words)
unfolding spelt numbers_in words_after
rows_whole i words past = rw (no_rows_to_come i (unsigned 16 16) past) (refl, refl, refl)

none_left : (words : List (List ℕ)) → (length words == 0) ≡ true → [] ≡ words
none_left [] none = refl
none_left (word ∷ words) none = grind arith

-- all words spell the numbers
pub spells_whole : (forms : List Form) (words : List (List ℕ)) (numbers : List ℤ) → true ≡ spelt_whole forms words → numbers ≡ numbers_in forms words → Spells forms words numbers []
spells_whole forms words numbers accepted same = record {
  spelt = grind (arith, accepted);
  numbers = same;
  rest = none_left (words_after forms words) (grind (arith, accepted));
}
