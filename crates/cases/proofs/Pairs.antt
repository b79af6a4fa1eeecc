-- Bytes out of pairs of digits.
use Rattle.std.proofs.Common.{◌≡◌, ℕ, ◌+◌, ◌*◌, ◌/◌, ◌%◌, true, false, ◌≤◌, ◌<◌, take, take_all, zero, suc, List, [], ◌∷◌, length, map, refl, sym, ap, ◌∙◌, arith}
use Rattle.std.specs.Simd.{first_chunks}
use Rattle.std.specs.List.{list_all}
use Rattle.std.specs.Prelude.{◌&&◌, slice_index_or}
use Rattle.std.proofs.Math.Bool.{and_assoc}
use Rattle.cases.specs.Digits.{is_hex, hex_pair, hex_value, are_pairs, byte_in, bytes_in}

half-length : {A : Type 0} (a b : A) (xs : List A) → length (a ∷ b ∷ xs) / 2 ≡ suc (length xs / 2)
half-length a b xs = omega arith

-- the pairs of a text, each as its byte, are the bytes in it
pub bytes_of_chunks : (text : List ℕ) → map byte_in (first_chunks 2 (length text / 2) text) ≡ bytes_in text
bytes_of_chunks [] = refl
bytes_of_chunks (half ∷ []) = refl
bytes_of_chunks (high ∷ low ∷ others) =
    rw (half-length high low others) (ap (λ bytes. (16 * hex_value high + hex_value low) ∷ bytes) (bytes_of_chunks others))

-- what a loop over all pairs has made
pub bytes_of_all : (text : List ℕ) (pairs : List (List ℕ)) (i : ℕ) → length pairs ≤ i → pairs ≡ first_chunks 2 (length text / 2) text → map byte_in (take i pairs) ≡ bytes_in text
bytes_of_all text pairs i past front =
    rw (take_all i pairs past) (ap (map byte_in) front ∙ bytes_of_chunks text)

half-odd : {A : Type 0} (a b : A) (xs : List A) → length (a ∷ b ∷ xs) % 2 ≡ length xs % 2
half-odd a b xs = omega arith

-- whether the pairs of a text, with none left over, are digits is whether all of it are
hex_of_chunks : (text : List ℕ) → length text % 2 ≡ 0 → list_all hex_pair (first_chunks 2 (length text / 2) text) ≡ list_all is_hex text
hex_of_chunks [] even = refl
hex_of_chunks (half ∷ []) even = absurd (omega arith)
hex_of_chunks (high ∷ low ∷ others) even =
    rw (half-length high low others)
    (and_assoc (is_hex high) (is_hex low) _ ∙ ap (λ b. is_hex high && (is_hex low && b)) (hex_of_chunks others (sym (half-odd high low others) ∙ even)))

-- what a loop over all pairs has seen
pub hex_of_all : (text : List ℕ) (pairs : List (List ℕ)) (i : ℕ) → length pairs ≤ i → pairs ≡ first_chunks 2 (length text / 2) text → length text % 2 ≡ 0 → list_all hex_pair (take i pairs) ≡ true → list_all is_hex text ≡ true
hex_of_all text pairs i past front even seen =
    sym (hex_of_chunks text even) ∙ sym (ap (list_all hex_pair) (take_all i pairs past ∙ front)) ∙ seen

-- where a pair is not two digits, not all of the text is digits
some_not_hex : (text : List ℕ) → list_all hex_pair (first_chunks 2 (length text / 2) text) ≡ false → list_all is_hex text ≡ false
some_not_hex [] failing = failing
some_not_hex (half ∷ []) failing = grind arith
some_not_hex (high ∷ low ∷ others) failing =
    let cut : (hex_pair (high ∷ low ∷ []) && list_all hex_pair (first_chunks 2 (length others / 2) others)) ≡ false = ap (λ n. list_all hex_pair (first_chunks 2 n (high ∷ low ∷ others))) (sym (half-length high low others)) ∙ failing in
    elim (list_all hex_pair (first_chunks 2 (length others / 2) others)) as (λ b. list_all hex_pair (first_chunks 2 (length others / 2) others) ≡ b → list_all is_hex (high ∷ low ∷ others) ≡ false) [
      | true ↦ λ all. grind (arith, cut, all)
      | false ↦ λ none. grind (arith, some_not_hex others none)
    ] refl

not_all_pairs : (pairs : List (List ℕ)) (i : ℕ) (d : List ℕ) → i < length pairs → hex_pair (slice_index_or pairs i d) ≡ false → list_all hex_pair pairs ≡ false
not_all_pairs [] i d inside failing = absurd (omega arith)
not_all_pairs (pair ∷ pairs) zero d inside failing = grind arith
not_all_pairs (pair ∷ pairs) (suc i) d inside failing = grind (arith, not_all_pairs pairs i d (omega arith) failing)

-- what a loop that stopped at a pair has seen
pub not_pairs_at : (text : List ℕ) (pairs : List (List ℕ)) (i : ℕ) (d : List ℕ) → pairs ≡ first_chunks 2 (length text / 2) text → i < length pairs → hex_pair (slice_index_or pairs i d) ≡ false → are_pairs text ≡ false
not_pairs_at text pairs i d front inside failing =
    let none = some_not_hex text (sym (ap (list_all hex_pair) front) ∙ not_all_pairs pairs i d inside failing) in
    grind (arith, none)
