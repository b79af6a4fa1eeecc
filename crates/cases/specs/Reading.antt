-- What the library reads of a word as a number is the number that it spells.
use Rattle.std.specs.Prelude.{◌≡◌, ℕ, ◌<◌, ◌^◌, List, [], ◌∷◌, length, nat_le, Bool, cond, true, false, ℤ, pos, neg_ℤ, Ok, Err, Result}
use Rattle.std.proofs.Common.{suc, zero, refl, sym, ap, subst, ◌∙◌, arith}
use Rattle.std.specs.Int.{w16}
use Rattle.std.specs.Char.{is_digit, digit_value}
use Rattle.std.specs.List.{list_all}
use Rattle.std.specs.Str.Parse.{AllDigits, IsNumeral, ParsesUnsigned, ParsesSigned, digits_value, without_leading_plus, without_leading_sign, starts_with_minus}
use mir.Val.{SFits, to_z, of_z}
use Rattle.std.proofs.lemmas.Int.{to_z-of_z}
use Rattle.cases.specs.Words.{unsigned, signed, is_numeral, ReadsNumber}

digits_pass : (radix : ℕ) (ds : List ℕ) → AllDigits radix ds → list_all (λ d. is_digit d radix) ds ≡ true
digits_pass radix [] all = refl
digits_pass radix (d ∷ ds) all = let one : digit_value d < radix = all.0 in grind (arith, digits_pass radix ds all.1)

passing_digits : (radix : ℕ) (ds : List ℕ) → list_all (λ d. is_digit d radix) ds ≡ true → AllDigits radix ds
passing_digits radix [] pass = tt
passing_digits radix (d ∷ ds) pass = (grind arith, passing_digits radix ds (grind arith))

pub numeral_passes : (radix : ℕ) (ds : List ℕ) → IsNumeral radix ds → is_numeral radix ds ≡ true
numeral_passes radix ds numeral = let some : 0 < length ds = numeral.0 in grind (arith, digits_pass radix ds numeral.1)

pub passing_numeral : (radix : ℕ) (ds : List ℕ) → is_numeral radix ds ≡ true → IsNumeral radix ds
passing_numeral radix ds pass = (grind arith, passing_digits radix ds (grind arith))

-- a test that cannot pass fails
fails : (test : Bool) → (test ≡ true → ⊥) → false ≡ test
fails true never = absurd (never refl)
fails false never = refl

pub reads_unsigned : {E : Type 0} (radix bits : ℕ) (word : List ℕ) (r : Result ℕ E) → ParsesUnsigned bits radix word r → ReadsNumber (unsigned radix bits) pos word r
reads_unsigned radix bits word (Ok v) parsed =
    let ds : List ℕ = without_leading_plus word in
    let small : digits_value radix ds < 2 ^ bits = parsed.0.1 in
    (grind (arith, numeral_passes radix ds parsed.0.0), ap pos parsed.1)
reads_unsigned radix bits word (Err e) parsed =
    let ds : List ℕ = without_leading_plus word in
    (fails _ (λ pass. parsed (passing_numeral radix ds (grind arith), grind arith)), tt)

fits_small : (minus : Bool) (n : ℕ) → SFits w16 (cond minus (neg_ℤ (pos n)) (pos n)) → nat_le n (cond minus 32768 32767) ≡ true
fits_small false n fits = let small : n < 32768 = fits.sfits in grind arith
fits_small true zero fits = refl
fits_small true (suc n) fits = let small : n < 32768 = fits.sfits in grind arith

small_fits : (minus : Bool) (n : ℕ) → nat_le n (cond minus 32768 32767) ≡ true → SFits w16 (cond minus (neg_ℤ (pos n)) (pos n))
small_fits false n small = record { sfits = grind arith }
small_fits true zero small = record { sfits = omega arith }
small_fits true (suc n) small = record { sfits = grind arith }

-- a signed number, as it is stored
abbrev pub stored : ℤ → ℤ
stored v = to_z w16 (of_z w16 v)

pub reads_signed : {E : Type 0} (word : List ℕ) (r : Result ℤ E) → ParsesSigned w16 10 word r → ReadsNumber signed stored word r
reads_signed word (Ok v) parsed =
    let ds : List ℕ = without_leading_sign word in
    let small = fits_small (starts_with_minus word) (digits_value 10 ds) parsed.0.1 in
    (grind (arith, numeral_passes 10 ds parsed.0.0), to_z-of_z w16 v (subst (SFits w16) (sym parsed.1) parsed.0.1) ∙ parsed.1)
reads_signed word (Err e) parsed =
    let ds : List ℕ = without_leading_sign word in
    (fails _ (λ pass. parsed (passing_numeral 10 ds (grind arith), small_fits (starts_with_minus word) (digits_value 10 ds) (grind arith))), tt)
