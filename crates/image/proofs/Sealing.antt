-- Data with its check is an image whose check fits.
use Rattle.std.proofs.Common.{◌≡◌, ℕ, ◌+◌, ◌-◌, ◌*◌, ◌/◌, ◌%◌, ◌^◌, ◌<◌, Bool, true, false, not, eqb, List, [], ◌∷◌, ◌++◌, length, get_or, take, drop, IfOk, Ok, Err, Result, sym, refl, ap, ◌∙◌, subst, ap₂, inl, inr, arith, lit≤, eq-eqb}
use native.Mathlib.Nat.{div-div-eq-div-mul}
use Rattle.std.proofs.lemmas.List.{append-nil, get_or_append_left, get_or-append_right, length-append, take_at, drop_at}
use borrow.Rule.Slice.PartMut.{put_mid}
use Rattle.std.proofs.lemmas.Bool.{cases_eq, cases_lt}
use Rattle.std.proofs.lemmas.Bool.Decides.{nat_tests}
use Rattle.fault.specs.declared.Fault.{Fault}
use Rattle.fault.specs.declared.Fault.TheVariants.{Length}
use Rattle.fault.specs.Refusing.{refuse, then}
use Rattle.crc.specs.Register.{check_of, byte_bits}
use Rattle.crc.proofs.Runs.{check_below}
use Rattle.image.specs.declared.table.Name.TheVariants.{Check}
use Rattle.image.specs.Table.{parameter_of}
use Rattle.image.specs.Value.{value_of}
use Rattle.image.specs.Image.{value_in, check_fits, lawful, judged, Sealed, word_bytes, with_check, sealing}
use Rattle.image.specs.Elements.{Bytes}
use Rattle.image.proofs.Spelled.{spelled_word}

-- four bytes written after 536
pub end_put : (d ys : List ℕ) → length d ≡ 536 → put_mid 536 4 (d ++ 0 ∷ 0 ∷ 0 ∷ 0 ∷ []) ys ≡ d ++ ys
end_put d ys h =
    let z = 0 ∷ 0 ∷ 0 ∷ 0 ∷ [] in
    ap₂ (λ t u. t ++ (ys ++ u)) (take_at d z 536 h) (ap (drop 4) (drop_at d z 536 h)) ∙ ap (λ u. d ++ u) (append-nil ys)

-- a number from its lowest byte and the rest
peel : (n : ℕ) → n / 256 * 256 + n % 256 ≡ n
peel n = omega arith

-- the bytes of a word spell it
pub word_back : (n : ℕ) → n < 2 ^ 32 → ((n / 2 ^ 24 % 256 * 256 + n / 2 ^ 16 % 256) * 256 + n / 2 ^ 8 % 256) * 256 + n % 256 ≡ n
word_back n h =
    let a : n / 256 / 256 ≡ n / 65536 = div-div-eq-div-mul n 256 256 in
    let b : n / 65536 / 256 ≡ n / 16777216 = div-div-eq-div-mul n 65536 256 in
    let t : n / 16777216 % 256 ≡ n / 16777216 = omega arith in
    let p : n / 16777216 * 256 + n / 65536 % 256 ≡ n / 65536 = rw (← b) (peel (n / 65536)) in
    let q : n / 65536 * 256 + n / 256 % 256 ≡ n / 256 = rw (← a) (peel (n / 256)) in
    simp (t, p, q) (peel n)

module _ (d : List ℕ) (h : length d ≡ 536) where
  abbrev c : ℕ
  c = check_of (byte_bits d)

  -- the bytes of the check, in place
  byte_0 : get_or (d ++ word_bytes c) 536 0 ≡ c / 2 ^ 24 % 256
  byte_0 = get_or-append_right d (word_bytes c) 536 536 0 h (lit≤ tt)

  byte_1 : get_or (d ++ word_bytes c) 537 0 ≡ c / 2 ^ 16 % 256
  byte_1 = get_or-append_right d (word_bytes c) 536 537 0 h (lit≤ tt)

  byte_2 : get_or (d ++ word_bytes c) 538 0 ≡ c / 2 ^ 8 % 256
  byte_2 = get_or-append_right d (word_bytes c) 536 538 0 h (lit≤ tt)

  byte_3 : get_or (d ++ word_bytes c) 539 0 ≡ c % 256
  byte_3 = get_or-append_right d (word_bytes c) 536 539 0 h (lit≤ tt)

  small : (i : ℕ) → i < 4 → get_or (d ++ word_bytes c) (536 + i) 0 < 256
  small i l =
      elim (cases_eq i 0) [
        | inl e ↦ rw e (omega (arith, byte_0))
        | inr n ↦ elim (cases_eq i 1) [
          | inl e ↦ rw e (omega (arith, byte_1))
          | inr m ↦ elim (cases_eq i 2) [
            | inl e ↦ rw e (omega (arith, byte_2))
            | inr k ↦ let e : i ≡ 3 = omega arith in rw e (omega (arith, byte_3))
          ]
        ]
      ]

  check_spelled : value_in (with_check d) Check ≡ c
  unfolding with_check value_of parameter_of
  check_spelled = spelled_word (d ++ word_bytes c) 536 small ∙ rw (byte_0, byte_1, byte_2, byte_3) (word_back c (check_below (byte_bits d)))

  data_back : take 536 (with_check d) ≡ d
  unfolding with_check
  data_back = take_at d (word_bytes c) 536 h

  pub data_at : (k : ℕ) → k < 536 → get_or (with_check d) k 0 ≡ get_or d k 0
  unfolding with_check
  data_at k l = get_or_append_left d (word_bytes c) 0 k (omega arith)

  -- the four bytes of the check, the high one first
  pub check_at : (get_or (with_check d) 536 0 ≡ c / 2 ^ 24 % 256) × (get_or (with_check d) 537 0 ≡ c / 2 ^ 16 % 256) × (get_or (with_check d) 538 0 ≡ c / 2 ^ 8 % 256) × (get_or (with_check d) 539 0 ≡ c % 256)
  unfolding with_check
  check_at = (byte_0, byte_1, byte_2, byte_3)

  check_small : (i : ℕ) → i < 4 → get_or (with_check d) (536 + i) 0 < 256
  unfolding with_check
  check_small = small

  pub check_length : length (with_check d) ≡ 540
  unfolding with_check
  check_length = length-append d (word_bytes c) ∙ omega (arith, h)

  pub check_fits_lem : check_fits (with_check d) ≡ true
  check_fits_lem = eq-eqb _ _ (check_spelled ∙ ap (λ (l : List ℕ). check_of (byte_bits l)) (sym data_back))

  pub sealed_if_lawful : lawful (with_check d) ≡ Ok tt → Sealed (with_check d)
  unfolding judged
  sealed_if_lawful e = rw (check_fits_lem, e)

-- what sealing makes
made_by : (test : Bool) (r : Result (Unit {0}) Fault) (x y : List ℕ) → refuse test Length (then r (λ _. Ok x)) ≡ Ok y → (test ≡ false) × (r ≡ Ok tt) × (y ≡ x)
made_by true r x y e = absurd (let z : ◌≡◌ {A = ℕ} 0 1 = cc in omega arith)
made_by false (Ok tt) x y e = (refl, refl, cc)
made_by false (Err fault) x y e = absurd (let z : ◌≡◌ {A = ℕ} 0 1 = cc in omega arith)

module _ (d bytes : List ℕ) (e : sealing d ≡ Ok bytes) where
  parts : (not (eqb (length d) 536) ≡ false) × (lawful (with_check d) ≡ Ok tt) × (bytes ≡ with_check d)
  parts = made_by (not (eqb (length d) 536)) (lawful (with_check d)) (with_check d) bytes e

  whole : length d ≡ 536
  whole = let n = parts.0 in grind (arith, nat_tests)

  pub sealing_sealed : Sealed bytes
  sealing_sealed = subst Sealed (sym parts.2) (sealed_if_lawful d whole parts.1)

  pub sealing_bytes : ((i : ℕ) → i < 536 → get_or d i 0 < 256) → Bytes bytes
  sealing_bytes narrow = subst Bytes (sym parts.2) (record { long = long; narrow = below })
    where
      long : length (with_check d) ≡ 540
      long = check_length d whole

      below : (k : ℕ) → k < 540 → get_or (with_check d) k 0 < 256
      below k h =
          elim (cases_lt k 536) [
            | inl l ↦ rw (data_at d whole k l) (narrow k l)
            | inr g ↦ let q : 536 + (k - 536) ≡ k = omega arith in subst (λ j. get_or (with_check d) j 0 < 256) q (check_small d whole (k - 536) (omega arith))
          ]

pub sealed_made : (d : List ℕ) (r : Result (List ℕ) Fault) → r ≡ sealing d → IfOk r Sealed
sealed_made d (Err fault) e = tt
sealed_made d (Ok bytes) e = sealing_sealed d bytes (sym e)
