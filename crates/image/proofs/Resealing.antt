-- A sealed image is what sealing makes of its data.
use Rattle.std.proofs.Common.{◌≡◌, ℕ, ◌+◌, ◌*◌, ◌/◌, ◌%◌, ◌^◌, ◌<◌, true, not, eqb, List, length, get_or, take, is_ok, Ok, Decides, sym, ap, ◌∙◌, inl, inr, arith, lit<}
use Rattle.std.proofs.lemmas.List.{length-take-le, get_or-take, same_lists, get_or_default}
use Rattle.std.proofs.lemmas.Bool.{eq-eqb, eqb-true, cases_eq, cases_lt}
use Rattle.crc.specs.Register.{check_of, byte_bits}
use Rattle.image.specs.Table.{parameter_of}
use Rattle.image.specs.Value.{value_of}
use Rattle.image.specs.Image.{check_fits, lawful, judged, Sealed, with_check, sealing}
use Rattle.image.specs.Elements.{Bytes}
use Rattle.image.proofs.Spelled.{spelled_word}
use Rattle.image.proofs.Sealing.{data_at, check_at, check_length, sealing_sealed}
use Rattle.image.proofs.Judging.{passed, not-false, accepted}

-- the bytes of a word of four bytes
word_bytes_lem : (a b c d : ℕ) → a < 256 → b < 256 → c < 256 → d < 256 →
    let n = ((a * 256 + b) * 256 + c) * 256 + d in (n / 2 ^ 24 % 256 ≡ a) × (n / 2 ^ 16 % 256 ≡ b) × (n / 2 ^ 8 % 256 ≡ c) × (n % 256 ≡ d)
word_bytes_lem a b c d ha hb hc hd = (omega arith, omega arith, omega arith, omega arith)

module _ (bytes : List ℕ) (k : Bytes bytes) (s : Sealed bytes) where
  abbrev d : List ℕ
  d = take 536 bytes

  long : length d ≡ 536
  long = length-take-le 536 bytes (omega (arith, k.long))

  abbrev c : ℕ
  c = check_of (byte_bits d)

  fitting : check_fits bytes ≡ true
  unfolding judged
  fitting = not-false _ (passed (not (check_fits bytes)) _ (lawful bytes) s).0

  lawfully : lawful bytes ≡ Ok tt
  unfolding judged
  lawfully = accepted (lawful bytes) (passed (not (check_fits bytes)) _ (lawful bytes) s).1

  word : c ≡ ((get_or bytes 536 0 * 256 + get_or bytes 537 0) * 256 + get_or bytes 538 0) * 256 + get_or bytes 539 0
  unfolding value_of parameter_of
  word = sym (eqb-true _ _ fitting) ∙ spelled_word bytes 536 (λ i l. k.narrow (536 + i) (omega arith))

  last_bytes : (c / 2 ^ 24 % 256 ≡ get_or bytes 536 0) × (c / 2 ^ 16 % 256 ≡ get_or bytes 537 0) × (c / 2 ^ 8 % 256 ≡ get_or bytes 538 0) × (c % 256 ≡ get_or bytes 539 0)
  last_bytes = rw word (word_bytes_lem (get_or bytes 536 0) (get_or bytes 537 0) (get_or bytes 538 0) (get_or bytes 539 0) (k.narrow 536 (lit< tt)) (k.narrow 537 (lit< tt)) (k.narrow 538 (lit< tt)) (k.narrow 539 (lit< tt)))

  byte : (i : ℕ) → i < 540 → get_or (with_check d) i 0 ≡ get_or bytes i 0
  byte i h =
      let w = check_at d long in
      elim (cases_lt i 536) [
        | inl l ↦ data_at d long i l ∙ get_or-take 536 bytes i 0 l
        | inr g ↦ elim (cases_eq i 536) [
          | inl e ↦ rw e (w.0 ∙ last_bytes.0)
          | inr n ↦ elim (cases_eq i 537) [
            | inl e ↦ rw e (w.1 ∙ last_bytes.1)
            | inr m ↦ elim (cases_eq i 538) [
              | inl e ↦ rw e (w.2 ∙ last_bytes.2)
              | inr o ↦ let e : i ≡ 539 = omega arith in rw e (w.3 ∙ last_bytes.3)
            ]
          ]
        ]
      ]

  same : with_check d ≡ bytes
  same =
      same_lists (with_check d) bytes (check_length d long ∙ sym k.long)
      (λ i z h. let l : i < 540 = omega (arith, check_length d long) in get_or_default (with_check d) i z 0 h ∙ byte i l ∙ get_or_default bytes i 0 z (omega (arith, k.long)))

  pub resealed : sealing d ≡ Ok bytes
  resealed =
      let t : eqb (length d) 536 ≡ true = eq-eqb (length d) 536 long in
      let l : lawful (with_check d) ≡ Ok tt = ap lawful same ∙ lawfully in
      rw (t, l) (ap Ok same)

pub sealing_decides : (bytes : List ℕ) → Bytes bytes → Decides (is_ok (judged bytes)) (sealing (take 536 bytes) ≡ Ok bytes)
sealing_decides bytes k = (resealed bytes k, sealing_sealed (take 536 bytes) bytes)
