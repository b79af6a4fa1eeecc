-- What the judgement of an image says of its fields.
use Rattle.std.proofs.Common.{◌≡◌, ℕ, ◌+◌, ◌<◌, Bool, true, false, not, ◌||◌, eqb, ◌⊎◌, List, is_ok, Ok, Err, Result, refl, ap, arith}
use Rattle.std.proofs.lemmas.Bool.Decides.{nat_tests, Decides-eqb}
use Rattle.fault.specs.declared.Fault.{Fault}
use Rattle.fault.specs.Refusing.{refuse}
use Rattle.image.specs.declared.table.Name.TheVariants.{MpegStandardFlag, ChromaFormat, PictureStructure, Spare}
use Rattle.image.specs.Table.{parameter_of}
use Rattle.image.specs.Value.{bit_of, value_of}
use Rattle.image.specs.Image.{value_in, check_fits, judged, Sealed, Fit}
use Rattle.image.proofs.Spelled.{spelled_below, zero_bits, zero_spelled}

-- an acceptance has nothing to say but that it is one
pub accepted : (r : Result (Unit {0}) Fault) → is_ok r ≡ true → r ≡ Ok tt
accepted (Ok tt) e = refl
accepted (Err fault) e = absurd (let z : ◌≡◌ {A = ℕ} 0 1 = cc in omega arith)

pub sealed_judged : (bytes : List ℕ) → Sealed bytes → judged bytes ≡ Ok tt
sealed_judged bytes s = accepted (judged bytes) s

pub judged_sealed : (bytes : List ℕ) → judged bytes ≡ Ok tt → Sealed bytes
judged_sealed bytes e = ap is_ok e

-- a test that refuses was passed
pub passed : {A : Type 0} (test : Bool) (fault : Fault) (rest : Result A Fault) → is_ok (refuse test fault rest) ≡ true → (test ≡ false) × (is_ok rest ≡ true)
passed true fault rest e = absurd (let z : ◌≡◌ {A = ℕ} 0 1 = cc in omega arith)
passed false fault rest e = (refl, e)

pub not-false : (b : Bool) → not b ≡ false → b ≡ true
not-false true e = refl
not-false false e = cc

not_one : (n : ℕ) → n < 2 → eqb n 1 ≡ false → n ≡ 0
not_one n h e = grind (arith, nat_tests)

not_zero : (n : ℕ) → eqb n 0 ≡ false → n ≡ 0 → ⊥
not_zero n e z = grind (arith, nat_tests)

one_or_two : (n : ℕ) → n < 4 → (eqb n 0 || eqb n 3) ≡ false → (n ≡ 1) ⊎ (n ≡ 2)
one_or_two n h e = grind (arith, nat_tests)

module _ (bytes : List ℕ) where
  flag_below : value_in bytes MpegStandardFlag < 2
  unfolding value_of parameter_of
  flag_below = spelled_below bytes 0 1

  chroma_below : value_in bytes ChromaFormat < 4
  unfolding value_of parameter_of
  chroma_below = spelled_below bytes 120 2

  spare_bits : value_in bytes Spare ≡ 0 → (i : ℕ) → i < (parameter_of Spare).width → bit_of bytes ((parameter_of Spare).first_bit + i) ≡ 0
  unfolding value_of
  spare_bits e = zero_bits bytes (parameter_of Spare).first_bit (parameter_of Spare).width e

  spare_zero : ((i : ℕ) → i < (parameter_of Spare).width → bit_of bytes ((parameter_of Spare).first_bit + i) ≡ 0) → value_in bytes Spare ≡ 0
  unfolding value_of
  spare_zero h = zero_spelled bytes (parameter_of Spare).first_bit (parameter_of Spare).width h

  pub fit_if_sealed : Sealed bytes → Fit bytes
  unfolding judged
  fit_if_sealed e =
      let c = passed (not (check_fits bytes)) _ _ e in
      let f = passed (eqb (value_in bytes MpegStandardFlag) 1) _ _ c.1 in
      let p = passed (eqb (value_in bytes PictureStructure) 0) _ _ f.1 in
      let k = passed (eqb (value_in bytes ChromaFormat) 0 || eqb (value_in bytes ChromaFormat) 3) _ _ p.1 in
      let s = passed (not (eqb (value_in bytes Spare) 0)) _ _ k.1 in
      record {
        check = (Decides-eqb _ _).0 (not-false _ c.0);
        standard = not_one _ flag_below f.0;
        structure = not_zero _ p.0;
        chroma = one_or_two _ chroma_below k.0;
        spare = spare_bits ((Decides-eqb _ _).0 (not-false _ s.0));
      }

  pub sealed_if_fit : Fit bytes → Sealed bytes
  unfolding judged
  sealed_if_fit f =
      let c : check_fits bytes ≡ true = (Decides-eqb _ _).1 f.check in
      let m : eqb (value_in bytes MpegStandardFlag) 1 ≡ false = let h = f.standard in grind (arith, nat_tests) in
      let p : eqb (value_in bytes PictureStructure) 0 ≡ false = let h = f.structure in grind (arith, nat_tests) in
      let k : (eqb (value_in bytes ChromaFormat) 0 || eqb (value_in bytes ChromaFormat) 3) ≡ false = let h = f.chroma in grind (arith, nat_tests) in
      let s : eqb (value_in bytes Spare) 0 ≡ true = (Decides-eqb _ _).1 (spare_zero f.spare) in
      rw (c, m, p, k, s)
