-- The table has each format once; and some values.
use Rattle.std.proofs.Common.{◌≡◌, ℕ, ◌<◌, Some, refl, inl, inr, arith, lit<, rules}
use Rattle.std.proofs.lemmas.Bool.{cases_eq}
use Rattle.format.specs.declared.table.Format.{Format}
use Rattle.format.specs.declared.table.Format.TheVariants.{Frame1080, Field1080, Frame720, Bench}
use Rattle.format.specs.Formats.{number_of, carriers_of, format_of, position_of, reference_of, Listed, Used}
use Rattle.format.specs.Carriers.{Samples}

pub listed : Listed
listed Frame1080 = (lit< tt, refl)
listed Field1080 = (lit< tt, refl)
listed Frame720 = (lit< tt, refl)
listed Bench = (lit< tt, refl)

pub used : Used
used i h =
    elim (cases_eq i 0) [
      | inl e ↦ (Frame1080, omega arith)
      | inr n ↦ elim (cases_eq i 1) [
        | inl e ↦ (Field1080, omega arith)
        | inr m ↦ elim (cases_eq i 2) [ inl e ↦ (Frame720, omega arith) | inr k ↦ (Bench, omega arith) ]
      ]
    ]

pub carriers_some : (f : Format) → 0 < carriers_of f
carriers_some Frame1080 = lit< tt
carriers_some Field1080 = lit< tt
carriers_some Frame720 = lit< tt
carriers_some Bench = lit< tt

-- the format that is found has the number
pub number_found : (n : ℕ) (f : Format) → format_of n ≡ Some f → number_of f ≡ n
number_found n f e = search rules

second : (f : Format) → position_of f 0 1 ≡ 1
second Frame1080 = refl
second Field1080 = refl
second Frame720 = refl
second Bench = refl

around : (f : Format) → reference_of f 65520 0 1 ≡ 0
around Frame1080 = refl
around Field1080 = refl
around Frame720 = refl
around Bench = refl

pub samples : Samples
samples = record {
  last_element = refl;
  element_after = refl;
  fourth_stripe = refl;
  last_macroblock = refl;
  second_position = second;
  reference_after = around;
  picture_after = refl;
}
