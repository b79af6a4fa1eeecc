-- The blank image, computed.
use Rattle.std.proofs.Common.{◌≡◌, ℕ, zero, suc, Bool, true, cond, ◌&&◌, eqb, Ok, refl}
use Rattle.std.proofs.lemmas.Bool.Decides.{Decides-below_and, Decides-eqb}
use Rattle.image.specs.declared.table.Name.TheVariants.{ChromaFormat, PictureStructure, Check}
use Rattle.image.specs.Table.{table, row_at, row_of, parameter_of}
use Rattle.image.specs.Value.{spelled, value_of}
use Rattle.image.specs.Image.{lawful, Sealed, with_check, blank_data, blank_image, Blank, Samples}
use Rattle.image.proofs.Sealing.{sealed_if_lawful}

blank_lawful : lawful blank_image ≡ Ok tt
unfolding spelled value_of parameter_of with_check
blank_lawful = refl

pub blank_sealed : Sealed blank_image
blank_sealed = sealed_if_lawful blank_data refl blank_lawful

-- the value of row i in a blank image
abbrev wanted : ℕ → ℕ
wanted i = cond (eqb i (row_of ChromaFormat)) 1 (cond (eqb i (row_of PictureStructure)) 3 0)

abbrev found : ℕ → ℕ
found i = value_of blank_image (row_at table i)

-- the first n rows have it, as a test that antt computes
abbrev blanks : ℕ → Bool
blanks zero = true
blanks (suc n) = eqb (found n) (wanted n) && blanks n

all_blank : blanks (row_of Check) ≡ true
unfolding spelled value_of with_check
all_blank = refl

pub blank_fields : Blank blank_image
blank_fields = (Decides-below_and (λ i. eqb (found i) (wanted i)) (λ i. found i ≡ wanted i) blanks (λ i. Decides-eqb (found i) (wanted i)) refl (λ _. refl) (row_of Check)).0 all_blank

pub samples : Samples
unfolding spelled value_of parameter_of with_check
samples = record { zeros_refused = refl; blank_sealed = refl }
