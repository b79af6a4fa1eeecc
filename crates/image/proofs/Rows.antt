-- The rows of the table: they follow on one another, and those with a name lie inside the image.
use Rattle.std.proofs.Common.{◌≡◌, ℕ, zero, suc, ◌+◌, ◌≤◌, Bool, true, ◌&&◌, eqb, refl, lit≤}
use Rattle.std.proofs.lemmas.Bool.Decides.{Decides-below_and, Decides-eqb}
use Rattle.image.specs.declared.table.Name.{Name}
use Rattle.image.specs.declared.table.Name.TheVariants.{MpegStandardFlag, ChromaFormat, PictureStructure, TopFieldFirst, QScaleType, RepeatFirstField, Spare, Check}
use Rattle.image.specs.Table.{table, row_at, row_of, Gapless}

-- where row i ends, and where the next begins
abbrev end : ℕ → ℕ
end i = (row_at table i).first_bit + (row_at table i).width

abbrev next : ℕ → ℕ
next i = (row_at table (i + 1)).first_bit

-- the first n rows are each followed by the next, as a test that antt computes
abbrev joins : ℕ → Bool
joins zero = true
joins (suc n) = eqb (next n) (end n) && joins n

pub gapless : Gapless table
gapless = record {
  count = refl;
  begins = refl;
  follows = (Decides-below_and (λ i. eqb (next i) (end i)) (λ i. next i ≡ end i) joins (λ i. Decides-eqb (next i) (end i)) refl (λ _. refl) 78).0 refl;
  ends = refl;
}

pub inside : (name : Name) → (row_at table (row_of name)).first_bit + (row_at table (row_of name)).width ≤ 4320
inside MpegStandardFlag = lit≤ tt
inside ChromaFormat = lit≤ tt
inside PictureStructure = lit≤ tt
inside TopFieldFirst = lit≤ tt
inside QScaleType = lit≤ tt
inside RepeatFirstField = lit≤ tt
inside Spare = lit≤ tt
inside Check = lit≤ tt

pub narrow : (name : Name) → (row_at table (row_of name)).width ≤ 41
narrow MpegStandardFlag = lit≤ tt
narrow ChromaFormat = lit≤ tt
narrow PictureStructure = lit≤ tt
narrow TopFieldFirst = lit≤ tt
narrow QScaleType = lit≤ tt
narrow RepeatFirstField = lit≤ tt
narrow Spare = lit≤ tt
narrow Check = lit≤ tt
