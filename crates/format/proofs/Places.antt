-- Macroblocks by their place: what the numbers of a macroblock can be, and that they tell it from the others.
use Rattle.std.proofs.Common.{◌≡◌, ℕ, ◌+◌, ◌*◌, ◌%◌, ◌<◌, ◌≤◌, true, ltb, Ok, Err, arith, lit≤}
use Rattle.std.proofs.lemmas.Nat.{mul-add-lt}
use Rattle.std.proofs.lemmas.Bool.{and_parts, and_from, ltb-true, lt-ltb, cond-true}
use Rattle.std.proofs.lemmas.Bool.Decides.{nat_tests}
use Rattle.fault.specs.declared.Fault.TheVariants.{NotInFormat}
use Rattle.raster.proofs.Flat.{row_of}
use Rattle.format.specs.declared.table.Format.{Format}
use Rattle.format.specs.declared.table.Format.TheVariants.{Frame1080, Field1080, Frame720, Bench}
use Rattle.format.specs.Formats.{columns_of, stripes_of, in_format, within, slab_of, macroblocks_of, position_of, reference_count, reference_of, next_first, element_count, index_of}

pub from_in_format : (f : Format) (stripe column : ℕ) → in_format f stripe column ≡ true → (stripe < stripes_of f) × (column < columns_of f)
from_in_format f stripe column h =
    let p = and_parts (ltb stripe (stripes_of f)) (ltb column (columns_of f)) h in (ltb-true stripe (stripes_of f) p.0, ltb-true column (columns_of f) p.1)

pub is_in_format : (f : Format) (stripe column : ℕ) → stripe < stripes_of f → column < columns_of f → in_format f stripe column ≡ true
is_in_format f stripe column hs hc =
    and_from (ltb stripe (stripes_of f)) (ltb column (columns_of f)) (lt-ltb stripe (stripes_of f) hs) (lt-ltb column (columns_of f) hc)

-- what was answered was asked of a macroblock in the format, and is the answer
pub from_within : {A : Type 0} (f : Format) (stripe column : ℕ) (x y : A) → Ok y ≡ within f stripe column x → (y ≡ x) × (in_format f stripe column ≡ true)
from_within f stripe column x y e = (grind (arith, nat_tests), grind (arith, nat_tests))

pub is_within : {A : Type 0} (f : Format) (stripe column : ℕ) (x : A) → in_format f stripe column ≡ true → within f stripe column x ≡ Ok x
is_within f stripe column x h = cond-true (in_format f stripe column) (Ok x) (Err NotInFormat) h

-- the words of a column lie in the slab
pub slab_has : (f : Format) (column : ℕ) → column < columns_of f → 32 * column + 32 ≤ (slab_of f).words
slab_has f column h = omega arith

pub columns_few : (f : Format) → columns_of f ≤ 120
columns_few Frame1080 = lit≤ tt
columns_few Field1080 = lit≤ tt
columns_few Frame720 = lit≤ tt
columns_few Bench = lit≤ tt

pub stripes_few : (f : Format) → stripes_of f ≤ 68
stripes_few Frame1080 = lit≤ tt
stripes_few Field1080 = lit≤ tt
stripes_few Frame720 = lit≤ tt
stripes_few Bench = lit≤ tt

pub macroblocks_few : (f : Format) → macroblocks_of f ≤ 8160
macroblocks_few Frame1080 = lit≤ tt
macroblocks_few Field1080 = lit≤ tt
macroblocks_few Frame720 = lit≤ tt
macroblocks_few Bench = lit≤ tt

pub index_below : (stripe column : ℕ) → index_of stripe column < element_count
index_below stripe column = omega arith

pub reference_at_most : (f : Format) (first stripe column : ℕ) → reference_of f first stripe column ≤ 65520
reference_at_most f first stripe column = omega arith

pub next_first_at_most : (f : Format) (first : ℕ) → next_first f first ≤ 65520
next_first_at_most f first = omega arith

pub position_below : (f : Format) (stripe column : ℕ) → in_format f stripe column ≡ true → position_of f stripe column < macroblocks_of f
position_below f stripe column h =
    let p = from_in_format f stripe column h in omega (arith, mul-add-lt stripe (columns_of f) column (stripes_of f) p.0 p.1)

-- two macroblocks of one format at the same position are the same
pub same_position : (f : Format) (s c s' c' : ℕ) → in_format f s c ≡ true → in_format f s' c' ≡ true → position_of f s c ≡ position_of f s' c' → (s ≡ s') × (c ≡ c')
same_position f s c s' c' h h' e = row_of (columns_of f) s c s' c' (from_in_format f s c h).1 (from_in_format f s' c' h').1 e

around_once : (a p q : ℕ) → p < 8160 → q < 8160 → (a + p) % reference_count ≡ (a + q) % reference_count → p ≡ q
around_once a p q hp hq e = omega arith

-- and so are two of one picture with the same reference
pub same_reference : (f : Format) (first s c s' c' : ℕ) → in_format f s c ≡ true → in_format f s' c' ≡ true → reference_of f first s c ≡ reference_of f first s' c' → (s ≡ s') × (c ≡ c')
same_reference f first s c s' c' h h' e =
    same_position f s c s' c' h h'
    (around_once first (position_of f s c) (position_of f s' c')
    (omega (arith, position_below f s c h, macroblocks_few f)) (omega (arith, position_below f s' c' h', macroblocks_few f)) e)
