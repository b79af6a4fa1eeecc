-- Places counted along the rows, and what an answer tells.
use Rattle.std.proofs.Common.{◌≡◌, ℕ, ◌+◌, ◌*◌, ◌/◌, ◌%◌, ◌<◌, Bool, true, cond, ◌&&◌, eqb, Ok, sym, refl, ap, ◌∙◌, inl, inr, arith, eq-eqb}
use Rattle.std.proofs.lemmas.Nat.{div-mul-add, mod-mul-add}
use Rattle.std.proofs.lemmas.Bool.Decides.{nat_tests}
use Rattle.std.proofs.lemmas.Bool.{cases_eq}
use Rattle.raster.specs.Meaning.{inside, answered, replaced, with_bit}

-- two places along the rows are one only at the same row and place
pub row_of : (w i j r p : ℕ) → j < w → p < w → i * w + j ≡ r * w + p → (i ≡ r) × (j ≡ p)
row_of w i j r p hj hp e =
    (sym (div-mul-add i w j hj) ∙ ap (λ n. n / w) e ∙ div-mul-add r w p hp, sym (mod-mul-add i w j hj) ∙ ap (λ n. n % w) e ∙ mod-mul-add r w p hp)

pub same_place : (w i j r p : ℕ) → j < w → p < w → eqb (i * w + j) (r * w + p) ≡ (eqb i r && eqb j p)
same_place w i j r p hj hp =
    elim (cases_eq (i * w + j) (r * w + p)) [
      | inl e ↦ let q = row_of w i j r p hj hp e in rw (e, eq-eqb (r * w + p) (r * w + p) refl, q.0, q.1, eq-eqb r r refl, eq-eqb p p refl)
      | inr n ↦ grind (arith, nat_tests)
    ]

-- what was answered lies inside
pub from_answered : {A : Type 0} (rows words r p : ℕ) (x y : A) → Ok y ≡ answered rows words r p x → (y ≡ x) × (r < rows) × (p < words)
from_answered rows words r p x y e = (grind (arith, nat_tests), grind (arith, nat_tests), grind (arith, nat_tests))

pub is_inside : (rows words r p : ℕ) → r < rows → p < words → inside rows words r p ≡ true
is_inside rows words r p hr hp = grind (arith, nat_tests)

-- a set may speak of the word at the place that it names
pub replaced_at : (at : ℕ → ℕ → ℕ) (r p : ℕ) (b : Bool) (i j : ℕ) → cond (eqb i r && eqb j p) (with_bit (at r p) b) (at i j) ≡ replaced at r p b i j
replaced_at at r p b i j =
    elim (cases_eq i r) [
      | inl e ↦ elim (cases_eq j p) [ inl d ↦ rw (e, d) | inr n ↦ grind (arith, nat_tests) ]
      | inr n ↦ grind (arith, nat_tests)
    ]
