-- What callers need of blocks and their check.
use Rattle.std.proofs.Common.{◌≡◌, ℕ, ◌/◌, ◌%◌, ◌^◌, List, [], ◌∷◌, ◌++◌, get_or, take, drop, ◌∙◌, ap₂, arith, length-take}
use Rattle.std.proofs.lemmas.List.{drop_all, get_or-take}
use Rattle.crc.specs.Register.{check_of, row_bits}
use Rattle.crc.specs.Burst.{Rows, Block, CheckFits, with_check}
use Rattle.crc.proofs.Bursts.{around}

-- the last two rows of a block are the halves of the check over the others exactly if it fits
pub fits_from_halves : (rows : List ℕ) → get_or rows 14 0 ≡ check_of (row_bits (take 14 rows)) / 2 ^ 16 → get_or rows 15 0 ≡ check_of (row_bits (take 14 rows)) % 2 ^ 16 → CheckFits rows
fits_from_halves rows high low = omega (arith, high, low)

pub halves_from_fits : (rows : List ℕ) → Block rows → CheckFits rows → (get_or rows 14 0 ≡ check_of (row_bits (take 14 rows)) / 2 ^ 16) × (get_or rows 15 0 ≡ check_of (row_bits (take 14 rows)) % 2 ^ 16)
halves_from_fits rows k f =
    let low = k.narrow 15 (omega arith) in
    (omega (arith, f, low), omega (arith, f, low))

-- and then it is its first 14 rows with their check
pub first_rows : (rows : List ℕ) → Block rows → Rows 14 (take 14 rows)
first_rows rows k = record {
  long = length-take 14 rows ∙ omega (arith, k.long);
  narrow = λ i h. omega (arith, get_or-take 14 rows i 0 h, k.narrow i (omega arith));
}

pub checked_from_fits : (rows : List ℕ) → Block rows → CheckFits rows → rows ≡ with_check (take 14 rows)
checked_from_fits rows k f =
    let e = halves_from_fits rows k f in
    let l : drop 16 rows ≡ [] = drop_all 16 rows (omega (arith, k.long)) in
    around rows 14 (omega (arith, k.long)) ∙ rw l (ap₂ (λ (x y : ℕ). take 14 rows ++ x ∷ y ∷ []) e.0 e.1)
