-- Two rows are the same exactly if their mirrored rows are.
use Rattle.std.proofs.Common.{◌≡◌, ℕ, ◌<◌, eqb, Ok, arith}
use Rattle.std.proofs.lemmas.Bool.Decides.{nat_tests}
use Rattle.raster.specs.Meaning.{answered}
use Rattle.reversed.specs.Rows.{mirrored}

pub mirror_same : (rows i row : ℕ) → i < rows → row < rows → eqb (mirrored rows i) (mirrored rows row) ≡ eqb i row
mirror_same rows i row hi hr = grind (arith, nat_tests)

pub mirror_inside : (rows words row place : ℕ) → row < rows → place < words → answered {A = Unit {0}} rows words (mirrored rows row) place tt ≡ Ok tt
mirror_inside rows words row place hr hp = grind (arith, nat_tests)
