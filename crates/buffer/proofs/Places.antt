-- Places counted along the rows.
use Rattle.std.proofs.Common.{ℕ, ◌+◌, ◌*◌, ◌<◌, arith}
use Rattle.std.proofs.lemmas.Nat.{mul-add-lt}

-- a place inside comes before the end of the rows
pub before_end : (rows w r p : ℕ) → r < rows → p < w → r * w + p < rows * w
before_end rows w r p hr hp = omega (arith, mul-add-lt r w p rows hr hp)
