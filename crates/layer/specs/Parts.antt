-- What a layer leaves of the raster below.
use Rattle.std.specs.Prelude.{◌≡◌, ℕ, ◌<◌}
use Rattle.std.proofs.Common.{arith, ◌∙◌}
use Rattle.raster.specs.declared.extent.Extent.{Extent}

abbrev pub extent_of : ℕ → ℕ → Extent
extent_of rows words = record { rows = rows; words = words }

-- the words below that are beside a part are the same
abbrev pub BesideKept : (ℕ → ℕ → Type 0) → ℕ → ℕ → (ℕ → ℕ → ℕ) → (ℕ → ℕ → ℕ) → Type 0
BesideKept beside rows words at at' = (i j : ℕ) → i < rows → j < words → beside i j → at' i j ≡ at i j

pub beside_onward : {beside : ℕ → ℕ → Type 0} {n n' w w' : ℕ} {at at' at'' : ℕ → ℕ → ℕ} → n' ≡ n → w' ≡ w → BesideKept beside n w at at' → BesideKept beside n' w' at' at'' → BesideKept beside n w at at''
beside_onward en ew p q i j hi hj d = q i j (omega arith) (omega arith) d ∙ p i j hi hj d
