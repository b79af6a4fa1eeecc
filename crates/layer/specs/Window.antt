-- The window layer: what lies inside the raster below of the rows and words that are wanted.
use Rattle.std.specs.Prelude.{◌≡◌, ℕ, ◌+◌, ◌-◌, ◌<◌, ◌≤◌, min}
use Rattle.std.proofs.Common.{arith}
use Rattle.raster.specs.declared.extent.Extent.{Extent}
use Rattle.layer.specs.declared.window.Bounds.{Bounds}
use Rattle.layer.specs.Parts.{BesideKept}

-- how many of so many wanted, from the first on, lie below n
abbrev pub shown_of : ℕ → ℕ → ℕ → ℕ
shown_of n first wanted = min (n - first) wanted

-- what the window shows, where its words lie, and the rows and places that are not in it
abbrev pub window_shown : Bounds → Extent → Extent
window_shown b whole = record { rows = shown_of whole.rows b.top b.size.rows; words = shown_of whole.words b.left b.size.words }

abbrev pub window_spot : Bounds → ℕ → ℕ → ℕ × ℕ
window_spot b i j = (b.top + i, b.left + j)

abbrev pub Within : Bounds → ℕ → ℕ → Type 0
Within b i j = (b.top ≤ i) × (i < b.top + b.size.rows) × (b.left ≤ j) × (j < b.left + b.size.words)

abbrev pub around_window : Bounds → ℕ → ℕ → Type 0
around_window b i j = Within b i j → ⊥

-- the words below that are not in the window are the same
abbrev pub Around : Bounds → ℕ → ℕ → (ℕ → ℕ → ℕ) → (ℕ → ℕ → ℕ) → Type 0
Around b = BesideKept (around_window b)

pub window_inside : (b : Bounds) (whole : Extent) (i j : ℕ) → i < (window_shown b whole).rows → j < (window_shown b whole).words → (b.top + i < whole.rows) × (b.left + j < whole.words) × (around_window b (b.top + i) (b.left + j) → ⊥)
window_inside b whole i j hi hj = (omega arith, omega arith, λ d. d (omega arith, omega arith, omega arith, omega arith))

pub window_apart : (b : Bounds) (i j r q : ℕ) → b.top + i ≡ b.top + r → b.left + j ≡ b.left + q → (i ≡ r) × (j ≡ q)
window_apart b i j r q er eq = (omega arith, omega arith)
