-- The field layer: every second row of the raster below.
use Rattle.std.specs.Prelude.{◌≡◌, ℕ, ◌+◌, ◌-◌, ◌*◌, ◌/◌, ◌%◌, ◌<◌, ◌≢◌}
use Rattle.std.proofs.Common.{arith}
use Rattle.raster.specs.declared.extent.Extent.{Extent}
use Rattle.layer.specs.declared.field.FieldKind.{FieldKind}
use Rattle.layer.specs.declared.field.FieldKind.TheVariants.{Top, Bottom}
use Rattle.layer.specs.Parts.{BesideKept}

-- Two kinds of field. The number of one is the row below that it begins with.
abbrev pub first_row : FieldKind → ℕ
first_row Top = 0
first_row Bottom = 1

-- row i of the field, as a row below
abbrev pub row_below : FieldKind → ℕ → ℕ
row_below kind i = 2 * i + first_row kind

-- the rows of a field of so many rows
abbrev pub field_rows : FieldKind → ℕ → ℕ
field_rows kind rows = (rows + 1 - first_row kind) / 2

-- what the field shows, where its words lie, and the rows of the other field
abbrev pub field_shown : FieldKind → Extent → Extent
field_shown kind whole = record { rows = field_rows kind whole.rows; words = whole.words }

abbrev pub field_spot : FieldKind → ℕ → ℕ → ℕ × ℕ
field_spot kind i j = (row_below kind i, j)

abbrev pub in_other_field : FieldKind → ℕ → ℕ → Type 0
in_other_field kind i j = i % 2 ≢ first_row kind

-- the words of the other field are the same
abbrev pub OtherField : FieldKind → ℕ → ℕ → (ℕ → ℕ → ℕ) → (ℕ → ℕ → ℕ) → Type 0
OtherField kind = BesideKept (in_other_field kind)

pub field_inside : (kind : FieldKind) (whole : Extent) (i j : ℕ) → i < field_rows kind whole.rows → j < whole.words → (row_below kind i < whole.rows) × (j < whole.words) × (in_other_field kind (row_below kind i) j → ⊥)
field_inside Top whole i j hi hj = (omega arith, hj, λ d. d (omega arith))
field_inside Bottom whole i j hi hj = (omega arith, hj, λ d. d (omega arith))

pub field_apart : (kind : FieldKind) (i j r q : ℕ) → row_below kind i ≡ row_below kind r → j ≡ q → (i ≡ r) × (j ≡ q)
field_apart kind i j r q er eq = (omega arith, eq)
