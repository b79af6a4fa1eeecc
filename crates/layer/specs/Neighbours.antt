-- Layers beside each other over one raster: a set through one leaves what the other shows.
use Rattle.std.specs.Prelude.{◌≡◌, ℕ, ◌+◌, ◌<◌, ◌≢◌}
use Rattle.layer.specs.declared.field.FieldKind.{FieldKind}
use Rattle.layer.specs.declared.window.Bounds.{Bounds}
use Rattle.layer.specs.Field.{row_below, field_rows, OtherField}
use Rattle.layer.specs.Window.{shown_of, Within, Around}

-- Of two windows that share no place, what keeps the words around the one keeps all that the other shows.
abbrev pub WindowsApart : Type 0
WindowsApart =
    (b b' : Bounds) (rows words : ℕ) (at at' : ℕ → ℕ → ℕ) →
    ((i j : ℕ) → Within b i j → Within b' i j → ⊥) →
    Around b rows words at at' →
    (i j : ℕ) → i < shown_of rows b'.top b'.size.rows → j < shown_of words b'.left b'.size.words → at' (b'.top + i) (b'.left + j) ≡ at (b'.top + i) (b'.left + j)

-- Of the two fields, what keeps the other field's words keeps all that the other field shows.
abbrev pub FieldsApart : Type 0
FieldsApart =
    (kind other : FieldKind) → (kind ≢ other) → (rows words : ℕ) (at at' : ℕ → ℕ → ℕ) →
    OtherField kind rows words at at' →
    (i j : ℕ) → i < field_rows other rows → j < words → at' (row_below other i) j ≡ at (row_below other i) j
