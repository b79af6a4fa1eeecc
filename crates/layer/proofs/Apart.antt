-- Layers beside each other.
use Rattle.std.proofs.Common.{◌+◌, ◌*◌, refl, arith}
use Rattle.layer.specs.declared.field.FieldKind.TheVariants.{Top, Bottom}
use Rattle.layer.specs.Neighbours.{WindowsApart, FieldsApart}

pub windows_apart : WindowsApart
windows_apart b b' rows words at at' apart around i j hi hj =
    around (b'.top + i) (b'.left + j) (omega arith) (omega arith)
    (λ w. apart (b'.top + i) (b'.left + j) w (omega arith, omega arith, omega arith, omega arith))

pub fields_apart : FieldsApart
fields_apart Top Top n rows words at at' kept i j hi hj = absurd (n refl)
fields_apart Top Bottom n rows words at at' kept i j hi hj = kept (2 * i + 1) j (omega arith) hj (λ e. omega (arith, e))
fields_apart Bottom Top n rows words at at' kept i j hi hj = kept (2 * i + 0) j (omega arith) hj (λ e. omega (arith, e))
fields_apart Bottom Bottom n rows words at at' kept i j hi hj = absurd (n refl)
