-- The inserter's references: where the next picture begins.
use Rattle.std.specs.Prelude.{ℕ, Ok, Result}
use Rattle.fault.specs.declared.Fault.{Fault}
use Rattle.fault.specs.Refusing.{then}
use Rattle.format.specs.declared.table.Format.{Format}
use Rattle.format.specs.Formats.{accepted, first_of}

-- a new inserter: 3 for the number of no format, 4 for a first reference above 65520; else the format and the first reference
abbrev pub begun : ℕ → ℕ → Result (Format × ℕ) Fault
begun number first = then (accepted number) (λ f. then (first_of first) (λ n. Ok (f, n)))
