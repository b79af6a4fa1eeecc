-- A block in a column of a slab.
use Rattle.std.specs.Prelude.{ℕ, List, Result}
use Rattle.fault.specs.declared.Fault.{Fault}
use Rattle.fault.specs.Refusing.{then}
use Rattle.column.specs.Column.{within, carried_rows}
use Rattle.record.specs.declared.record.Block.{Block}
use Rattle.block.specs.Code.{encoded, decoded}

-- writing: 10 and 11 for the slab and the column, then 12 and 17 for the block; the answer is the rows that are embedded
abbrev pub writable : ℕ → ℕ → ℕ → Block → Result (List ℕ) Fault
writable rows words column b = then (within {A = Unit {0}} rows words column tt) (λ _. encoded b)

-- reading: 10 and 11, then 13 to 17 for what the column carries
abbrev pub readable : ℕ → ℕ → ℕ → (ℕ → ℕ → ℕ) → Result Block Fault
readable rows words column at = then (within rows words column (carried_rows at column)) decoded
