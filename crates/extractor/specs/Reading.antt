-- Reading a block out of a slab of a format.
use Rattle.std.specs.Prelude.{◌≡◌, ℕ, ◌<◌, ◌≤◌, true, not, List, Ok, Result, nat_lt}
use Rattle.fault.specs.declared.Fault.{Fault}
use Rattle.fault.specs.declared.Fault.TheVariants.{SlabExtent, NotInFormat}
use Rattle.fault.specs.Refusing.{refuse, then}
use Rattle.column.specs.Column.{carried_rows}
use Rattle.crc.specs.Burst.{Rows, AlikeBut}
use Rattle.record.specs.declared.record.Block.{Block}
use Rattle.block.specs.Code.{decoded, WellFormed}
use Rattle.format.specs.declared.table.Format.{Format}
use Rattle.format.specs.Formats.{accepted, columns_of, is_slab}

-- in a format: 10 for a slab of another extent, 11 for a column that the format has not, then 13 to 17 for what the column carries
abbrev pub reading_in : Format → ℕ → ℕ → ℕ → (ℕ → ℕ → ℕ) → Result Block Fault
reading_in f column rows words at =
    refuse (not (is_slab f rows words)) SlabExtent
    (refuse (not (nat_lt column (columns_of f))) NotInFormat
    (decoded (carried_rows at column)))

-- by the number of the format: 3 where there is none
abbrev pub reading : ℕ → ℕ → ℕ → ℕ → (ℕ → ℕ → ℕ) → Result Block Fault
reading number column rows words at = then (accepted number) (λ f. reading_in f column rows words at)

-- what is accepted: there is a format of the number, the slab has its extent, it has the column, and the column carries a well-formed block
pub record Readable (number column rows words : ℕ) (at : ℕ → ℕ → ℕ) : Type 0 where
  pub format : Format
  pub numbered : accepted number ≡ Ok format
  pub slab : is_slab format rows words ≡ true
  pub column_there : column < columns_of format
  pub formed : WellFormed (carried_rows at column)

-- the rows differ from those of some well-formed block in one bit or more, all within two neighbouring rows
pub record BurstIn (rows : List ℕ) : Type 0 where
  pub sent : List ℕ
  pub first : ℕ
  pub sixteen : Rows 16 sent
  pub formed : WellFormed sent
  pub near : first ≤ 14
  pub alike : AlikeBut first sent rows
  pub differs : rows ≡ sent → ⊥
