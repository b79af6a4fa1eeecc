-- A block as 16 rows of 16 bits: 14 data rows and the check over them, the high half first.
use Rattle.std.specs.Prelude.{◌≡◌, ℕ, ◌≤◌, true, false, not, List, take, is_ok, Ok, Result, ◌≢◌, nat_lt}
use Rattle.fault.specs.declared.Fault.{Fault}
use Rattle.fault.specs.declared.Fault.TheVariants.{Sync, BlockCheck, ReservedBit, ReferenceRange, RecordRule}
use Rattle.fault.specs.Refusing.{refuse, then}
use Rattle.crc.specs.Burst.{Rows, AlikeBut, CheckFits, check_fits, with_check}
use Rattle.record.specs.declared.record.Block.{Block}
use Rattle.record.specs.Layout.{data_rows, block_of, has_sync, reserved_clear}
use Rattle.record.specs.Rules.{keeps_rules, checked}

-- the rows of a block
abbrev pub rows_of : Block → List ℕ
rows_of b = with_check (data_rows b)

-- encoding: 12 and 17 for the record, else the rows
abbrev pub encoded : Block → Result (List ℕ) Fault
encoded b = then (checked b.«record») (λ _. Ok (rows_of b))

-- the block that rows spell, in their first 14
abbrev pub block_in : List ℕ → Block
block_in rows = block_of (take 14 rows)

-- decoding: 13, 14, 15, 16, 17, else the block
abbrev pub decoded : List ℕ → Result Block Fault
decoded rows =
    refuse (not (has_sync (take 14 rows))) Sync
    (refuse (not (check_fits rows)) BlockCheck
    (refuse (not (reserved_clear (take 14 rows))) ReservedBit
    (refuse (nat_lt 65520 (block_in rows).reference) ReferenceRange
    (refuse (not (keeps_rules (block_in rows).«record»)) RecordRule
    (Ok (block_in rows))))))

-- Well formed: the sync code is 11111, the check fits, the reserved bits are 0, the reference is at most 65520, and the record keeps the rules.
pub record WellFormed (rows : List ℕ) : Type 0 where
  pub sync : has_sync (take 14 rows) ≡ true
  pub check : CheckFits rows
  pub reserved : reserved_clear (take 14 rows) ≡ true
  pub reference : (block_in rows).reference ≤ 65520
  pub rules : keeps_rules (block_in rows).«record» ≡ true

-- rows that differ from these within two neighbouring rows, and only there, are not read as a block
abbrev pub NoneNear : List ℕ → Type 0
NoneNear rows = (others : List ℕ) (n : ℕ) → Rows 16 others → n ≤ 14 → AlikeBut n rows others → (others ≢ rows) → is_ok (decoded others) ≡ false

-- no other rows are read as this block
abbrev pub OnlyThese : List ℕ → Block → Type 0
OnlyThese rows b = (others : List ℕ) → Rows 16 others → decoded others ≡ Ok b → others ≡ rows
