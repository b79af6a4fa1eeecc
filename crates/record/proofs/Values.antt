-- A block and the values of its fields, there and back.
use Rattle.std.proofs.Common.{◌≡◌, ℕ, ◌^◌, ◌<◌, sym, arith}
use Rattle.record.specs.declared.record.Block.{Block}
use Rattle.record.specs.Layout.{Name, Sync, Mv000, Mv001, Mv010, Mv011, Mv100, Mv101, Mv110, Mv111, width_of, values_of, block_with, record_with}
use Rattle.record.specs.Rules.{Within}
use Rattle.record.specs.Laws.{Fitting}
use Rattle.record.proofs.Signs.{one_of_bit, bit_of_one, bit_small, twos_small, signed_of_twos, twos_of_signed, signed_fits}
use Rattle.record.proofs.Widths.{within}

ruleset small = (bit_small, twos_small)

ruleset back = (bit_of_one, twos_of_signed)

-- the values of a block that fits have the widths of their fields
pub values_small : (b : Block) → Fitting b → (n : Name) → values_of b n < 2 ^ width_of n
values_small b h Sync = omega arith
values_small b h _ = let w = within b.«record» h.widths in search small

-- a block is the one with the values of its fields
pub same_block : (b : Block) → Within b.«record» → block_with (values_of b) ≡ b
same_block b h = simp (one_of_bit, signed_of_twos, h.mv000, h.mv001, h.mv010, h.mv011, h.mv100, h.mv101, h.mv110, h.mv111)

module _ (values : Name → ℕ) (fit : (n : Name) → values n < 2 ^ width_of n) where
  -- the block with these values has them
  pub same_values : values Sync ≡ 31 → (n : Name) → values_of (block_with values) n ≡ values n
  same_values sync Sync = sym sync
  same_values sync n = let h = fit n in search back

  -- and its record is within the widths
  pub within_with : Within (record_with values)
  within_with = search (signed_fits, fit, fit Mv000, fit Mv001, fit Mv010, fit Mv011, fit Mv100, fit Mv101, fit Mv110, fit Mv111)
