-- A stripe of the bench picture once each of its macroblocks carries the block that it is to carry: `block` says which, by stripe and column.
use Rattle.std.specs.Prelude.{◌≡◌, ℕ, ◌+◌, ◌*◌, ◌/◌, ◌%◌, ◌<◌, ◌≤◌, Bool, false, Ok, Err, Result, ◌≢◌, count_by}
use Rattle.std.specs.List.{range_with_len}
use Rattle.fault.specs.declared.Fault.{Fault}
use Rattle.column.specs.Column.{carrying, carried_rows}
use Rattle.record.specs.declared.record.Block.{Block}
use Rattle.record.specs.Equality.{is_same_block}
use Rattle.block.specs.Code.{decoded}

-- an answer is the block, as a test
abbrev pub is_block : Result Block Fault → Block → Bool
is_block (Ok b) e = is_same_block b e
is_block (Err fault) e = false

module _ (block : ℕ → ℕ → Block) where
  -- what column c of the words carries is read as its block: as a fact, and as a test
  abbrev pub Reads : (ℕ → ℕ → ℕ) → ℕ → ℕ → Type 0
  Reads at stripe c = decoded (carried_rows at c) ≡ Ok (block stripe c)

  abbrev pub reads : (ℕ → ℕ → ℕ) → ℕ → ℕ → Bool
  reads at stripe c = is_block (decoded (carried_rows at c)) (block stripe c)

  -- how many of the first n columns are
  abbrev pub count_read : (ℕ → ℕ → ℕ) → ℕ → ℕ → ℕ
  count_read at stripe n = count_by (reads at stripe) (range_with_len 0 n)

  -- One column more is read as its block, and nothing moved but bit 0 of its even words: the slab has 16 rows of so many words.
  pub record Written (stripe column words : ℕ) (at at' : ℕ → ℕ → ℕ) : Type 0 where
    pub reads : Reads at' stripe column
    pub others : (c : ℕ) → (c ≢ column) → 32 * c + 32 ≤ words → carried_rows at' c ≡ carried_rows at c
    pub only : (i j : ℕ) → i < 16 → j < words → (at' i j / 2 ≡ at i j / 2) × (carrying column i j ≡ false → at' i j ≡ at i j)

  -- The first n columns of a slab of 16 rows of so many words are read as their blocks, and nothing moved but bit 0 of their even words.
  pub record Laden (stripe words n : ℕ) (at at' : ℕ → ℕ → ℕ) : Type 0 where
    pub reads : (c : ℕ) → c < n → Reads at' stripe c
    pub upper : (i j : ℕ) → i < 16 → j < words → at' i j / 2 ≡ at i j / 2
    pub luma : (i j : ℕ) → i < 16 → j < words → j % 2 ≡ 1 → at' i j ≡ at i j
    pub rest : (i j : ℕ) → i < 16 → j < words → 32 * n ≤ j → at' i j ≡ at i j
