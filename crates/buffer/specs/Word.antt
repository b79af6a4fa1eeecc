-- The word buffer: a word in each sixteen-bit cell, row after row.
use Rattle.std.specs.Prelude.{◌≡◌, ℕ, ◌*◌, ◌/◌, ◌%◌, ◌<◌, ◌≤◌, Bool, List, slice_index}
use Rattle.std.proofs.Common.{arith}
use Rattle.raster.specs.Meaning.{with_bit}
use Rattle.raster.specs.declared.extent.Extent.{Extent}
use Rattle.buffer.specs.Size.{cells_of}

pub cells_enough : (e : Extent) → e.words % 4 ≡ 0 → e.rows * e.words ≤ cells_of e
cells_enough e f = omega arith

-- the cell of the n-th word
abbrev pub own_cell : ℕ → ℕ
own_cell n = n

pub cells_within : (e : Extent) (n : ℕ) → e.words % 4 ≡ 0 → n < e.rows * e.words → own_cell n < cells_of e
cells_within e n f h = h

-- the n-th word: the low ten bits of its cell
abbrev pub cell_word : List ℕ → ℕ → ℕ
cell_word m n = slice_index m n % 1024

pub cell_ten : (m : List ℕ) (n : ℕ) → cell_word m n < 1024
cell_ten m n = omega arith

-- all of the n-th word's cell but bit 0
abbrev pub cell_above : List ℕ → ℕ → ℕ
cell_above m n = slice_index m n / 2

-- the n-th word's cell after a set
abbrev pub cell_written : List ℕ → ℕ → Bool → ℕ
cell_written m n bit = with_bit (slice_index m n) bit
