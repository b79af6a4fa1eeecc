-- The chain that a run moves through: an inserter, a slab and a sheet for each stripe, tables of elements, and images.
use Rattle.std.specs.Prelude.{ℕ, ◌/◌, ◌%◌, cond, List, Option, ◌==◌}
use Rattle.record.specs.declared.record.Record.{Record}
use Rattle.slots.specs.declared.slot.Slot.{Slot}
use Rattle.format.specs.declared.table.Format.{Format}
use Rattle.image.specs.Image.{Sealed}
use Rattle.image.specs.Elements.{Bytes}

-- what a raster shows: its rows, its words a row, and the word at a row and a place
pub record Grid : Type 0 where
  pub rows : ℕ
  pub words : ℕ
  pub word : ℕ → ℕ → ℕ

-- a picture of a run: the how-manieth that was opened, from 0, and its first reference
pub record Picture : Type 0 where
  pub ordinal : ℕ
  pub first : ℕ

-- The inserter has a format, the first reference of its next picture, how many pictures it has opened, and the one that is open, if
-- any. Each stripe has one slab and one sheet. Tables and images are as many as one likes, by number.
pub record Chain : Type 0 where
  pub format : Format
  pub next : ℕ
  pub opened : ℕ
  pub picture : Option Picture
  pub slab : ℕ → Grid
  pub sheet : ℕ → List (Slot Record)
  pub table : ℕ → List (Slot ℕ)
  pub image : ℕ → List ℕ

-- an image that a place can be called with: 540 bytes that are sealed
pub record Image : Type 0 where
  pub bytes : List ℕ
  pub shape : Bytes bytes
  pub fit : Sealed bytes

-- f with another value at one number
abbrev pub put : {A : Type 0} → (ℕ → A) → ℕ → A → ℕ → A
put f k a j = cond (j == k) a (f j)

-- the chain with other parts
abbrev pub with_picture : Chain → ℕ → ℕ → Option Picture → Chain
with_picture ch next opened p =
    record { format = ch.format; next = next; opened = opened; picture = p; slab = ch.slab; sheet = ch.sheet; table = ch.table; image = ch.image }

abbrev pub with_slab : Chain → ℕ → Grid → Chain
with_slab ch stripe g =
    record { format = ch.format; next = ch.next; opened = ch.opened; picture = ch.picture; slab = put ch.slab stripe g; sheet = ch.sheet; table = ch.table; image = ch.image }

abbrev pub with_sheet : Chain → ℕ → List (Slot Record) → Chain
with_sheet ch stripe slots =
    record { format = ch.format; next = ch.next; opened = ch.opened; picture = ch.picture; slab = ch.slab; sheet = put ch.sheet stripe slots; table = ch.table; image = ch.image }

abbrev pub with_table : Chain → ℕ → List (Slot ℕ) → Chain
with_table ch t slots =
    record { format = ch.format; next = ch.next; opened = ch.opened; picture = ch.picture; slab = ch.slab; sheet = ch.sheet; table = put ch.table t slots; image = ch.image }

abbrev pub with_image : Chain → ℕ → List ℕ → Chain
with_image ch i bytes =
    record { format = ch.format; next = ch.next; opened = ch.opened; picture = ch.picture; slab = ch.slab; sheet = ch.sheet; table = ch.table; image = put ch.image i bytes }

-- the grid with other words
abbrev pub with_words : Grid → (ℕ → ℕ → ℕ) → Grid
with_words g word = record { rows = g.rows; words = g.words; word = word }

-- the words after others changed the macroblock of a column, any of its words in any row: `left` has the words that they leave there
abbrev pub painted : (ℕ → ℕ → ℕ) → ℕ → (ℕ → ℕ → ℕ) → ℕ → ℕ → ℕ
painted word column left i j = cond (j / 32 == column) (left i (j % 32)) (word i j)
