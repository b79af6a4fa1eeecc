-- The calls of a run: what each answers and what it leaves. Answers and memories are those that the contracts of the calls define.
use Rattle.std.specs.Prelude.{ℕ, suc, List, length, Some, None, Option, Result}
use Rattle.fault.specs.declared.Fault.{Fault}
use Rattle.fault.specs.Refusing.{done}
use Rattle.record.specs.declared.record.Record.{Record}
use Rattle.record.specs.declared.record.Block.{Block}
use Rattle.slots.specs.Slots.{cleared}
use Rattle.format.specs.Formats.{next_first}
use Rattle.image.specs.Image.{sealing}
use Rattle.inserter.specs.Place.{placing, placed_at}
use Rattle.extractor.specs.declared.gathering.Gathering.{Gathering}
use Rattle.extractor.specs.Gather.{settled, starting, gathered, elements_after, sheet_after}
use Rattle.extractor.specs.Delivery.{delivering}
use Rattle.damage.specs.Chain.{Picture, Chain, Image, with_picture, with_slab, with_sheet, with_table, with_image, with_words, painted}

-- Slabs and sheets go by their stripe, tables and images by number. A place has its image as an argument, by its bytes at the call. A gather
-- has the gathering that a start answered. Paint is no call: others leave other words in a macroblock.
pub data Call : Type 0 where
  seal : List ℕ → ℕ → Call  -- data, and the image to overwrite
  opens : Call
  place : ℕ → ℕ → Image → Record → Call  -- stripe, column, image, record
  close : Call
  start : ℕ → ℕ → ℕ → Call  -- table, number of the format, first reference
  gather : Gathering → ℕ → ℕ → ℕ → Call  -- gathering, table, stripe, column
  deliver : ℕ → ℕ → Call  -- table, and the image to overwrite
  paint : ℕ → ℕ → (ℕ → ℕ → ℕ) → Call  -- stripe, column, the words left there

-- Place and close come only while a picture is open, and open only while none is: the build refuses all else. Such a call leaves
-- the chain and answers that it cannot be.
pub data Answer : Type 0 where
  unbuilt : Answer
  silent : Answer  -- open, close and paint
  imaged : Result (Unit {0}) Fault → Answer  -- seal and deliver
  placed : Result (Unit {0}) Fault → Answer
  started : Result Gathering Fault → Answer
  brought : Result Block Fault → Answer  -- gather

-- what a place judges in a picture, and what a gather judges
abbrev pub placing_on : Chain → Picture → ℕ → ℕ → List ℕ → Record → Result Block Fault
placing_on ch p stripe column image r = placing ch.format p.first stripe column (ch.slab stripe).rows (ch.slab stripe).words image r

abbrev pub gathered_on : Chain → Gathering → ℕ → ℕ → ℕ → Result Block Fault
gathered_on ch g t stripe column =
    gathered g stripe column (ch.slab stripe).rows (ch.slab stripe).words (ch.slab stripe).word (length (ch.table t)) (length (ch.sheet stripe))

abbrev pub open_answer : Option Picture → Answer
open_answer None = silent
open_answer (Some p) = unbuilt

abbrev pub place_answer : Option Picture → Chain → ℕ → ℕ → List ℕ → Record → Answer
place_answer None ch stripe column image r = unbuilt
place_answer (Some p) ch stripe column image r = placed (done (placing_on ch p stripe column image r))

abbrev pub close_answer : Option Picture → Answer
close_answer None = unbuilt
close_answer (Some p) = silent

abbrev pub answer : Chain → Call → Answer
answer ch (seal bytes i) = imaged (done (sealing bytes))
answer ch opens = open_answer ch.picture
answer ch (place stripe column image r) = place_answer ch.picture ch stripe column image.bytes r
answer ch close = close_answer ch.picture
answer ch (start t number first) = started (starting number first (length (ch.table t)))
answer ch (gather g t stripe column) = brought (gathered_on ch g t stripe column)
answer ch (deliver t i) = imaged (done (delivering (ch.table t)))
answer ch (paint stripe column left) = silent

-- a picture opens at the next reference
abbrev pub open_after : Option Picture → Chain → Chain
open_after None ch = with_picture ch ch.next (suc ch.opened) (Some (record { ordinal = ch.opened; first = ch.next }))
open_after (Some p) ch = ch

-- every way out of a picture: the next begins after all its macroblocks
abbrev pub close_after : Option Picture → Chain → Chain
close_after None ch = ch
close_after (Some p) ch = with_picture ch (next_first ch.format p.first) ch.opened None

-- the slab of the stripe shows the words that an accepted place leaves
abbrev pub place_after : Option Picture → Chain → ℕ → ℕ → List ℕ → Record → Chain
place_after None ch stripe column image r = ch
place_after (Some p) ch stripe column image r =
    with_slab ch stripe (with_words (ch.slab stripe) (placed_at (placing_on ch p stripe column image r) (ch.slab stripe).word column))

-- an accepted start clears its table
abbrev pub start_after : Chain → ℕ → Chain
start_after ch t = with_table ch t (cleared (ch.table t))

-- an accepted gather offers the element to its table and the record to the stripe's sheet
abbrev pub gather_after : Chain → ℕ → ℕ → ℕ → Block → Chain
gather_after ch t stripe column b =
    with_sheet (with_table ch t (elements_after stripe column (ch.table t) b)) stripe (sheet_after column (ch.sheet stripe) b)

abbrev pub after : Chain → Call → Chain
after ch (seal bytes i) = settled (sealing bytes) ch (with_image ch i)
after ch opens = open_after ch.picture ch
after ch (place stripe column image r) = place_after ch.picture ch stripe column image.bytes r
after ch close = close_after ch.picture ch
after ch (start t number first) = settled (starting number first (length (ch.table t))) ch (λ _. start_after ch t)
after ch (gather g t stripe column) = settled (gathered_on ch g t stripe column) ch (gather_after ch t stripe column)
after ch (deliver t i) = settled (delivering (ch.table t)) ch (with_image ch i)
after ch (paint stripe column left) = with_slab ch stripe (with_words (ch.slab stripe) (painted (ch.slab stripe).word column left))
