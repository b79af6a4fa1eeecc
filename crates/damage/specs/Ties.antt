-- Each call is a step of a run. The definitions say what a call on any raster, table, image or counter means to every chain that it
-- could be a step of: from a chain that shows what was lent, it leads to the chain with what the call left, and answers as the chain does.
-- So calls one after another over any rasters are a run of the law. What a call is not lent it cannot change: the language sees to that.
use Rattle.std.specs.Prelude.{◌≡◌, ℕ, suc, ◌<◌, List, [], ◌∷◌, length, Some, None, Result}
use Rattle.fault.specs.declared.Fault.{Fault}
use Rattle.fault.specs.Refusing.{done}
use Rattle.record.specs.declared.record.Record.{Record}
use Rattle.record.specs.declared.record.Block.{Block}
use Rattle.slots.specs.declared.slot.Slot.{Slot}
use Rattle.format.specs.declared.table.Format.{Format}
use Rattle.image.specs.Image.{sealing, overwritten}
use Rattle.inserter.specs.Place.{placing, placed_at}
use Rattle.extractor.specs.declared.gathering.Gathering.{Gathering}
use Rattle.extractor.specs.Gather.{settled, gathered, elements_after, sheet_after}
use Rattle.damage.specs.Chain.{Grid, Picture, Chain, Image, with_picture, with_slab, with_sheet, with_table, with_image}
use Rattle.damage.specs.Calls.{Call, seal, opens, place, close, start, gather, deliver, Answer, silent, imaged, placed, started, brought, answer, after}
use Rattle.damage.specs.Runs.{run}
use Rattle.damage.specs.Rasters.{Shows, Like, trace}

-- the grid that a raster shows, by its ghost members
abbrev pub grid_of : {A : Type 0} → (A → ℕ) → (A → ℕ) → (A → ℕ → ℕ → ℕ) → A → Grid
grid_of rows words at x = record { rows = rows x; words = words x; word = at x }

-- a step of a run over rasters: the call leaves a chain like the one that the definitions lead to, which is what `Lives` asks, and answers as they say
pub record Step (one : Chain) (call : Call) (two : Chain) (said : Answer) : Type 0 where
  pub leaves : Like (after one call) two
  pub answers : answer one call ≡ said

-- steps one after another, with the answers that the callers got
pub data Steps : Chain → List Call → List Answer → Chain → Type 0 where
  ended : {one : Chain} → Steps one [] [] one
  onward : {one two last : Chain} {call : Call} {calls : List Call} {said : Answer} {heard : List Answer} → Step one call two said → Steps two calls heard last → Steps one (call ∷ calls) (said ∷ heard) last

-- They make a run: the chain shows what the run of the definitions leads to, and the answers are those of that run, of which the law speaks.
abbrev pub StepsMakeARun : Type 0
StepsMakeARun = (one last : Chain) (calls : List Call) (heard : List Answer) → Steps one calls heard last → Like (run one calls) last × (heard ≡ trace one calls)

-- a place in a picture of this format and first reference, on a slab that showed one grid and then another
abbrev pub PlaceStep : Format → ℕ → ℕ → ℕ → List ℕ → Record → Grid → Grid → Result (Unit {0}) Fault → Type 0
PlaceStep f first stripe column bytes r entry exit said =
    (ch : Chain) (p : Picture) (image : Image) →
    ch.format ≡ f → ch.picture ≡ Some p → p.first ≡ first → image.bytes ≡ bytes → Shows (ch.slab stripe) entry →
    Step ch (place stripe column image r) (with_slab ch stripe exit) (placed said)

-- some image of a run has these bytes, so that a place under it is a call of a run
abbrev pub IsImage : List ℕ → Type 0
IsImage bytes = (image : Image) × (image.bytes ≡ bytes)

-- a gather from a slab that shows a grid, with a table and a sheet that held one list of slots and then another
abbrev pub GatherStep : Gathering → ℕ → ℕ → Grid → List (Slot ℕ) → List (Slot ℕ) → List (Slot Record) → List (Slot Record) → Result Block Fault → Type 0
GatherStep g stripe column grid slots slots' sheet sheet' said =
    (ch : Chain) (t : ℕ) → Shows (ch.slab stripe) grid → ch.table t ≡ slots → ch.sheet stripe ≡ sheet →
    Step ch (gather g t stripe column) (with_sheet (with_table ch t slots') stripe sheet') (brought said)

-- a start on a table
abbrev pub StartStep : ℕ → ℕ → List (Slot ℕ) → List (Slot ℕ) → Result Gathering Fault → Type 0
StartStep number first slots slots' said =
    (ch : Chain) (t : ℕ) → ch.table t ≡ slots → Step ch (start t number first) (with_table ch t slots') (started said)

-- a deliver from a table to an image, and a seal of data
abbrev pub DeliverStep : List (Slot ℕ) → List ℕ → List ℕ → Result (Unit {0}) Fault → Type 0
DeliverStep slots bytes bytes' said =
    (ch : Chain) (t i : ℕ) → ch.table t ≡ slots → ch.image i ≡ bytes → Step ch (deliver t i) (with_image ch i bytes') (imaged said)

abbrev pub SealStep : List ℕ → List ℕ → List ℕ → Result (Unit {0}) Fault → Type 0
SealStep given bytes bytes' said =
    (ch : Chain) (i : ℕ) → ch.image i ≡ bytes → Step ch (seal given i) (with_image ch i bytes') (imaged said)

-- an opening, with a counter of this format and next reference, of a picture of that format and first reference
abbrev pub OpenStep : Format → ℕ → Format → ℕ → Type 0
OpenStep f next g first =
    (ch : Chain) → ch.format ≡ f → ch.next ≡ next → ch.picture ≡ None →
    (ch.format ≡ g) × Step ch opens (with_picture ch ch.next (suc ch.opened) (Some (record { ordinal = ch.opened; first = first }))) silent

-- the end of a picture of this format and first reference, which leaves the counter at the next one's first
abbrev pub CloseStep : Format → ℕ → ℕ → Type 0
CloseStep f first next =
    (ch : Chain) (p : Picture) → ch.format ≡ f → ch.picture ≡ Some p → p.first ≡ first →
    Step ch close (with_picture ch next ch.opened None) silent

-- what the contracts of place, gather and seal say, of grids and lists alone
pub record Places (f : Format) (first stripe column : ℕ) (bytes : List ℕ) (r : Record) (entry exit : Grid) (said : Result (Unit {0}) Fault) : Type 0 where
  pub answer : said ≡ done (placing f first stripe column entry.rows entry.words bytes r)
  pub rows : exit.rows ≡ entry.rows
  pub words : exit.words ≡ entry.words
  pub word : (i j : ℕ) → i < entry.rows → j < entry.words → exit.word i j ≡ placed_at (placing f first stripe column entry.rows entry.words bytes r) entry.word column i j

pub record Gathers (g : Gathering) (stripe column : ℕ) (grid : Grid) (slots slots' : List (Slot ℕ)) (sheet sheet' : List (Slot Record)) (said : Result Block Fault) : Type 0 where
  pub answer : said ≡ gathered g stripe column grid.rows grid.words grid.word (length slots) (length sheet)
  pub slots_after : slots' ≡ settled said slots (elements_after stripe column slots)
  pub sheet_at_end : sheet' ≡ settled said sheet (sheet_after column sheet)

pub record Seals (given bytes bytes' : List ℕ) (said : Result (Unit {0}) Fault) : Type 0 where
  pub answer : said ≡ done (sealing given)
  pub image : bytes' ≡ overwritten (sealing given) bytes
