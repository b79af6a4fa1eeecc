-- Runs of calls, and what one can ask of a run and a macroblock. A macroblock is a stripe and a column.
use Rattle.std.specs.Prelude.{◌≡◌, ℕ, Bool, false, cond, ◌&&◌, List, [], ◌∷◌, ◌++◌, Some, None, Ok, ◌==◌, ◌≢◌, slice_index_or}
use Rattle.column.specs.Column.{carried_rows}
use Rattle.record.specs.declared.record.Record.{Record}
use Rattle.slots.specs.declared.slot.Slot.{Slot}
use Rattle.slots.specs.declared.slot.Slot.TheVariants.{Empty}
use Rattle.slots.specs.Slots.{cleared}
use Rattle.inserter.specs.Count.{begun}
use Rattle.damage.specs.Chain.{Picture, Chain, Image}
use Rattle.damage.specs.Calls.{Call, seal, opens, place, close, start, gather, deliver, paint, Answer, placed, answer, after}

-- A chain before the first call: its inserter is new and was accepted, and the sheets are cleared. Slabs have any extents and any words,
-- and tables, sheets and images any lengths; tables and images have any contents.
pub record New (ch : Chain) : Type 0 where
  pub number : ℕ
  pub first : ℕ
  pub accepted : begun number first ≡ Ok (ch.format, ch.next)
  pub none_opened : ch.opened ≡ 0
  pub none_open : ch.picture ≡ None
  pub sheets : (stripe : ℕ) → ch.sheet stripe ≡ cleared (ch.sheet stripe)

-- where a run of calls leads
abbrev pub run : Chain → List Call → Chain
run ch [] = ch
run ch (call ∷ calls) = run (after ch call) calls

-- the call is a place on this macroblock, or a gather of it
abbrev pub concerns : ℕ → ℕ → Call → Bool
concerns s c (seal bytes i) = false
concerns s c opens = false
concerns s c (place stripe column image r) = stripe == s && column == c
concerns s c close = false
concerns s c (start t number first) = false
concerns s c (gather g t stripe column) = stripe == s && column == c
concerns s c (deliver t i) = false
concerns s c (paint stripe column left) = false

-- the answers that a macroblock got, in order: those of its places and gathers
abbrev pub answers : Chain → List Call → ℕ → ℕ → List Answer
answers ch [] s c = []
answers ch (call ∷ calls) s c = cond (concerns s c call) (answer ch call ∷ answers (after ch call) calls s c) (answers (after ch call) calls s c)

-- its slot on its stripe's sheet
abbrev pub slot_of : Chain → ℕ → ℕ → Slot Record
slot_of ch s c = slice_index_or (ch.sheet s) c Empty

-- the rows that it carries: 16 rows of 16 bits
abbrev pub carried_by : Chain → ℕ → ℕ → List ℕ
carried_by ch s c = carried_rows (ch.slab s).word c

-- no place on the macroblock was accepted in these calls
abbrev pub NonePlaced : Chain → List Call → ℕ → ℕ → Type 0
NonePlaced ch calls s c =
    (x y : List Call) (image : Image) (r : Record) → calls ≡ x ++ place s c image r ∷ y → answer (run ch x) (place s c image r) ≢ placed (Ok tt)

-- no paint fell on it in these calls, not even one that changes nothing
abbrev pub NonePainted : List Call → ℕ → ℕ → Type 0
NonePainted calls s c = (x y : List Call) (left : ℕ → ℕ → ℕ) → calls ≢ x ++ paint s c left ∷ y

-- The last placing of the macroblock in a run: a place on it that was accepted, in the picture then open, and no later one was.
pub record LastPlaced (new : Chain) (calls : List Call) (s c : ℕ) : Type 0 where
  pub earlier : List Call
  pub image : Image
  pub entry : Record
  pub later : List Call
  pub stands : calls ≡ earlier ++ place s c image entry ∷ later
  pub picture : Picture
  pub during : (run new earlier).picture ≡ Some picture
  pub accepted : answer (run new earlier) (place s c image entry) ≡ placed (Ok tt)
  pub last : NonePlaced (run new (earlier ++ place s c image entry ∷ [])) later s c

-- the rows that the macroblock carried right after it
abbrev pub carried_then : {new : Chain} {calls : List Call} {s c : ℕ} → LastPlaced new calls s c → List ℕ
carried_then {new} {calls} {s} {c} l = carried_by (run new (l.earlier ++ place s c l.image l.entry ∷ [])) s c
