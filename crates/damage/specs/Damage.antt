-- Damage stays where it falls: the law over runs. A set of macroblocks is any test of stripe and column.
use Rattle.std.specs.Prelude.{◌≡◌, ℕ, ◌/◌, ◌<◌, ◌≤◌, Bool, true, false, ◌⊎◌, List, [], ◌∷◌, ◌++◌, length, is_ok, Ok, Err, Result, ◌≢◌}
use Rattle.fault.specs.declared.Fault.{Fault}
use Rattle.crc.specs.Burst.{AlikeBut}
use Rattle.record.specs.declared.record.Record.{Record}
use Rattle.record.specs.declared.record.Block.{Block}
use Rattle.format.specs.Formats.{number_of, columns_of, stripes_of, carriers_of, in_format, index_of}
use Rattle.format.specs.Carriers.{count}
use Rattle.image.specs.Elements.{element_of}
use Rattle.extractor.specs.declared.gathering.Gathering.{Gathering}
use Rattle.damage.specs.Chain.{Picture, Chain, Image}
use Rattle.damage.specs.Calls.{Call, seal, opens, place, close, start, gather, deliver, paint, imaged, started, brought, answer, after, gathered_on}
use Rattle.damage.specs.Runs.{New, run, answers, slot_of, carried_by, NonePainted, LastPlaced, carried_then}
use Rattle.damage.specs.Rasters.{Covers}

-- the words of a macroblock are the same on two chains
abbrev pub SameWords : Chain → Chain → ℕ → ℕ → Type 0
SameWords one two s c = (i j : ℕ) → i < (one.slab s).rows → j < (one.slab s).words → j / 32 ≡ c → (one.slab s).word i j ≡ (two.slab s).word i j

-- two new chains that differ at most in words inside the set, in the contents of tables, and in images (sheets of one length are the same,
-- since a new chain's are cleared)
pub record Beside (S : ℕ → ℕ → Bool) (one two : Chain) : Type 0 where
  pub format : one.format ≡ two.format
  pub next : one.next ≡ two.next
  pub rows : (s : ℕ) → (one.slab s).rows ≡ (two.slab s).rows
  pub words : (s : ℕ) → (one.slab s).words ≡ (two.slab s).words
  pub sheets : (s : ℕ) → length (one.sheet s) ≡ length (two.sheet s)
  pub tables : (t : ℕ) → length (one.table t) ≡ length (two.table t)
  pub outside : (s c : ℕ) → S s c ≡ false → SameWords one two s c

-- the same call in both runs, but for the record of a place and the words of a paint inside the set (a paint leaves 32 words a row)
pub data Alike (S : ℕ → ℕ → Bool) : Call → Call → Type 0 where
  seals : (bytes : List ℕ) (i : ℕ) → Alike S (seal bytes i) (seal bytes i)
  openings : Alike S opens opens
  places : (s c : ℕ) (image : Image) (x y : Record) → (S s c ≡ false → x ≡ y) → Alike S (place s c image x) (place s c image y)
  closes : Alike S close close
  starts : (t number first : ℕ) → Alike S (start t number first) (start t number first)
  gathers : (g : Gathering) (t s c : ℕ) → Alike S (gather g t s c) (gather g t s c)
  delivers : (t i : ℕ) → Alike S (deliver t i) (deliver t i)
  paints : (s c : ℕ) (x y : ℕ → ℕ → ℕ) → (S s c ≡ false → (i j : ℕ) → j < 32 → x i j ≡ y i j) → Alike S (paint s c x) (paint s c y)

pub data AlikeRuns (S : ℕ → ℕ → Bool) : List Call → List Call → Type 0 where
  end : AlikeRuns S [] []
  more : {a b : Call} {xs ys : List Call} → Alike S a b → AlikeRuns S xs ys → AlikeRuns S (a ∷ xs) (b ∷ ys)

-- Apart: whatever befalls a set of macroblocks, each macroblock outside has the same words, answers and slot in both runs.
abbrev pub Apart : Type 0
Apart =
    (S : ℕ → ℕ → Bool) (one two : Chain) → New one → New two → Beside S one two →
    (xs ys : List Call) → AlikeRuns S xs ys →
    (s c : ℕ) → S s c ≡ false →
    SameWords (run one xs) (run two ys) s c
    × (answers one xs s c ≡ answers two ys s c)
    × (slot_of (run one xs) s c ≡ slot_of (run two ys) s c)

-- the last placing was in this picture, under this image, and no paint fell on the macroblock since
abbrev pub Intact : Chain → List Call → ℕ → ℕ → Picture → List ℕ → Type 0
Intact new calls s c p image = (l : LastPlaced new calls s c) × (l.picture ≡ p) × (l.image.bytes ≡ image) × NonePainted l.later s c

-- the call leaves table t to gathering g: it is no accepted start on the table, and no accepted gather on it by another gathering
abbrev pub Undisturbed : Chain → ℕ → Gathering → Call → Type 0
Undisturbed ch t g (seal bytes i) = Unit {0}
Undisturbed ch t g opens = Unit {0}
Undisturbed ch t g (place s c image r) = Unit {0}
Undisturbed ch t g close = Unit {0}
Undisturbed ch t g (start u number first) = (h : Gathering) → answer ch (start u number first) ≡ started (Ok h) → u ≢ t
Undisturbed ch t g (gather h u s c) = (b : Block) → answer ch (gather h u s c) ≡ brought (Ok b) → u ≡ t → h ≡ g
Undisturbed ch t g (deliver u i) = Unit {0}
Undisturbed ch t g (paint s c left) = Unit {0}

-- the gather was accepted and brought this element
abbrev pub Brings : Result Block Fault → ℕ → Type 0
Brings (Ok b) e = b.element ≡ e
Brings (Err fault) e = ⊥

-- the gathering with the inserter's format and a picture's first reference, and the start that begins it on a table
abbrev pub gathering_of : Chain → Picture → Gathering
gathering_of new p = record { format = new.format; first = p.first }

abbrev pub start_of : Chain → ℕ → Picture → Call
start_of new t p = start t (number_of new.format) p.first

-- the run up to the start, and on from there through some more calls
abbrev pub since : Chain → List Call → ℕ → Picture → List Call → List Call
since new earlier t p calls = earlier ++ start_of new t p ∷ calls

-- Picture p was gathered on table t by the calls since a start, but for what befell the macroblocks of S.
pub record Gathered (new : Chain) (earlier between : List Call) (t : ℕ) (p : Picture) (image : Image) (S : ℕ → ℕ → Bool) : Type 0 where
  -- the start, with the format and the first reference of the picture, was accepted
  pub accepted : answer (run new earlier) (start_of new t p) ≡ started (Ok (gathering_of new p))
  -- no other gathering wrote the table since
  pub undisturbed : (x y : List Call) (call : Call) → between ≡ x ++ call ∷ y → Undisturbed (run new (since new earlier t p x)) t (gathering_of new p) call
  -- the sheets have one slot a column
  pub sheets : (s : ℕ) → s < stripes_of new.format → length (new.sheet s) ≡ columns_of new.format
  -- each macroblock of the format outside the set was gathered at least once
  pub each : (s c : ℕ) → in_format new.format s c ≡ true → S s c ≡ false →
      (x : List Call) × (y : List Call) × (between ≡ x ++ gather (gathering_of new p) t s c ∷ y)
  -- ahead of each gather of one, its last placing was in the picture, under the image, with no paint since
  pub outside : (x y : List Call) (s c : ℕ) → between ≡ x ++ gather (gathering_of new p) t s c ∷ y →
      in_format new.format s c ≡ true → S s c ≡ false →
      Intact new (since new earlier t p x) s c p image.bytes
  -- each gather inside was refused or brought the sealed element
  pub inside : (x y : List Call) (s c : ℕ) → between ≡ x ++ gather (gathering_of new p) t s c ∷ y → S s c ≡ true →
      (is_ok (gathered_on (run new (since new earlier t p x)) (gathering_of new p) t s c) ≡ false)
      ⊎ Brings (gathered_on (run new (since new earlier t p x)) (gathering_of new p) t s c) (element_of image.bytes (index_of s c))

-- Survives: if fewer macroblocks than the format's carriers are in the set, deliver accepts, and its image is the sealed one in every byte.
abbrev pub Survives : Type 0
Survives =
    (new : Chain) → New new → (earlier between : List Call) (t : ℕ) (p : Picture) (image : Image) (S : ℕ → ℕ → Bool) (i : ℕ) →
    count new.format S < carriers_of new.format →
    Gathered new earlier between t p image S →
    (answer (run new (since new earlier t p between)) (deliver t i) ≡ imaged (Ok tt))
    × ((after (run new (since new earlier t p between)) (deliver t i)).image i ≡ image.bytes)

-- Never unnoticed: a gather is refused if what the macroblock carries differs from what it carried when last placed, in one bit or more, all
-- within rows n and n + 1. Any gather: of any format and first reference, on any table, started or not.
abbrev pub NeverUnnoticed : Type 0
NeverUnnoticed =
    (new : Chain) → New new → (calls : List Call) (g : Gathering) (t s c : ℕ) (l : LastPlaced new calls s c) →
    (n : ℕ) → n ≤ 14 → AlikeBut n (carried_then l) (carried_by (run new calls) s c) → (carried_by (run new calls) s c ≢ carried_then l) →
    is_ok (gathered_on (run new calls) g t s c) ≡ false

-- the law
pub record DamageStaysWhereItFalls : Type 0 where
  pub apart : Apart
  pub survives : Survives
  pub unnoticed : NeverUnnoticed
  pub covers : Covers
