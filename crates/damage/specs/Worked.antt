-- Runs that show that no part of the law is empty. Some say what the law concludes, with premises on chain, image and record alone: the
-- picture comes back, stained or not, and a turned bit is noticed. Others have the law's own premises as facts: `Gathered` in two
-- pictures of which every macroblock is gathered, and those of NeverUnnoticed wherever a bit is turned.
use Rattle.std.specs.Prelude.{◌≡◌, ℕ, ◌+◌, ◌-◌, ◌*◌, ◌/◌, ◌%◌, ◌<◌, ◌≤◌, Bool, true, false, cond, not, ◌&&◌, List, [], ◌∷◌, ◌++◌, map, length, replicate, is_ok, None, Ok, filter, Result, ◌==◌}
use Rattle.std.specs.List.{range_with_len, AllByRecursion}
use Rattle.fault.specs.declared.Fault.{Fault}
use Rattle.crc.specs.Burst.{AlikeBut}
use Rattle.record.specs.declared.record.Record.{Record}
use Rattle.record.specs.declared.record.Block.{Block}
use Rattle.record.specs.Rules.{checked}
use Rattle.slots.specs.declared.slot.Slot.TheVariants.{Empty}
use Rattle.format.specs.declared.table.Format.{Format}
use Rattle.format.specs.declared.table.Format.TheVariants.{Frame720}
use Rattle.format.specs.Formats.{columns_of, stripes_of, carriers_of, frame_of, macroblocks_of, is_slab, in_format, index_of, element_count}
use Rattle.format.specs.Carriers.{count}
use Rattle.image.specs.Elements.{element_of}
use Rattle.image.specs.Image.{is_frame, blank_image}
use Rattle.inserter.specs.Place.{agrees}
use Rattle.extractor.specs.declared.gathering.Gathering.{Gathering}
use Rattle.damage.specs.Chain.{Picture, Chain, Image}
use Rattle.damage.specs.Calls.{Call, opens, place, close, gather, deliver, paint, imaged, answer, after, gathered_on}
use Rattle.damage.specs.Runs.{New, run, carried_by, LastPlaced, carried_then}
use Rattle.damage.specs.Damage.{Brings, Gathered, gathering_of, since}

-- all macroblocks of a format, along the stripes
unfoldable pub macroblocks : Format → List (ℕ × ℕ)
macroblocks f = map (λ k. (k / columns_of f, k % columns_of f)) (range_with_len 0 (macroblocks_of f))

-- those outside a set
abbrev pub outside : (ℕ → ℕ → Bool) → List (ℕ × ℕ) → List (ℕ × ℕ)
outside S ms = filter (λ m. not (S m.0 m.1)) ms

abbrev pub places_of : List (ℕ × ℕ) → Image → Record → List Call
places_of ms image r = map (λ m. place m.0 m.1 image r) ms

abbrev pub gathers_of : List (ℕ × ℕ) → Gathering → ℕ → List Call
gathers_of ms g t = map (λ m. gather g t m.0 m.1) ms

-- what others leave in a macroblock
pub record Stain : Type 0 where
  pub stripe : ℕ
  pub column : ℕ
  pub left : ℕ → ℕ → ℕ

abbrev pub paints_of : List Stain → List Call
paints_of stains = map (λ x. paint x.stripe x.column x.left) stains

-- the first picture of a new chain
abbrev pub first_picture : Chain → Picture
first_picture new = record { ordinal = new.opened; first = new.next }

-- slabs, sheets and a table as the chain's format wants them
pub record Fitted (new : Chain) (t : ℕ) : Type 0 where
  pub slabs : (s : ℕ) → s < stripes_of new.format → is_slab new.format (new.slab s).rows (new.slab s).words ≡ true
  pub sheets : (s : ℕ) → s < stripes_of new.format → length (new.sheet s) ≡ columns_of new.format
  pub table : length (new.table t) ≡ element_count

-- One picture: every macroblock is placed, then some are stained, then some are gathered.
abbrev pub placed_and_stained : Chain → Image → Record → List Stain → List Call
placed_and_stained new image r stains = opens ∷ places_of (macroblocks new.format) image r ++ close ∷ paints_of stains

abbrev pub gathers_in : Chain → ℕ → List (ℕ × ℕ) → List Call
gathers_in new t ms = gathers_of ms (gathering_of new (first_picture new)) t

abbrev pub one_picture : Chain → ℕ → Image → Record → List Stain → List (ℕ × ℕ) → List Call
one_picture new t image r stains ms = since new (placed_and_stained new image r stains) t (first_picture new) (gathers_in new t ms)

-- deliver accepts after these calls, and gives this image
abbrev pub Delivers : Chain → List Call → ℕ → List ℕ → Type 0
Delivers new calls t bytes = (i : ℕ) → (answer (run new calls) (deliver t i) ≡ imaged (Ok tt)) × ((after (run new calls) (deliver t i)).image i ≡ bytes)

-- With no damage the image comes back, in every format.
abbrev pub ComesBack : Type 0
ComesBack =
    (new : Chain) → New new → (t : ℕ) → Fitted new t →
    (image : Image) → agrees (is_frame image.bytes) (frame_of new.format) ≡ true → (r : Record) → checked r ≡ Ok tt →
    Delivers new (one_picture new t image r [] (macroblocks new.format)) t image.bytes

-- It comes back too where fewer macroblocks than the carriers are stained in any way and never gathered.
abbrev pub ComesBackStained : Type 0
ComesBackStained =
    (new : Chain) → New new → (t : ℕ) → Fitted new t →
    (image : Image) → agrees (is_frame image.bytes) (frame_of new.format) ≡ true → (r : Record) → checked r ≡ Ok tt →
    (S : ℕ → ℕ → Bool) → count new.format S < carriers_of new.format → (stains : List Stain) → AllByRecursion (λ x. S x.stripe x.column ≡ true) stains →
    Delivers new (one_picture new t image r stains (outside S (macroblocks new.format))) t image.bytes

-- a chain of a format, fitted to it, with grey slabs
abbrev pub grey_chain : Format → Chain
grey_chain f =
    record {
      format = f;
      next = 0;
      opened = 0;
      picture = None;
      slab = λ _. record { rows = 16; words = 32 * columns_of f; word = λ _ _. 512 };
      sheet = λ _. replicate (columns_of f) Empty;
      table = λ _. replicate element_count Empty;
      image = λ _. [];
    }

abbrev pub is_first : ℕ → ℕ → Bool
is_first s c = s == 0 && c == 0

-- Such a run with nothing left open: a picture of 1280 × 720 with the blank image and some record, of which the first macroblock is lost.
abbrev pub FirstIsLost : Type 0
FirstIsLost =
    (image : Image) × (r : Record) × (image.bytes ≡ blank_image) × ((left : ℕ → ℕ → ℕ) →
    Delivers (grey_chain Frame720) (one_picture (grey_chain Frame720) 0 image r (record { stripe = 0; column = 0; left = left } ∷ []) (outside is_first (macroblocks Frame720))) 0 blank_image)

-- a word with its lowest bit turned, and the words of a macroblock with bit k of row n that it carries turned
abbrev pub turned : ℕ → ℕ
turned x = x / 2 * 2 + (1 - x % 2)

abbrev pub one_turned : (ℕ → ℕ → ℕ) → ℕ → ℕ → ℕ → ℕ → ℕ → ℕ
one_turned word column n k i j = cond (i == n && j == 2 * k) (turned (word i (32 * column + j))) (word i (32 * column + j))

-- the premises of NeverUnnoticed: what the macroblock carries after the calls differs from what it carried when last placed, within two rows
pub record Struck (new : Chain) (calls : List Call) (s c : ℕ) : Type 0 where
  pub last : LastPlaced new calls s c
  pub row : ℕ
  pub near : row ≤ 14
  pub alike : AlikeBut row (carried_then last) (carried_by (run new calls) s c)
  pub differs : carried_by (run new calls) s c ≡ carried_then last → ⊥

-- One turned bit is noticed: a placed macroblock is gathered, and is no more once a paint turned one bit that it carries, which strikes it.
abbrev pub TurnedBitIsNoticed : Type 0
TurnedBitIsNoticed =
    (new : Chain) → New new → (t : ℕ) → Fitted new t →
    (image : Image) → agrees (is_frame image.bytes) (frame_of new.format) ≡ true → (r : Record) → checked r ≡ Ok tt →
    (s c : ℕ) → in_format new.format s c ≡ true → (n k : ℕ) → n < 16 → k < 16 →
    let placed = run new (opens ∷ place s c image r ∷ []) in
    let turns = paint s c (one_turned (placed.slab s).word c n k) in
    let g = gathering_of new (first_picture new) in
    (is_ok (gathered_on placed g t s c) ≡ true) × Struck new (opens ∷ place s c image r ∷ turns ∷ []) s c × (is_ok (gathered_on (after placed turns) g t s c) ≡ false)

-- the premises of Survives, met by one picture
pub record Survivable (new : Chain) (t : ℕ) (image : Image) (r : Record) (stains : List Stain) (ms : List (ℕ × ℕ)) (S : ℕ → ℕ → Bool) : Type 0 where
  pub begins : New new
  pub few : count new.format S < carriers_of new.format
  pub gathered : Gathered new (placed_and_stained new image r stains) (gathers_in new t ms) t (first_picture new) image S

-- in one picture a gather of the first macroblock comes, after these calls and with this judgement
abbrev pub FirstGather : Chain → ℕ → Image → Record → List Stain → List (ℕ × ℕ) → (List Call → Result Block Fault → Type 0) → Type 0
FirstGather new t image r stains ms So =
    let p = first_picture new in
    let g = gathering_of new p in
    (x : List Call) × (y : List Call) × (gathers_in new t ms ≡ x ++ gather g t 0 0 ∷ y)
    × (let calls = since new (placed_and_stained new image r stains) t p x in So calls (gathered_on (run new calls) g t 0 0))

-- a stain that turns bit k of row n of what the first macroblock carries once all are placed
abbrev pub turned_first : Chain → Image → Record → ℕ → ℕ → Stain
turned_first new image r n k = record { stripe = 0; column = 0; left = one_turned ((run new (placed_and_stained new image r [])).slab 0).word 0 n k }

-- A picture of 1280 × 720 with the blank image and some record, every macroblock placed and every one gathered. One bit that the first
-- carries is turned: its gather comes and is refused. The premises of Survives are met with the first macroblock as the set.
abbrev pub FirstIsTurned : Type 0
FirstIsTurned =
    let new = grey_chain Frame720 in
    let ms = macroblocks Frame720 in
    (image : Image) × (r : Record) × (image.bytes ≡ blank_image) × ((n k : ℕ) → n < 16 → k < 16 →
    let stains = turned_first new image r n k ∷ [] in
    Survivable new 0 image r stains ms is_first
    × FirstGather new 0 image r stains ms (λ calls judged. Struck new calls 0 0 × (is_ok judged ≡ false)))

-- The same with no stain: they are met with the first macroblock as the set, and with none. Its gather comes and brings the sealed element.
abbrev pub FirstIsWhole : Type 0
FirstIsWhole =
    let new = grey_chain Frame720 in
    let ms = macroblocks Frame720 in
    (image : Image) × (r : Record) × (image.bytes ≡ blank_image)
    × Survivable new 0 image r [] ms is_first
    × Survivable new 0 image r [] ms (λ _ _. false)
    × FirstGather new 0 image r [] ms (λ _ judged. Brings judged (element_of blank_image (index_of 0 0)))

-- all of these
pub record WorkedRuns : Type 0 where
  pub comes_back : ComesBack
  pub comes_back_stained : ComesBackStained
  pub first_is_lost : FirstIsLost
  pub turned_bit_is_noticed : TurnedBitIsNoticed
  pub first_is_turned : FirstIsTurned
  pub first_is_whole : FirstIsWhole
