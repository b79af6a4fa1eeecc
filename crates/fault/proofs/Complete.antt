-- The table of refusals has each refusal once.
use Rattle.std.proofs.Common.{◌≡◌, ℕ, zero, suc, ◌<◌, Bool, true, ◌&&◌, eqb, ltb, List, [], ◌∷◌, length, get_or, Decides, refl, rules}
use Rattle.std.proofs.lemmas.Bool.Decides.{Decides-below_and, Decides-eqb, Decides-ltb}
use Rattle.fault.specs.declared.Fault.{Fault}
use Rattle.fault.specs.declared.Fault.TheVariants.{Size, Outside, Format, FirstReference, Length, SlotNumber, SlabExtent, NotInFormat, ComponentWidth, Sync, BlockCheck, ReservedBit, ReferenceRange, RecordRule, FrameOrField, UnexpectedReference, EmptySlot, DisputedSlot, ImageCheck, MpegStandard, PictureStructure, ChromaFormat, SpareBit}
use Rattle.fault.specs.Table.{table, line_of, table_numbers, Listed, Used, Apart, ByNumberAndPlace, Ascending}

pub listed : Listed
listed f = search rules

pub apart : Apart
apart f g same_line same_place = search rules

pub told : ByNumberAndPlace
told f g same_number same_place = search rules

-- a refusal of each line
abbrev kinds : List Fault
kinds =
    Size
    ∷ Outside 0 0
    ∷ Format
    ∷ FirstReference
    ∷ Length
    ∷ SlotNumber
    ∷ SlabExtent
    ∷ NotInFormat
    ∷ ComponentWidth
    ∷ Sync
    ∷ BlockCheck
    ∷ ReservedBit
    ∷ ReferenceRange
    ∷ RecordRule
    ∷ FrameOrField
    ∷ UnexpectedReference
    ∷ EmptySlot 0
    ∷ DisputedSlot 0
    ∷ ImageCheck
    ∷ MpegStandard
    ∷ PictureStructure
    ∷ ChromaFormat
    ∷ SpareBit
    ∷ []

abbrev kind : ℕ → Fault
kind k = get_or kinds k Size

-- the first n lines have their refusals, as a test that antt computes
abbrev filled : ℕ → Bool
filled zero = true
filled (suc n) = eqb (line_of (kind n)) n && filled n

line_of_kind : (k : ℕ) → k < length table → line_of (kind k) ≡ k
line_of_kind =
    (Decides-below_and (λ k. eqb (line_of (kind k)) k) (λ k. line_of (kind k) ≡ k) filled (λ k. Decides-eqb (line_of (kind k)) k) refl (λ _. refl) (length table)).0 refl

pub used : Used
used i h = (kind i, line_of_kind i h)

abbrev number_at : ℕ → ℕ
number_at k = get_or table_numbers k 0

-- the first n lines have numbers below that of line m
abbrev under : ℕ → ℕ → Bool
under m zero = true
under m (suc n) = ltb (number_at n) (number_at m) && under m n

under_decides : (m n : ℕ) → Decides (under m n) ((k : ℕ) → k < n → number_at k < number_at m)
under_decides m =
    Decides-below_and (λ k. ltb (number_at k) (number_at m)) (λ k. number_at k < number_at m) (under m) (λ k. Decides-ltb (number_at k) (number_at m)) refl (λ _. refl)

-- each of the first n lines has a number above all before it
abbrev rising : ℕ → Bool
rising zero = true
rising (suc n) = under n n && rising n

pub ascending : Ascending
ascending i j i<j j<n =
    (Decides-below_and (λ m. under m m) (λ m. (k : ℕ) → k < m → number_at k < number_at m) rising (λ m. under_decides m m) refl (λ _. refl) (length table)).0 refl j j<n i i<j
