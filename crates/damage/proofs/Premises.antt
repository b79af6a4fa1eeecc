-- The worked runs that have the premises of the law as facts; and all worked runs together.
use Rattle.std.proofs.Common.{◌≡◌, ℕ, ◌+◌, ◌<◌, ◌≤◌, true, false, eqb, List, [], ◌∷◌, ◌++◌, length, get_or, is_ok, Some, None, Ok, sym, refl, ap, ◌∙◌, subst₂, inl, inr, append_assoc}
use Rattle.std.proofs.lemmas.Bool.{and_parts, eqb-true, true≢false}
use Rattle.std.proofs.lemmas.List.{map-append}
use Rattle.column.specs.Column.{carried_rows}
use Rattle.record.specs.declared.record.Record.{Record}
use Rattle.record.specs.Rules.{checked}
use Rattle.format.specs.declared.table.Format.{Format}
use Rattle.format.specs.declared.table.Format.TheVariants.{Frame720}
use Rattle.format.specs.Formats.{number_of, carriers_of, frame_of, in_format, index_of}
use Rattle.format.specs.Carriers.{count}
use Rattle.image.specs.Elements.{element_of}
use Rattle.image.specs.Image.{is_frame}
use Rattle.inserter.specs.Place.{agrees}
use Rattle.extractor.specs.declared.gathering.Gathering.{Gathering}
use Rattle.extractor.specs.Gather.{starting}
use Rattle.damage.specs.Chain.{Picture, Chain, Image, painted}
use Rattle.damage.specs.Calls.{Call, opens, close, start, gather, paint, after, gathered_on, start_after, gather_after}
use Rattle.damage.specs.Runs.{New, run, carried_by, carried_then}
use Rattle.damage.specs.Damage.{Brings, gathering_of, start_of, since}
use Rattle.damage.specs.Worked.{macroblocks, places_of, gathers_of, Stain, first_picture, Fitted, placed_and_stained, grey_chain, is_first, one_turned, Struck, Survivable, FirstGather, turned_first, FirstIsTurned, FirstIsWhole, WorkedRuns}
use Rattle.damage.proofs.Pieces.{settled_case}
use Rattle.damage.proofs.Steady.{run-++}
use Rattle.damage.proofs.Folds.{Placing, smeared, last_from, last_placing, Fresh, last-++, noted_as, found}
use Rattle.damage.proofs.Placings.{last_known}
use Rattle.damage.proofs.Worked.{Within, all_macroblocks, quiet, last_before, brings_so, Safe, gathered_so, none_few, all_none, comes_back, comes_back_stained, blank, blank_frame, plain, plain_lawful, grey_new, grey_fitted, one_few, first_is_lost, near_row, other_row, row_differs, struck_refused, turned_bit_is_noticed}

-- no start and no gather changes a slab
start_slab : (ch : Chain) (t number first : ℕ) → (after ch (start t number first)).slab ≡ ch.slab
start_slab ch t number first = settled_case (λ z. z.slab ≡ ch.slab) (starting number first (length (ch.table t))) ch (λ _. start_after ch t) refl (λ _ _. refl)

gathers_slab : (g : Gathering) (t : ℕ) (ms : List (ℕ × ℕ)) (ch : Chain) → (run ch (gathers_of ms g t)).slab ≡ ch.slab
gathers_slab g t [] ch = refl
gathers_slab g t (m ∷ ms) ch =
    gathers_slab g t ms (after ch (gather g t m.0 m.1))
    ∙ settled_case (λ z. z.slab ≡ ch.slab) (gathered_on ch g t m.0 m.1) ch (gather_after ch t m.0 m.1) refl (λ _ _. refl)

-- One picture, all of it gathered, of which one bit is turned that the first macroblock carries, or none.
module _ (new : Chain) (New-is : New new) (t : ℕ) (fitted : Fitted new t) (image : Image) (frame : agrees (is_frame image.bytes) (frame_of new.format) ≡ true) (r : Record) (lawful : checked r ≡ Ok tt)
    (i : in_format new.format 0 0 ≡ true) where
  abbrev f : Format
  f = new.format

  abbrev p : Picture
  p = first_picture new

  abbrev g : Gathering
  g = gathering_of new p

  abbrev ms : List (ℕ × ℕ)
  ms = macroblocks f

  -- the calls before the stain
  abbrev before : List Call
  before = placed_and_stained new image r []

  only_first : (s c : ℕ) → is_first s c ≡ true → (s ≡ 0) × (c ≡ 0)
  only_first s c e = let q = and_parts (eqb s 0) (eqb c 0) e in (eqb-true s 0 q.0, eqb-true c 0 q.1)

  -- a gather of the first comes
  comes : Within ms (0, 0)
  comes = all_macroblocks f 0 0 i

  gathers_split : gathers_of ms g t ≡ gathers_of comes.0 g t ++ gather g t 0 0 ∷ gathers_of comes.1 g t
  gathers_split = ap (λ z. gathers_of z g t) comes.2 ∙ map-append (λ m. gather g t m.0 m.1) comes.0 ((0, 0) ∷ comes.1)

  -- without a stain
  whole : (ns : List (ℕ × ℕ)) → Brings (gathered_on (run new (since new before t p (gathers_of ns g t))) g t 0 0) (element_of image.bytes (index_of 0 0))
  whole ns = brings_so new New-is t fitted image frame r lawful (λ _ _. false) [] tt ns 0 0 i refl

  whole_survivable : count f is_first < carriers_of f → Survivable new t image r [] ms is_first
  whole_survivable few = record {
    begins = New-is;
    few = few;
    gathered = gathered_so new New-is t fitted image frame r lawful is_first [] tt (λ _. false ≡ false) ms (all_none ms) (λ s c j _. all_macroblocks f s c j)
        (λ ns m _ e. let q = only_first m.0 m.1 e in
        subst₂ (λ s c. Safe new New-is t fitted image frame r lawful is_first [] tt (gathers_of ns g t) s c) (sym q.0) (sym q.1) (inr (whole ns)));
  }

  none_survivable : Survivable new t image r [] ms (λ _ _. false)
  none_survivable = record {
    begins = New-is;
    few = none_few f;
    gathered = gathered_so new New-is t fitted image frame r lawful (λ _ _. false) [] tt (λ _. false ≡ false) ms (all_none ms) (λ s c j _. all_macroblocks f s c j)
        (λ ns m _ e. absurd (true≢false (sym e)));
  }

  whole_gather : FirstGather new t image r [] ms (λ _ judged. Brings judged (element_of image.bytes (index_of 0 0)))
  whole_gather = (gathers_of comes.0 g t, gathers_of comes.1 g t, gathers_split, whole comes.0)

  -- with one
  module _ (n k : ℕ) (hn : n < 16) (hk : k < 16) where
    abbrev stains : List Stain
    stains = turned_first new image r n k ∷ []

    abbrev at : ℕ → ℕ → ℕ
    at = ((run new before).slab 0).word

    abbrev turns : Call
    turns = paint 0 0 (one_turned at 0 n k)

    abbrev earlier : List Call
    earlier = placed_and_stained new image r stains

    abbrev up_to : List (ℕ × ℕ) → List Call
    up_to ns = since new earlier t p (gathers_of ns g t)

    stain-last : earlier ≡ before ++ turns ∷ []
    stain-last = ap (λ z. opens ∷ z) (sym (append_assoc (places_of ms image r) (close ∷ []) (turns ∷ [])))

    stained-run : run new earlier ≡ after (run new before) turns
    stained-run = ap (run new) stain-last ∙ run-++ new before (turns ∷ [])

    -- what it carries ahead of a gather
    carried-now : (ns : List (ℕ × ℕ)) → carried_by (run new (up_to ns)) 0 0 ≡ carried_rows (painted at 0 (one_turned at 0 n k)) 0
    carried-now ns =
        ap (λ ch. carried_by ch 0 0) (run-++ new earlier (start_of new t p ∷ gathers_of ns g t))
        ∙ ap (λ slab. carried_rows (slab 0).word 0) (gathers_slab g t ns (after (run new earlier) (start_of new t p)) ∙ start_slab (run new earlier) t (number_of f) p.first)
        ∙ ap (λ ch. carried_by ch 0 0) stained-run

    -- and when it was last placed
    fresh : Fresh (last_placing new before 0 0) p image.bytes
    fresh = last_before new New-is t fitted image frame r lawful (λ _ _. false) [] tt 0 0 i refl

    noted-then : (ns : List (ℕ × ℕ)) → last_placing new (up_to ns) 0 0 ≡ smeared (Some fresh.0)
    noted-then ns =
        last-++ None new earlier (start_of new t p ∷ gathers_of ns g t) 0 0
        ∙ quiet g t ns (last_from None new earlier 0 0) (after (run new earlier) (start_of new t p)) 0 0
        ∙ ap (λ z. last_placing new z 0 0) stain-last
        ∙ last-++ None new before (turns ∷ []) 0 0
        ∙ ap smeared fresh.1

    struck : (ns : List (ℕ × ℕ)) → Struck new (up_to ns) 0 0
    struck ns =
        let q : Placing = record { picture = fresh.0.picture; image = fresh.0.image; rows = fresh.0.rows; painted = true } in
        let l = found 0 0 new (up_to ns) q (noted-then ns) in
        let then : carried_then l.0 ≡ carried_rows at 0 =
        sym (noted_as 0 0 new (up_to ns) l.0).rows ∙ ap (λ z. z.rows) l.1 ∙ sym ((last_known 0 0 new before fresh.0 fresh.1).here fresh.4) in
        let near : (m : ℕ) × (m ≤ 14) × ((j : ℕ) → (j ≡ m → ⊥) → (j ≡ m + 1 → ⊥) → j ≡ n → ⊥) = near_row n hn in
        record {
          last = l.0;
          row = near.0;
          near = near.1;
          alike = λ j h x y. ap (λ rows. get_or rows j 0) (carried-now ns) ∙ other_row at 0 n k hn hk j h (near.2 j x y) ∙ ap (λ rows. get_or rows j 0) (sym then);
          differs = λ z. row_differs at 0 n k hn hk (sym (carried-now ns) ∙ z ∙ then);
        }

    refused : (ns : List (ℕ × ℕ)) → is_ok (gathered_on (run new (up_to ns)) g t 0 0) ≡ false
    refused ns = struck_refused new New-is (up_to ns) g t 0 0 (struck ns)

    turned-survivable : count f is_first < carriers_of f → Survivable new t image r stains ms is_first
    turned-survivable few = record {
      begins = New-is;
      few = few;
      gathered = gathered_so new New-is t fitted image frame r lawful is_first stains (refl, tt) (λ _. false ≡ false) ms (all_none ms) (λ s c j _. all_macroblocks f s c j)
          (λ ns m _ e. let q = only_first m.0 m.1 e in
          subst₂ (λ s c. Safe new New-is t fitted image frame r lawful is_first stains (refl, tt) (gathers_of ns g t) s c) (sym q.0) (sym q.1) (inl (refused ns)));
    }

    turned-gather : FirstGather new t image r stains ms (λ calls judged. Struck new calls 0 0 × (is_ok judged ≡ false))
    turned-gather = (gathers_of comes.0 g t, gathers_of comes.1 g t, gathers_split, (struck comes.0, refused comes.0))

pub first_is_turned : FirstIsTurned
first_is_turned = (
  blank,
  plain,
  refl,
  λ n k hn hk. (
    turned-survivable (grey_chain Frame720) (grey_new Frame720) 0 (grey_fitted Frame720 0) blank (ap (λ b. agrees b true) blank_frame) plain plain_lawful refl n k hn hk one_few,
    turned-gather (grey_chain Frame720) (grey_new Frame720) 0 (grey_fitted Frame720 0) blank (ap (λ b. agrees b true) blank_frame) plain plain_lawful refl n k hn hk,
  ),
)

pub first_is_whole : FirstIsWhole
first_is_whole = (
  blank,
  plain,
  refl,
  whole_survivable (grey_chain Frame720) (grey_new Frame720) 0 (grey_fitted Frame720 0) blank (ap (λ b. agrees b true) blank_frame) plain plain_lawful refl one_few,
  none_survivable (grey_chain Frame720) (grey_new Frame720) 0 (grey_fitted Frame720 0) blank (ap (λ b. agrees b true) blank_frame) plain plain_lawful refl,
  whole_gather (grey_chain Frame720) (grey_new Frame720) 0 (grey_fitted Frame720 0) blank (ap (λ b. agrees b true) blank_frame) plain plain_lawful refl,
)

pub worked_runs : WorkedRuns
worked_runs = record {
  comes_back = comes_back;
  comes_back_stained = comes_back_stained;
  first_is_lost = first_is_lost;
  turned_bit_is_noticed = turned_bit_is_noticed;
  first_is_turned = first_is_turned;
  first_is_whole = first_is_whole;
}
