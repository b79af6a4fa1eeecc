-- What is known of a macroblock from its last placing, and that no short burst in it goes unnoticed.
use Rattle.std.proofs.Common.{◌≡◌, ℕ, ◌+◌, ◌*◌, ◌^◌, ◌<◌, false, cond, ◌&&◌, eqb, List, [], ◌∷◌, length, is_ok, Some, None, Ok, Err, Option, Result, sym, refl, ap, ◌∙◌, subst, subst₂, inl, inr, arith}
use Rattle.std.proofs.lemmas.Bool.{cond_both, and_parts, eqb-true, eq-eqb, cases_lt, true≢false}
use Rattle.std.proofs.ByRecursion.{All-get_or}
use Rattle.std.proofs.lemmas.List.{get_or_past}
use Rattle.fault.specs.declared.Fault.{Fault}
use Rattle.fault.specs.Refusing.{done}
use Rattle.crc.specs.Burst.{Rows, AlikeBut}
use Rattle.crc.proofs.Bursts.{checked_fits}
use Rattle.column.specs.Column.{embedded, carried_rows}
use Rattle.column.proofs.Laws.{reads_back}
use Rattle.record.specs.declared.record.Record.{Record}
use Rattle.record.specs.declared.record.Block.{Block}
use Rattle.record.specs.Layout.{data_rows}
use Rattle.record.specs.Laws.{Fitting, Formed}
use Rattle.record.proofs.Undoing.{decoding_undoes}
use Rattle.block.specs.Code.{rows_of, decoded, WellFormed}
use Rattle.block.proofs.Codes.{checked_ok, decoded_back, accepts}
use Rattle.format.specs.declared.table.Format.{Format}
use Rattle.image.specs.Image.{sealing}
use Rattle.image.proofs.Joining.{element_below}
use Rattle.inserter.specs.Place.{block_for, placed_at}
use Rattle.inserter.proofs.Placings.{Accepted, accepted_parts, lawful}
use Rattle.extractor.specs.declared.gathering.Gathering.{Gathering}
use Rattle.extractor.specs.Delivery.{delivering}
use Rattle.extractor.proofs.Gatherings.{gathered_burst}
use Rattle.damage.specs.Chain.{Grid, Picture, Chain, with_slab, with_words, painted}
use Rattle.damage.specs.Calls.{Call, seal, opens, place, close, start, gather, deliver, paint, placed, answer, after, placing_on, gathered_on, open_after, close_after, place_answer, place_after, gather_after}
use Rattle.damage.specs.Runs.{run, carried_by}
use Rattle.damage.specs.Damage.{NeverUnnoticed}
use Rattle.damage.proofs.Pieces.{put_here, settled_case}
use Rattle.damage.proofs.Folds.{Placing, noting, smeared, noted, last_from, last_placing, noted_as}
use Rattle.damage.proofs.Apart.{Same, place_elsewhere, paint_elsewhere, start_kept, image_kept, carried_same, with_words_lem}

-- the rows of a block that a place accepted
module _ (f : Format) (first s c rows words : ℕ) (image : List ℕ) (r : Record) (a : Accepted f first s c rows words image r (block_for f first s c image r)) where
  abbrev b : Block
  b = block_for f first s c image r

  fitting : Fitting b
  fitting = record { widths = (checked_ok b a.kept).0; reference = omega arith; element = element_below image _ }

  formed : Formed (data_rows b)
  formed = (decoding_undoes b fitting).0

  pub sixteen : Rows 16 (rows_of b)
  sixteen = (checked_fits (data_rows b) (record { long = formed.count; narrow = λ i h. All-get_or (λ row. row < 2 ^ 16) (data_rows b) i 0 (omega (arith, formed.count)) formed.narrow })).0

  pub decodes : decoded (rows_of b) ≡ Ok b
  decodes = decoded_back b formed (decoding_undoes b fitting).1 (checked_ok b a.kept).1 (lawful f first s c rows words image r b a)

  pub well_formed : WellFormed (rows_of b)
  well_formed = (accepts (rows_of b)).0 (ap is_ok decodes)

  -- they are what a column carries in which they are embedded
  pub carried_back : (at : ℕ → ℕ → ℕ) → carried_rows (embedded at c (rows_of b)) c ≡ rows_of b
  carried_back at =
      reads_back at (embedded at c (rows_of b)) 16 (32 * c + 32) c (rows_of b) (omega arith) (omega arith) (λ i j _ _. refl) sixteen.long (λ i. elim (cases_lt i 16) [
        | inl l ↦ sixteen.narrow i l
        | inr g ↦ rw (get_or_past (rows_of b) i 0 (omega (arith, sixteen.long))) (omega arith)
      ])

-- the last placing was accepted, and its rows are carried unless there was a paint since
pub record Known (f : Format) (g : Grid) (s c : ℕ) (q : Placing) : Type 0 where
  pub entry : Record
  pub accepted : Accepted f q.picture.first s c g.rows g.words q.image entry (block_for f q.picture.first s c q.image entry)
  pub rows : q.rows ≡ rows_of (block_for f q.picture.first s c q.image entry)
  pub here : q.painted ≡ false → carried_rows g.word c ≡ q.rows

abbrev Kept : Format → Grid → ℕ → ℕ → Option Placing → Type 0
Kept f g s c None = Unit {0}
Kept f g s c (Some q) = Known f g s c q

module _ (s c : ℕ) where
  abbrev KeptOn : Chain → Option Placing → Type 0
  KeptOn ch last = Kept ch.format (ch.slab s) s c last

  known_same : (one two : Chain) (q : Placing) → Same s c one two → Known one.format (one.slab s) s c q → Known two.format (two.slab s) s c q
  known_same one two q v h =
      subst (λ f. Known f (two.slab s) s c q) v.format (record {
        entry = h.entry;
        accepted = subst₂ (λ rows words. Accepted one.format q.picture.first s c rows words q.image h.entry (block_for one.format q.picture.first s c q.image h.entry)) v.rows v.words h.accepted;
        rows = h.rows;
        here = λ p. sym (carried_same s c one two v one.format h.accepted.slab h.accepted.inside) ∙ h.here p;
      })

  kept_same : (one two : Chain) (last : Option Placing) → Same s c one two → KeptOn one last → KeptOn two last
  kept_same one two None v h = tt
  kept_same one two (Some q) v h = known_same one two q v h

  -- a place on the macroblock itself
  placed_known : (ch : Chain) (p : Picture) (image : List ℕ) (r : Record) (b : Block) → placing_on ch p s c image r ≡ Ok b → (g : Grid) → g ≡ with_words (ch.slab s) (placed_at (Ok b) (ch.slab s).word c) →
      Known ch.format g s c (record { picture = p; image = image; rows = carried_rows g.word c; painted = false })
  placed_known ch p image r b e g w =
      let a = accepted_parts ch.format p.first s c (ch.slab s).rows (ch.slab s).words image r b e in
      let is = a.is in
      let k = subst (Accepted ch.format p.first s c (ch.slab s).rows (ch.slab s).words image r) is a in
      record {
        entry = r;
        accepted = subst₂ (λ rows words. Accepted ch.format p.first s c rows words image r (block_for ch.format p.first s c image r)) (sym (ap (λ g. g.rows) w)) (sym (ap (λ g. g.words) w)) k;
        rows = ap (λ g. carried_rows g.word c) w ∙ ap (λ b. carried_rows (embedded (ch.slab s).word c (rows_of b)) c) is ∙ carried_back ch.format p.first s c (ch.slab s).rows (ch.slab s).words image r k (ch.slab s).word;
        here = λ _. refl;
      }

  placed_here : (ch : Chain) (last : Option Placing) (image : List ℕ) (r : Record) (p : Option Picture) → KeptOn ch last →
      KeptOn (place_after p ch s c image r) (noting (place_answer p ch s c image r) p image (carried_by (place_after p ch s c image r) s c) last)
  placed_here ch last image r None h = h
  placed_here ch last image r (Some p) h = go (placing_on ch p s c image r) refl
    where
      leaves : Result Block Fault → Chain
      leaves x = with_slab ch s (with_words (ch.slab s) (placed_at x (ch.slab s).word c))

      go : (x : Result Block Fault) → placing_on ch p s c image r ≡ x → KeptOn (leaves x) (noting (placed (done x)) (Some p) image (carried_by (leaves x) s c) last)
      go (Err fault) e = kept_same ch (leaves (Err fault)) last (with_words_lem s c s ch (placed_at (Err fault) (ch.slab s).word c) (λ _ i j _. refl)) h
      go (Ok b) e = placed_known ch p image r b e ((leaves (Ok b)).slab s) (put_here ch.slab s _)

  painted_here : (ch : Chain) (last : Option Placing) (left : ℕ → ℕ → ℕ) → KeptOn ch last → KeptOn (after ch (paint s c left)) (smeared last)
  painted_here ch None left h = tt
  painted_here ch (Some q) left h =
      let w = put_here ch.slab s (with_words (ch.slab s) (painted (ch.slab s).word c left)) in
      record {
        entry = h.entry;
        accepted = subst₂ (λ rows words. Accepted ch.format q.picture.first s c rows words q.image h.entry (block_for ch.format q.picture.first s c q.image h.entry)) (sym (ap (λ g. g.rows) w)) (sym (ap (λ g. g.words) w)) h.accepted;
        rows = h.rows;
        here = λ e. absurd (true≢false e);
      }

  opened : (ch : Chain) (last : Option Placing) (p : Option Picture) → KeptOn ch last → KeptOn (open_after p ch) last
  opened ch last None h = h
  opened ch last (Some p) h = h

  closed : (ch : Chain) (last : Option Placing) (p : Option Picture) → KeptOn ch last → KeptOn (close_after p ch) last
  closed ch last None h = h
  closed ch last (Some p) h = h

  gathers_kept : (ch : Chain) (last : Option Placing) (g : Gathering) (t k d : ℕ) → KeptOn ch last → KeptOn (after ch (gather g t k d)) last
  gathers_kept ch last g t k d h = settled_case (λ x. KeptOn x last) (gathered_on ch g t k d) ch (gather_after ch t k d) h (λ _ _. h)

  -- a call on some macroblock: on this one, or elsewhere
  by_place : (makes : ℕ → ℕ → Chain) (new : ℕ → ℕ → Option Placing) (last : Option Placing) (k d : ℕ) → KeptOn (makes s c) (new s c) → ((s ≡ k → c ≡ d → ⊥) → KeptOn (makes k d) last) →
      KeptOn (makes k d) (cond (eqb k s && eqb d c) (new k d) last)
  by_place makes new last k d here there =
      cond_both (eqb k s && eqb d c) (new k d) last (KeptOn (makes k d))
      (λ e. let p = and_parts (eqb k s) (eqb d c) e in subst₂ (λ k d. KeptOn (makes k d) (new k d)) (sym (eqb-true k s p.0)) (sym (eqb-true d c p.1)) here)
      (λ e. there (λ p q. let z : ◌≡◌ {A = ℕ} 0 1 = cc (eq-eqb k s (sym p), eq-eqb d c (sym q), e) in omega arith))

  step : (ch : Chain) (last : Option Placing) (call : Call) → KeptOn ch last → KeptOn (after ch call) (noted ch call s c last)
  step ch last (seal bytes i) h = kept_same ch (after ch (seal bytes i)) last (image_kept s c ch i (sealing bytes)) h
  step ch last opens h = opened ch last ch.picture h
  step ch last (place k d image r) h =
      by_place (λ k d. after ch (place k d image r))
      (λ k d. noting (answer ch (place k d image r)) ch.picture image.bytes (carried_by (after ch (place k d image r)) s c) last) last k d
      (placed_here ch last image.bytes r ch.picture h)
      (λ n. kept_same ch (after ch (place k d image r)) last (place_elsewhere s c k d ch ch.picture image.bytes r n) h)
  step ch last close h = closed ch last ch.picture h
  step ch last (start t number first) h = kept_same ch (after ch (start t number first)) last (start_kept s c ch t number first) h
  step ch last (gather g t k d) h = gathers_kept ch last g t k d h
  step ch last (deliver t i) h = kept_same ch (after ch (deliver t i)) last (image_kept s c ch i (delivering (ch.table t))) h
  step ch last (paint k d left) h =
      by_place (λ k d. after ch (paint k d left)) (λ _ _. smeared last) last k d
      (painted_here ch last left h)
      (λ n. kept_same ch (after ch (paint k d left)) last (paint_elsewhere s c k d ch left n) h)

  kept : (ch : Chain) (last : Option Placing) (calls : List Call) → KeptOn ch last → KeptOn (run ch calls) (last_from last ch calls s c)
  kept ch last [] h = h
  kept ch last (call ∷ calls) h = kept (after ch call) (noted ch call s c last) calls (step ch last call h)

  pub last_known : (ch : Chain) (calls : List Call) (q : Placing) → last_placing ch calls s c ≡ Some q → Known (run ch calls).format ((run ch calls).slab s) s c q
  last_known ch calls q e = subst (KeptOn (run ch calls)) e (kept ch None calls tt)

pub unnoticed : NeverUnnoticed
unnoticed new n calls g t s c l k hk alike differs =
    let ch = run new calls in
    let w = noted_as s c new calls l in
    let q = w.placing in
    let h = last_known s c new calls q w.is in
    let sent = block_for ch.format q.picture.first s c q.image h.entry in
    gathered_burst g s c (ch.slab s).rows (ch.slab s).words (ch.slab s).word (length (ch.table t)) (length (ch.sheet s)) (record {
      sent = q.rows;
      first = k;
      sixteen = subst (Rows 16) (sym h.rows) (sixteen ch.format q.picture.first s c (ch.slab s).rows (ch.slab s).words q.image h.entry h.accepted);
      formed = subst WellFormed (sym h.rows) (well_formed ch.format q.picture.first s c (ch.slab s).rows (ch.slab s).words q.image h.entry h.accepted);
      near = hk;
      alike = subst (λ rows. AlikeBut k rows (carried_by ch s c)) (sym w.rows) alike;
      differs = λ z. differs (z ∙ w.rows);
    })
