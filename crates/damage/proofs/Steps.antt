-- What the contracts of place, gather, deliver and seal promise is the step of every chain that shows what was lent.
use Rattle.std.proofs.Common.{◌≡◌, ℕ, ◌/◌, ◌<◌, List, ◌∷◌, length, Ok, Err, Option, Result, sym, refl, ap, ◌∙◌, subst, ap₂, inl, inr, arith}
use Rattle.std.proofs.lemmas.Bool.{cases_eq}
use Rattle.fault.specs.declared.Fault.{Fault}
use Rattle.fault.specs.Refusing.{done}
use Rattle.record.specs.declared.record.Record.{Record}
use Rattle.record.specs.declared.record.Block.{Block}
use Rattle.slots.specs.declared.slot.Slot.{Slot}
use Rattle.format.specs.declared.table.Format.{Format}
use Rattle.image.specs.Image.{overwritten, sealing}
use Rattle.inserter.specs.Place.{placing, placed_at}
use Rattle.extractor.specs.declared.gathering.Gathering.{Gathering}
use Rattle.extractor.specs.Gather.{settled, gathered, elements_after, sheet_after}
use Rattle.extractor.specs.Delivery.{delivering}
use Rattle.damage.specs.Chain.{Grid, Picture, Chain, with_slab, with_sheet, with_table, with_image, with_words}
use Rattle.damage.specs.Calls.{Call, Answer, imaged, placed, brought, place_answer, placing_on, gathered_on, place_after, gather_after}
use Rattle.damage.specs.Rasters.{Shows, Like, Lives, rests, moves, heard}
use Rattle.damage.specs.Ties.{Steps, ended, onward, StepsMakeARun, PlaceStep, GatherStep, DeliverStep, SealStep, Places, Gathers, Seals}
use Rattle.damage.proofs.Pieces.{put_both, put_pick}
use Rattle.damage.proofs.Columns.{placed_elsewhere}
use Rattle.damage.proofs.Apart.{Same, placed_same, gather_answer}
use Rattle.damage.proofs.Rasters.{covers}

shows_refl : (g : Grid) → Shows g g
shows_refl g = record { rows = refl; words = refl; word = λ i j a b. refl }

-- the chain whose slabs all show the grid
abbrev shown : Chain → Grid → Chain
shown ch g = record { format = ch.format; next = ch.next; opened = ch.opened; picture = ch.picture; slab = λ _. g; sheet = ch.sheet; table = ch.table; image = ch.image }

-- it looks the same from a macroblock of a slab that shows it
shown_same : (ch : Chain) (g : Grid) (s c : ℕ) → Shows (ch.slab s) g → Same s c ch (shown ch g)
shown_same ch g s c v = record {
  format = refl;
  next = refl;
  opened = refl;
  picture = refl;
  rows = v.rows;
  words = v.words;
  word = λ i j a b e. v.word i j a b;
  sheet = refl;
  slot = refl;
  tables = λ t. refl;
}

-- a chain with other slabs, tables and images
slab_like : (ch : Chain) (s : ℕ) (a b : Grid) → Shows a b → Like (with_slab ch s a) (with_slab ch s b)
slab_like ch s a b v = record {
  format = refl;
  next = refl;
  opened = refl;
  picture = refl;
  slab = λ k. put_both Shows ch.slab ch.slab s a b k (λ _. v) (shows_refl (ch.slab k));
  sheet = λ k. refl;
  table = λ k. refl;
  image = λ k. refl;
}

gather_like : (ch : Chain) (t s : ℕ) (slots slots' : List (Slot ℕ)) (sheet sheet' : List (Slot Record)) → slots ≡ slots' → sheet ≡ sheet' →
    Like (with_sheet (with_table ch t slots) s sheet) (with_sheet (with_table ch t slots') s sheet')
gather_like ch t s slots slots' sheet sheet' e h = record {
  format = refl;
  next = refl;
  opened = refl;
  picture = refl;
  slab = λ k. shows_refl (ch.slab k);
  sheet = λ k. put_both (λ x y. x ≡ y) ch.sheet ch.sheet s sheet sheet' k (λ _. h) refl;
  table = λ k. put_both (λ x y. x ≡ y) ch.table ch.table t slots slots' k (λ _. e) refl;
  image = λ k. refl;
}

-- a chain is like itself with what it has already
gather_still : (ch : Chain) (t s : ℕ) (slots : List (Slot ℕ)) (sheet : List (Slot Record)) → ch.table t ≡ slots → ch.sheet s ≡ sheet →
    Like ch (with_sheet (with_table ch t slots) s sheet)
gather_still ch t s slots sheet e h = record {
  format = refl;
  next = refl;
  opened = refl;
  picture = refl;
  slab = λ k. shows_refl (ch.slab k);
  sheet = λ k. put_pick ch.sheet s sheet k (λ x. ch.sheet k ≡ x) (λ i. ap ch.sheet i ∙ h) (λ _. refl);
  table = λ k. put_pick ch.table t slots k (λ x. ch.table k ≡ x) (λ i. ap ch.table i ∙ e) (λ _. refl);
  image = λ k. refl;
}

image_like : (ch : Chain) (i : ℕ) (r : Result (List ℕ) Fault) (bytes : List ℕ) → ch.image i ≡ bytes → Like (settled r ch (with_image ch i)) (with_image ch i (overwritten r bytes))
image_like ch i (Ok new) bytes e = record {
  format = refl;
  next = refl;
  opened = refl;
  picture = refl;
  slab = λ k. shows_refl (ch.slab k);
  sheet = λ k. refl;
  table = λ k. refl;
  image = λ k. refl;
}
image_like ch i (Err fault) bytes e = record {
  format = refl;
  next = refl;
  opened = refl;
  picture = refl;
  slab = λ k. shows_refl (ch.slab k);
  sheet = λ k. refl;
  table = λ k. refl;
  image = λ k. put_pick ch.image i bytes k (λ x. ch.image k ≡ x) (λ j. ap ch.image j ∙ e) (λ _. refl);
}

-- an image that a call overwrites on acceptance alone
overwritten_like : (ch : Chain) (i : ℕ) (r : Result (List ℕ) Fault) (bytes bytes' : List ℕ) → ch.image i ≡ bytes → bytes' ≡ overwritten r bytes →
    Like (settled r ch (with_image ch i)) (with_image ch i bytes')
overwritten_like ch i r bytes bytes' e h = subst (λ x. Like (settled r ch (with_image ch i)) (with_image ch i x)) (sym h) (image_like ch i r bytes e)

pub delivered_step : (slots : List (Slot ℕ)) (bytes bytes' : List ℕ) (said : Result (Unit {0}) Fault) → said ≡ done (delivering slots) → bytes' ≡ overwritten (delivering slots) bytes →
    DeliverStep slots bytes bytes' said
delivered_step slots bytes bytes' said answer image ch t i et ei =
    record {
      leaves = overwritten_like ch i (delivering (ch.table t)) bytes bytes' ei (image ∙ ap (λ l. overwritten (delivering l) bytes) (sym et));
      answers = ap (λ l. imaged (done (delivering l))) et ∙ ap imaged (sym answer);
    }

pub sealed_step : (given bytes bytes' : List ℕ) (said : Result (Unit {0}) Fault) → Seals given bytes bytes' said → SealStep given bytes bytes' said
sealed_step given bytes bytes' said q ch i e =
    record { leaves = overwritten_like ch i (sealing given) bytes bytes' e q.image; answers = ap imaged (sym q.answer) }

module _ (f : Format) (first stripe column : ℕ) (bytes : List ℕ) (r : Record) (entry exit : Grid) (said : Result (Unit {0}) Fault) where
  pub place_step : Places f first stripe column bytes r entry exit said → PlaceStep f first stripe column bytes r entry exit said
  place_step q ch p image ef ep e1 eb v = record {
    leaves = subst (λ (o : Option Picture). Like (place_after o ch stripe column image.bytes r) (with_slab ch stripe exit)) (sym ep)
        (slab_like ch stripe (with_words (ch.slab stripe) (placed_at (placing_on ch p stripe column image.bytes r) (ch.slab stripe).word column)) exit (record {
          rows = v.rows ∙ sym q.rows;
          words = v.words ∙ sym q.words;
          word = λ i j hi hj. along i j hi hj ∙ ap (λ (x : Result Block Fault). placed_at x entry.word column i j) same ∙ sym (q.word i j (omega (arith, v.rows)) (omega (arith, v.words)));
        }));
    answers = ap (λ (o : Option Picture). place_answer o ch stripe column image.bytes r) ep ∙ ap (λ x. placed (done x)) (judged ∙ same) ∙ ap placed (sym q.answer);
  }
    where
      same : placing_on (shown ch entry) p stripe column image.bytes r ≡ placing f first stripe column entry.rows entry.words bytes r
      same = λ i. placing (ef i) (e1 i) stripe column entry.rows entry.words (eb i) r

      judged : placing_on ch p stripe column image.bytes r ≡ placing_on (shown ch entry) p stripe column image.bytes r
      judged = λ i. placing ch.format p.first stripe column (v.rows i) (v.words i) image.bytes r

      along : (i j : ℕ) → i < (ch.slab stripe).rows → j < (ch.slab stripe).words →
          placed_at (placing_on ch p stripe column image.bytes r) (ch.slab stripe).word column i j ≡ placed_at (placing_on (shown ch entry) p stripe column image.bytes r) entry.word column i j
      along i j hi hj =
          elim (cases_eq (j / 32) column) [
            | inl q ↦ placed_same stripe column ch (shown ch entry) (shown_same ch entry stripe column v) p image.bytes r i j hi hj q
            | inr n ↦ placed_elsewhere (placing_on ch p stripe column image.bytes r) (ch.slab stripe).word column i j n ∙ v.word i j hi hj ∙ sym (placed_elsewhere (placing_on (shown ch entry) p stripe column image.bytes r) entry.word column i j n)
          ]

module _ (g : Gathering) (stripe column : ℕ) (grid : Grid) (slots slots' : List (Slot ℕ)) (sheet sheet' : List (Slot Record)) (said : Result Block Fault) where
  pub gather_step : Gathers g stripe column grid slots slots' sheet sheet' said → GatherStep g stripe column grid slots slots' sheet sheet' said
  gather_step q ch t v et es = record {
    leaves = subst (λ (x : Result Block Fault). Like (settled x ch (gather_after ch t stripe column)) (with_sheet (with_table ch t slots') stripe sheet')) (sym same)
        (go said q.slots_after q.sheet_at_end);
    answers = ap brought same;
  }
    where
      same : gathered_on ch g t stripe column ≡ said
      same =
          gather_answer stripe column ch (shown ch grid) (shown_same ch grid stripe column v) g t
          ∙ (λ i. gathered g stripe column grid.rows grid.words grid.word (length (et i)) (length (es i)))
          ∙ sym q.answer

      go : (x : Result Block Fault) → slots' ≡ settled x slots (elements_after stripe column slots) → sheet' ≡ settled x sheet (sheet_after column sheet) →
          Like (settled x ch (gather_after ch t stripe column)) (with_sheet (with_table ch t slots') stripe sheet')
      go (Ok b) h k =
          gather_like ch t stripe (elements_after stripe column (ch.table t) b) slots' (sheet_after column (ch.sheet stripe) b) sheet'
          (ap (λ l. elements_after stripe column l b) et ∙ sym h) (ap (λ l. sheet_after column l b) es ∙ sym k)
      go (Err fault) h k = gather_still ch t stripe slots' sheet' (et ∙ sym h) (es ∙ sym k)

-- steps are a run over rasters, whose answers are those that were got
lived : {one last : Chain} {calls : List Call} {said : List Answer} → Steps one calls said last → (lives : Lives one calls last) × (said ≡ heard lives)
lived ended = (rests, refl)
lived (onward step rest) =
    let r = lived rest in
    (moves step.leaves r.0, ap₂ (λ x y. x ∷ y) (sym step.answers) r.1)

pub steps_run : StepsMakeARun
steps_run one last calls said steps =
    let l = lived steps in
    let c = covers one last calls l.0 in
    (c.0, l.1 ∙ c.1)
