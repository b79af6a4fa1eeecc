-- A run over any rasters goes as the run of the definitions: each call takes chains that show the same to chains that show the same.
use Rattle.std.proofs.Common.{◌≡◌, ℕ, suc, ◌/◌, ◌<◌, List, ◌∷◌, length, get_or, Some, None, Option, Result, sym, refl, ap, ◌∙◌, subst, ap₂, inl, inr, arith}
use Rattle.std.proofs.lemmas.Bool.{cases_eq}
use Rattle.fault.specs.declared.Fault.{Fault}
use Rattle.fault.specs.Refusing.{done}
use Rattle.record.specs.declared.record.Record.{Record}
use Rattle.slots.specs.declared.slot.Slot.TheVariants.{Empty}
use Rattle.slots.specs.Slots.{cleared}
use Rattle.format.specs.Formats.{next_first}
use Rattle.image.specs.Image.{sealing}
use Rattle.inserter.specs.Place.{placed_at}
use Rattle.extractor.specs.Gather.{settled, starting, elements_after, sheet_after}
use Rattle.extractor.specs.Delivery.{delivering}
use Rattle.damage.specs.Chain.{Picture, Chain, with_slab, with_image, with_words, painted}
use Rattle.damage.specs.Calls.{Call, seal, opens, place, close, start, gather, deliver, paint, imaged, started, brought, answer, after, placing_on, gathered_on, open_answer, close_answer, open_after, close_after, place_after, start_after, gather_after}
use Rattle.damage.specs.Runs.{run}
use Rattle.damage.specs.Rasters.{Shows, Like, Lives, rests, moves, heard, trace, Covers}
use Rattle.damage.proofs.Pieces.{put_both, settled_both}
use Rattle.damage.proofs.Columns.{placed_elsewhere, painted_alike}
use Rattle.damage.proofs.Apart.{Same, placed_same, place_answer_lem, gather_answer}

like_refl : (x : Chain) → Like x x
like_refl x = record {
  format = refl;
  next = refl;
  opened = refl;
  picture = refl;
  slab = λ s. record { rows = refl; words = refl; word = λ i j a b. refl };
  sheet = λ s. refl;
  table = λ t. refl;
  image = λ i. refl;
}

like_trans : (x y z : Chain) → Like x y → Like y z → Like x z
like_trans x y z v w = record {
  format = v.format ∙ w.format;
  next = v.next ∙ w.next;
  opened = v.opened ∙ w.opened;
  picture = v.picture ∙ w.picture;
  slab = λ s. record {
    rows = (v.slab s).rows ∙ (w.slab s).rows;
    words = (v.slab s).words ∙ (w.slab s).words;
    word = λ i j a b. (v.slab s).word i j a b ∙ (w.slab s).word i j (omega (arith, (v.slab s).rows)) (omega (arith, (v.slab s).words));
  };
  sheet = λ s. v.sheet s ∙ w.sheet s;
  table = λ t. v.table t ∙ w.table t;
  image = λ i. v.image i ∙ w.image i;
}

module _ (one two : Chain) (v : Like one two) where
  -- chains that show the same look the same from every macroblock
  like_same : (s c : ℕ) → Same s c one two
  like_same s c = record {
    format = v.format;
    next = v.next;
    opened = v.opened;
    picture = v.picture;
    rows = (v.slab s).rows;
    words = (v.slab s).words;
    word = λ i j a b e. (v.slab s).word i j a b;
    sheet = ap length (v.sheet s);
    slot = ap (λ l. get_or l c Empty) (v.sheet s);
    tables = λ t. ap length (v.table t);
  }

  like_answer : (call : Call) → answer one call ≡ answer two call
  like_answer (seal bytes i) = refl
  like_answer opens = ap open_answer v.picture
  like_answer (place s c image x) = place_answer_lem s c one two (like_same s c) image.bytes x
  like_answer close = ap close_answer v.picture
  like_answer (start t number first) = ap (λ l. started (starting number first (length l))) (v.table t)
  like_answer (gather g t s c) = ap brought (gather_answer s c one two (like_same s c) g t)
  like_answer (deliver t i) = ap (λ l. imaged (done (delivering l))) (v.table t)
  like_answer (paint s c left) = refl

  slab_like : (s : ℕ) (a b : ℕ → ℕ → ℕ) → ((i j : ℕ) → i < (one.slab s).rows → j < (one.slab s).words → a i j ≡ b i j) →
      Like (with_slab one s (with_words (one.slab s) a)) (with_slab two s (with_words (two.slab s) b))
  slab_like s a b e = record {
    format = v.format;
    next = v.next;
    opened = v.opened;
    picture = v.picture;
    slab = λ k. put_both Shows one.slab two.slab s (with_words (one.slab s) a) (with_words (two.slab s) b) k
        (λ _. record { rows = (v.slab s).rows; words = (v.slab s).words; word = e }) (v.slab k);
    sheet = v.sheet;
    table = v.table;
    image = v.image;
  }

  place_like : (s c : ℕ) (image : List ℕ) (x : Record) → Like (place_after one.picture one s c image x) (place_after two.picture two s c image x)
  place_like s c image x = subst (λ q. Like (place_after one.picture one s c image x) (place_after q two s c image x)) v.picture (go one.picture)
    where
      go : (p : Option Picture) → Like (place_after p one s c image x) (place_after p two s c image x)
      go None = v
      go (Some p) = slab_like s (placed_at (placing_on one p s c image x) (one.slab s).word c) (placed_at (placing_on two p s c image x) (two.slab s).word c) (λ i j hi hj.
          elim (cases_eq (j / 32) c) [
            | inl q ↦ placed_same s c one two (like_same s c) p image x i j hi hj q
            | inr n ↦ placed_elsewhere (placing_on one p s c image x) (one.slab s).word c i j n ∙ (v.slab s).word i j hi hj ∙ sym (placed_elsewhere (placing_on two p s c image x) (two.slab s).word c i j n)
          ])

  open_like : Like (open_after one.picture one) (open_after two.picture two)
  open_like = subst (λ q. Like (open_after one.picture one) (open_after q two)) v.picture (go one.picture)
    where
      go : (p : Option Picture) → Like (open_after p one) (open_after p two)
      go None = record {
        format = v.format;
        next = v.next;
        opened = ap suc v.opened;
        picture = λ i. Some (record { ordinal = v.opened i; first = v.next i });
        slab = v.slab;
        sheet = v.sheet;
        table = v.table;
        image = v.image;
      }
      go (Some p) = v

  close_like : Like (close_after one.picture one) (close_after two.picture two)
  close_like = subst (λ q. Like (close_after one.picture one) (close_after q two)) v.picture (go one.picture)
    where
      go : (p : Option Picture) → Like (close_after p one) (close_after p two)
      go None = v
      go (Some p) = record {
        format = v.format;
        next = ap (λ f. next_first f p.first) v.format;
        opened = v.opened;
        picture = refl;
        slab = v.slab;
        sheet = v.sheet;
        table = v.table;
        image = v.image;
      }

  image_like : (i : ℕ) (a b : Result (List ℕ) Fault) → a ≡ b → Like (settled a one (with_image one i)) (settled b two (with_image two i))
  image_like i a b e = settled_both Like a b one two (with_image one i) (with_image two i) e v (λ x _. record {
    format = v.format;
    next = v.next;
    opened = v.opened;
    picture = v.picture;
    slab = v.slab;
    sheet = v.sheet;
    table = v.table;
    image = λ k. put_both (λ x y. x ≡ y) one.image two.image i x x k (λ _. refl) (v.image k);
  })

  like_step : (call : Call) → Like (after one call) (after two call)
  like_step (seal bytes i) = image_like i (sealing bytes) (sealing bytes) refl
  like_step opens = open_like
  like_step (place s c image x) = place_like s c image.bytes x
  like_step close = close_like
  like_step (start t number first) =
      settled_both Like (starting number first (length (one.table t))) (starting number first (length (two.table t))) one two (λ _. start_after one t) (λ _. start_after two t)
      (ap (λ l. starting number first (length l)) (v.table t)) v (λ _ _. record {
        format = v.format;
        next = v.next;
        opened = v.opened;
        picture = v.picture;
        slab = v.slab;
        sheet = v.sheet;
        table = λ u. put_both (λ x y. x ≡ y) one.table two.table t _ _ u (λ _. ap cleared (v.table t)) (v.table u);
        image = v.image;
      })
  like_step (gather g t s c) =
      settled_both Like (gathered_on one g t s c) (gathered_on two g t s c) one two (gather_after one t s c) (gather_after two t s c)
      (gather_answer s c one two (like_same s c) g t) v (λ b _. record {
        format = v.format;
        next = v.next;
        opened = v.opened;
        picture = v.picture;
        slab = v.slab;
        sheet = λ u. put_both (λ x y. x ≡ y) one.sheet two.sheet s _ _ u (λ _. ap (λ l. sheet_after c l b) (v.sheet s)) (v.sheet u);
        table = λ u. put_both (λ x y. x ≡ y) one.table two.table t _ _ u (λ _. ap (λ l. elements_after s c l b) (v.table t)) (v.table u);
        image = v.image;
      })
  like_step (deliver t i) = image_like i (delivering (one.table t)) (delivering (two.table t)) (ap delivering (v.table t))
  like_step (paint s c left) = slab_like s (painted (one.slab s).word c left) (painted (two.slab s).word c left) (λ i j hi hj.
      painted_alike (one.slab s).word (two.slab s).word c left left i j ((v.slab s).word i j hi hj) (λ i j _. refl))

along : (model : Chain) {one last : Chain} {calls : List Call} → Like model one → (lives : Lives one calls last) → Like (run model calls) last × (heard lives ≡ trace model calls)
along model v rests = (v, refl)
along model v (moves {one} {two} {last} {call} {calls} h rest) =
    let r = along (after model call) (like_trans (after model call) (after one call) two (like_step model one v call) h) rest in
    (r.0, ap₂ (λ x y. x ∷ y) (sym (like_answer model one v call)) r.1)

pub covers : Covers
covers one last calls lives = along one (like_refl one) lives
