-- The words, answers and slot of a macroblock depend only on what befalls it: a lemma for each call, then along two runs.
use Rattle.std.proofs.Common.{◌≡◌, ℕ, suc, ◌+◌, ◌/◌, ◌<◌, Bool, true, false, cond, eqb, ◌⊎◌, List, ◌∷◌, length, get_or, set, replicate, Some, None, Ok, Err, Option, Result, sym, refl, ap, ◌∙◌, subst, ap₂, subst₂, inl, inr, arith}
use Rattle.std.proofs.lemmas.Bool.{cases_eq, and_parts, eqb-true, true≢false}
use Rattle.std.proofs.lemmas.List.{length-set, length-replicate, get_or-set_other}
use Rattle.fault.specs.declared.Fault.{Fault}
use Rattle.fault.specs.Refusing.{then, done}
use Rattle.record.specs.declared.record.Record.{Record}
use Rattle.record.specs.declared.record.Block.{Block}
use Rattle.slots.specs.declared.slot.Slot.{Slot}
use Rattle.slots.specs.declared.slot.Slot.TheVariants.{Empty}
use Rattle.record.specs.Equality.{is_same_record}
use Rattle.slots.specs.Slots.{offered, cleared}
use Rattle.block.specs.Code.{rows_of, decoded}
use Rattle.format.specs.declared.table.Format.{Format}
use Rattle.format.specs.Formats.{is_slab, in_format, index_of, next_first}
use Rattle.image.specs.Image.{sealing}
use Rattle.inserter.specs.Place.{placed_at}
use Rattle.inserter.proofs.Placings.{accepted_parts}
use Rattle.extractor.specs.declared.gathering.Gathering.{Gathering}
use Rattle.extractor.specs.Gather.{settled, starting, admitted, expected, gathered, elements_after, sheet_after}
use Rattle.extractor.specs.Delivery.{delivering}
use Rattle.damage.specs.Chain.{Picture, Chain, with_slab, with_sheet, with_table, with_image, with_words, painted}
use Rattle.damage.specs.Calls.{Call, place, start, gather, paint, placed, started, brought, answer, after, placing_on, gathered_on, open_answer, place_answer, close_answer, open_after, close_after, place_after, start_after, gather_after}
use Rattle.damage.specs.Runs.{New, run, concerns, answers, slot_of, carried_by}
use Rattle.damage.specs.Damage.{SameWords, Beside, Alike, seals, openings, places, closes, starts, gathers, delivers, paints, AlikeRuns, end, more, Apart}
use Rattle.damage.proofs.Pieces.{cond_rel, put_pick, put_both, then_alike, settled_case, settled_both, set_alike, slab_parts, format_parts, admitted_parts}
use Rattle.damage.proofs.Columns.{carrying_even, carried_alike, placed_elsewhere, painted_elsewhere, embedded_alike, painted_alike}

-- two chains look the same from one macroblock
pub record Same (s c : ℕ) (one two : Chain) : Type 0 where
  pub format : one.format ≡ two.format
  pub next : one.next ≡ two.next
  pub opened : one.opened ≡ two.opened
  pub picture : one.picture ≡ two.picture
  pub rows : (one.slab s).rows ≡ (two.slab s).rows
  pub words : (one.slab s).words ≡ (two.slab s).words
  pub word : SameWords one two s c
  pub sheet : length (one.sheet s) ≡ length (two.sheet s)
  pub slot : slot_of one s c ≡ slot_of two s c
  pub tables : (t : ℕ) → length (one.table t) ≡ length (two.table t)

pub same_refl : (s c : ℕ) (x : Chain) → Same s c x x
same_refl s c x = record
    { format = refl; next = refl; opened = refl; picture = refl; rows = refl; words = refl; word = λ i j a b e. refl; sheet = refl; slot = refl; tables = λ t. refl }

pub same_sym : (s c : ℕ) (x y : Chain) → Same s c x y → Same s c y x
same_sym s c x y v = record {
  format = sym v.format;
  next = sym v.next;
  opened = sym v.opened;
  picture = sym v.picture;
  rows = sym v.rows;
  words = sym v.words;
  word = λ i j a b e. sym (v.word i j (omega (arith, v.rows)) (omega (arith, v.words)) e);
  sheet = sym v.sheet;
  slot = sym v.slot;
  tables = λ t. sym (v.tables t);
}

pub same_trans : (s c : ℕ) (x y z : Chain) → Same s c x y → Same s c y z → Same s c x z
same_trans s c x y z v w = record {
  format = v.format ∙ w.format;
  next = v.next ∙ w.next;
  opened = v.opened ∙ w.opened;
  picture = v.picture ∙ w.picture;
  rows = v.rows ∙ w.rows;
  words = v.words ∙ w.words;
  word = λ i j a b e. v.word i j a b e ∙ w.word i j (omega (arith, v.rows)) (omega (arith, v.words)) e;
  sheet = v.sheet ∙ w.sheet;
  slot = v.slot ∙ w.slot;
  tables = λ t. v.tables t ∙ w.tables t;
}

-- other words on a slab, the same in the column
pub with_words_lem : (s c k : ℕ) (ch : Chain) (word : ℕ → ℕ → ℕ) → (s ≡ k → (i j : ℕ) → j / 32 ≡ c → (ch.slab k).word i j ≡ word i j) →
    Same s c ch (with_slab ch k (with_words (ch.slab k) word))
with_words_lem s c k ch word h =
    let g = with_words (ch.slab k) word in
    record {
      format = refl;
      next = refl;
      opened = refl;
      picture = refl;
      rows = put_pick ch.slab k g s (λ x. (ch.slab s).rows ≡ x.rows) (λ e. ap (λ n. (ch.slab n).rows) e) (λ _. refl);
      words = put_pick ch.slab k g s (λ x. (ch.slab s).words ≡ x.words) (λ e. ap (λ n. (ch.slab n).words) e) (λ _. refl);
      word = λ i j a b q. put_pick ch.slab k g s (λ x. (ch.slab s).word i j ≡ x.word i j) (λ e. ap (λ n. (ch.slab n).word i j) e ∙ h e i j q) (λ _. refl);
      sheet = refl;
      slot = refl;
      tables = λ t. refl;
    }

with_table_lem : (s c k : ℕ) (ch : Chain) (ts : List (Slot ℕ)) → length (ch.table k) ≡ length ts → Same s c ch (with_table ch k ts)
with_table_lem s c k ch ts e = record {
  format = refl;
  next = refl;
  opened = refl;
  picture = refl;
  rows = refl;
  words = refl;
  word = λ i j a b q. refl;
  sheet = refl;
  slot = refl;
  tables = λ t. put_pick ch.table k ts t (λ x. length (ch.table t) ≡ length x) (λ i. ap (λ n. length (ch.table n)) i ∙ e) (λ _. refl);
}

with_sheet_lem : (s c k : ℕ) (ch : Chain) (ts : List (Slot Record)) → length (ch.sheet k) ≡ length ts → (s ≡ k → get_or (ch.sheet k) c Empty ≡ get_or ts c Empty) → Same s c ch (with_sheet ch k ts)
with_sheet_lem s c k ch ts e h = record {
  format = refl;
  next = refl;
  opened = refl;
  picture = refl;
  rows = refl;
  words = refl;
  word = λ i j a b q. refl;
  sheet = put_pick ch.sheet k ts s (λ x. length (ch.sheet s) ≡ length x) (λ i. ap (λ n. length (ch.sheet n)) i ∙ e) (λ _. refl);
  slot = put_pick ch.sheet k ts s (λ x. get_or (ch.sheet s) c Empty ≡ get_or x c Empty) (λ i. ap (λ n. get_or (ch.sheet n) c Empty) i ∙ h i) (λ _. refl);
  tables = λ t. refl;
}

-- calls on other macroblocks
pub place_elsewhere : (s c k d : ℕ) (ch : Chain) (p : Option Picture) (image : List ℕ) (x : Record) → (s ≡ k → c ≡ d → ⊥) → Same s c ch (place_after p ch k d image x)
place_elsewhere s c k d ch None image x h = same_refl s c ch
place_elsewhere s c k d ch (Some p) image x h =
    with_words_lem s c k ch (placed_at (placing_on ch p k d image x) (ch.slab k).word d)
    (λ e i j q. sym (placed_elsewhere (placing_on ch p k d image x) (ch.slab k).word d i j (λ z. h e (sym q ∙ z))))

pub paint_elsewhere : (s c k d : ℕ) (ch : Chain) (left : ℕ → ℕ → ℕ) → (s ≡ k → c ≡ d → ⊥) → Same s c ch (after ch (paint k d left))
paint_elsewhere s c k d ch left h =
    with_words_lem s c k ch (painted (ch.slab k).word d left) (λ e i j q. sym (painted_elsewhere (ch.slab k).word d left i j (λ z. h e (sym q ∙ z))))

pub start_kept : (s c : ℕ) (ch : Chain) (t number first : ℕ) → Same s c ch (after ch (start t number first))
start_kept s c ch t number first =
    settled_case (Same s c ch) (starting number first (length (ch.table t))) ch (λ _. start_after ch t) (same_refl s c ch)
    (λ _ _. with_table_lem s c t ch (cleared (ch.table t)) (sym (length-replicate (length (ch.table t)) Empty)))

pub image_kept : (s c : ℕ) (ch : Chain) (i : ℕ) (r : Result (List ℕ) Fault) → Same s c ch (settled r ch (with_image ch i))
image_kept s c ch i r = settled_case (Same s c ch) r ch (with_image ch i) (same_refl s c ch) (λ bytes _. record
    { format = refl; next = refl; opened = refl; picture = refl; rows = refl; words = refl; word = λ i j a b e. refl; sheet = refl; slot = refl; tables = λ t. refl })

pub gather_elsewhere : (s c k d t : ℕ) (g : Gathering) (ch : Chain) → (s ≡ k → c ≡ d → ⊥) → Same s c ch (after ch (gather g t k d))
gather_elsewhere s c k d t g ch h =
    settled_case (Same s c ch) (gathered_on ch g t k d) ch (gather_after ch t k d) (same_refl s c ch) (λ b _.
    let ts = elements_after k d (ch.table t) b in
    let us = sheet_after d (ch.sheet k) b in
    same_trans s c ch (with_table ch t ts) (with_sheet (with_table ch t ts) k us)
    (with_table_lem s c t ch ts (sym (length-set (ch.table t) (index_of k d) _)))
    (with_sheet_lem s c k (with_table ch t ts) us (sym (length-set (ch.sheet k) d _)) (λ e. sym (get_or-set_other (ch.sheet k) d c _ Empty (h e)))))

-- what the macroblock itself shows
module _ (s c : ℕ) (one two : Chain) (v : Same s c one two) where
  pub slab_same : (f : Format) → is_slab f (one.slab s).rows (one.slab s).words ≡ is_slab f (two.slab s).rows (two.slab s).words
  slab_same f = ap₂ (λ (x y : ℕ). is_slab f x y) v.rows v.words

  pub carried_same : (f : Format) → is_slab f (one.slab s).rows (one.slab s).words ≡ true → in_format f s c ≡ true → carried_by one s c ≡ carried_by two s c
  carried_same f e i =
      let p = slab_parts f (one.slab s).rows (one.slab s).words e in
      let er = p.0 in
      let ew = p.1 in
      let hc = (format_parts f s c i).1 in
      carried_alike (one.slab s).word (two.slab s).word c (λ i j h q. v.word i j (omega (arith, er)) (omega (arith, ew, hc)) q)

  -- calls on the macroblock itself
  pub placing_same : (p : Picture) (image : List ℕ) (x : Record) → placing_on one p s c image x ≡ placing_on two p s c image x
  placing_same p image x = cc (v.format, v.rows, v.words)

  pub place_answer_lem : (image : List ℕ) (x : Record) → place_answer one.picture one s c image x ≡ place_answer two.picture two s c image x
  place_answer_lem image x = subst (λ q. place_answer one.picture one s c image x ≡ place_answer q two s c image x) v.picture (go one.picture)
    where
      go : (p : Option Picture) → place_answer p one s c image x ≡ place_answer p two s c image x
      go None = refl
      go (Some p) = ap (λ r. placed (done r)) (placing_same p image x)

  pub gather_answer : (g : Gathering) (t : ℕ) → gathered_on one g t s c ≡ gathered_on two g t s c
  gather_answer g t =
      then_alike (admitted g s c (one.slab s).rows (one.slab s).words (length (one.table t)) (length (one.sheet s))) _ _
      (λ n h.
      let p = admitted_parts g s c (one.slab s).rows (one.slab s).words (length (one.table t)) (length (one.sheet s)) n h in
      ap (λ rows. then (decoded rows) (expected g s c)) (carried_same g.format p.0 p.1))
      ∙ admit v.rows v.words (v.tables t) v.sheet
    where
      admit : {r r' w w' n n' m m' : ℕ} → r ≡ r' → w ≡ w' → n ≡ n' → m ≡ m' →
          gathered g s c r w (two.slab s).word n m ≡ gathered g s c r' w' (two.slab s).word n' m'
      admit a b d e = λ i. gathered g s c (a i) (b i) (two.slab s).word (d i) (e i)

  -- other words on the slab, alike in the column
  slab_here : (a b : ℕ → ℕ → ℕ) → ((i j : ℕ) → i < (one.slab s).rows → j < (one.slab s).words → j / 32 ≡ c → a i j ≡ b i j) →
      Same s c (with_slab one s (with_words (one.slab s) a)) (with_slab two s (with_words (two.slab s) b))
  slab_here a b e =
      let g = with_words (one.slab s) a in
      let h = with_words (two.slab s) b in
      record {
        format = v.format;
        next = v.next;
        opened = v.opened;
        picture = v.picture;
        rows = put_both (λ x y. x.rows ≡ y.rows) one.slab two.slab s g h s (λ _. v.rows) v.rows;
        words = put_both (λ x y. x.words ≡ y.words) one.slab two.slab s g h s (λ _. v.words) v.words;
        word = λ i j. put_both (λ x y. i < x.rows → j < x.words → j / 32 ≡ c → x.word i j ≡ y.word i j) one.slab two.slab s g h s (λ _. e i j) (v.word i j);
        sheet = v.sheet;
        slot = v.slot;
        tables = v.tables;
      }

  -- an accepted place is on a slab, whose rows have an even number of words: the luma word after a chroma word is among them
  pub placed_same : (p : Picture) (image : List ℕ) (x : Record) (i j : ℕ) → i < (one.slab s).rows → j < (one.slab s).words → j / 32 ≡ c →
      placed_at (placing_on one p s c image x) (one.slab s).word c i j ≡ placed_at (placing_on two p s c image x) (two.slab s).word c i j
  placed_same p image x i j hi hj q =
      go (placing_on one p s c image x) refl ∙ ap (λ r. placed_at r (two.slab s).word c i j) (placing_same p image x)
    where
      go : (r : Result Block Fault) → placing_on one p s c image x ≡ r → placed_at r (one.slab s).word c i j ≡ placed_at r (two.slab s).word c i j
      go (Err f) h = v.word i j hi hj q
      go (Ok b) h =
          let a = accepted_parts one.format p.first s c (one.slab s).rows (one.slab s).words image x b h in
          let ew = (slab_parts one.format (one.slab s).rows (one.slab s).words a.slab).1 in
          embedded_alike (one.slab s).word (two.slab s).word c (rows_of b) i j (v.word i j hi hj q) (λ t.
          let o = carrying_even c i j t in
          v.word i (j + 1) hi (omega (arith, ew, o)) (omega (arith, o, q)))

  place_here : (image : List ℕ) (x : Record) → Same s c (place_after one.picture one s c image x) (place_after two.picture two s c image x)
  place_here image x = subst (λ q. Same s c (place_after one.picture one s c image x) (place_after q two s c image x)) v.picture (go one.picture)
    where
      go : (p : Option Picture) → Same s c (place_after p one s c image x) (place_after p two s c image x)
      go None = v
      go (Some p) = slab_here (placed_at (placing_on one p s c image x) (one.slab s).word c) (placed_at (placing_on two p s c image x) (two.slab s).word c) (placed_same p image x)

  paint_here : (a b : ℕ → ℕ → ℕ) → ((i j : ℕ) → j < 32 → a i j ≡ b i j) → Same s c (after one (paint s c a)) (after two (paint s c b))
  paint_here a b e = slab_here (painted (one.slab s).word c a) (painted (two.slab s).word c b) (λ i j hi hj q.
      painted_alike (one.slab s).word (two.slab s).word c a b i j (v.word i j hi hj q) e)

  gather_here : (g : Gathering) (t : ℕ) → Same s c (after one (gather g t s c)) (after two (gather g t s c))
  gather_here g t = settled_both (Same s c) (gathered_on one g t s c) (gathered_on two g t s c) one two (gather_after one t s c) (gather_after two t s c) (gather_answer g t) v (λ b _. record {
    format = v.format;
    next = v.next;
    opened = v.opened;
    picture = v.picture;
    rows = v.rows;
    words = v.words;
    word = v.word;
    sheet = put_both (λ x y. length x ≡ length y) one.sheet two.sheet s _ _ s (λ _. length-set (one.sheet s) c _ ∙ v.sheet ∙ sym (length-set (two.sheet s) c _)) v.sheet;
    slot = put_both (λ x y. get_or x c Empty ≡ get_or y c Empty) one.sheet two.sheet s _ _ s
        (λ _. set_alike (one.sheet s) (two.sheet s) c _ Empty v.sheet
        ∙ ap (λ z. get_or (set (two.sheet s) c (offered is_same_record z b.«record»)) c Empty) v.slot) v.slot;
    tables = λ u. put_both (λ x y. length x ≡ length y) one.table two.table t _ _ u
        (λ _. length-set (one.table t) (index_of s c) _ ∙ v.tables t ∙ sym (length-set (two.table t) (index_of s c) _)) (v.tables u);
  })

  open_same : Same s c (open_after one.picture one) (open_after two.picture two)
  open_same = subst (λ q. Same s c (open_after one.picture one) (open_after q two)) v.picture (go one.picture)
    where
      go : (p : Option Picture) → Same s c (open_after p one) (open_after p two)
      go None = record {
        format = v.format;
        next = v.next;
        opened = ap suc v.opened;
        picture = λ i. Some (record { ordinal = v.opened i; first = v.next i });
        rows = v.rows;
        words = v.words;
        word = v.word;
        sheet = v.sheet;
        slot = v.slot;
        tables = v.tables;
      }
      go (Some p) = v

  close_same : Same s c (close_after one.picture one) (close_after two.picture two)
  close_same = subst (λ q. Same s c (close_after one.picture one) (close_after q two)) v.picture (go one.picture)
    where
      go : (p : Option Picture) → Same s c (close_after p one) (close_after p two)
      go None = v
      go (Some p) = record {
        format = v.format;
        next = ap (λ f. next_first f p.first) v.format;
        opened = v.opened;
        picture = refl;
        rows = v.rows;
        words = v.words;
        word = v.word;
        sheet = v.sheet;
        slot = v.slot;
        tables = v.tables;
      }

-- from calls elsewhere on both chains
both_kept : (s c : ℕ) (one two x y : Chain) → Same s c one two → Same s c one x → Same s c two y → Same s c x y
both_kept s c one two x y v a b = same_trans s c x one y (same_sym s c one x a) (same_trans s c one two y v b)

-- a call on a macroblock is on this one, or elsewhere
pub cases_macroblock : (s c k d : ℕ) → ((s ≡ k) × (c ≡ d)) ⊎ (s ≡ k → c ≡ d → ⊥)
cases_macroblock s c k d = go (cases_eq s k) (cases_eq c d)
  where
    go : (s ≡ k) ⊎ (s ≡ k → ⊥) → (c ≡ d) ⊎ (c ≡ d → ⊥) → ((s ≡ k) × (c ≡ d)) ⊎ (s ≡ k → c ≡ d → ⊥)
    go (inl p) (inl q) = inl (p, q)
    go (inl p) (inr q) = inr (λ _ z. q z)
    go (inr p) q = inr (λ z _. p z)

module _ (S : ℕ → ℕ → Bool) (s c : ℕ) (out : S s c ≡ false) where
  step : (one two : Chain) {a b : Call} → Same s c one two → Alike S a b → Same s c (after one a) (after two b)
  step one two v (seals bytes i) = both_kept s c one two _ _ v (image_kept s c one i (sealing bytes)) (image_kept s c two i (sealing bytes))
  step one two v openings = open_same s c one two v
  step one two v (places k d image x y e) =
      elim (cases_macroblock s c k d) [
        | inl p ↦ subst₂ (λ k d. (S k d ≡ false → x ≡ y) → Same s c (after one (place k d image x)) (after two (place k d image y))) p.0 p.1
            (λ e. subst (λ y. Same s c (after one (place s c image x)) (after two (place s c image y))) (e out) (place_here s c one two v image.bytes x)) e
        | inr n ↦ both_kept s c one two _ _ v (place_elsewhere s c k d one one.picture image.bytes x n) (place_elsewhere s c k d two two.picture image.bytes y n)
      ]
  step one two v closes = close_same s c one two v
  step one two v (starts t number first) = both_kept s c one two _ _ v (start_kept s c one t number first) (start_kept s c two t number first)
  step one two v (gathers g t k d) =
      elim (cases_macroblock s c k d) [
        | inl p ↦ subst₂ (λ k d. Same s c (after one (gather g t k d)) (after two (gather g t k d))) p.0 p.1 (gather_here s c one two v g t)
        | inr n ↦ both_kept s c one two _ _ v (gather_elsewhere s c k d t g one n) (gather_elsewhere s c k d t g two n)
      ]
  step one two v (delivers t i) = both_kept s c one two _ _ v (image_kept s c one i (delivering (one.table t))) (image_kept s c two i (delivering (two.table t)))
  step one two v (paints k d x y e) =
      elim (cases_macroblock s c k d) [
        | inl p ↦ subst₂ (λ k d. (S k d ≡ false → (i j : ℕ) → j < 32 → x i j ≡ y i j) → Same s c (after one (paint k d x)) (after two (paint k d y))) p.0 p.1
            (λ e. paint_here s c one two v x y (e out)) e
        | inr n ↦ both_kept s c one two _ _ v (paint_elsewhere s c k d one x n) (paint_elsewhere s c k d two y n)
      ]

  concerned : {a b : Call} → Alike S a b → concerns s c a ≡ concerns s c b
  concerned (seals bytes i) = refl
  concerned openings = refl
  concerned (places k d image x y e) = refl
  concerned closes = refl
  concerned (starts t number first) = refl
  concerned (gathers g t k d) = refl
  concerned (delivers t i) = refl
  concerned (paints k d x y e) = refl

  said : (one two : Chain) {a b : Call} → Same s c one two → Alike S a b → concerns s c a ≡ true → answer one a ≡ answer two b
  said one two v (seals bytes i) h = refl
  said one two v openings h = ap open_answer v.picture
  said one two v (places k d image x y e) h =
      let p = and_parts (eqb k s) (eqb d c) h in
      subst₂ (λ k d. (S k d ≡ false → x ≡ y) → answer one (place k d image x) ≡ answer two (place k d image y)) (sym (eqb-true k s p.0)) (sym (eqb-true d c p.1))
      (λ e. place_answer_lem s c one two v image.bytes x ∙ ap (λ y. answer two (place s c image y)) (e out)) e
  said one two v closes h = ap close_answer v.picture
  said one two v (starts t number first) h = ap (λ n. started (starting number first n)) (v.tables t)
  said one two v (gathers g t k d) h =
      let p = and_parts (eqb k s) (eqb d c) h in
      subst₂ (λ k d. answer one (gather g t k d) ≡ answer two (gather g t k d)) (sym (eqb-true k s p.0)) (sym (eqb-true d c p.1))
      (ap brought (gather_answer s c one two v g t))
  said one two v (delivers t i) h = absurd (true≢false (sym h))
  said one two v (paints k d x y e) h = refl

  along : (one two : Chain) {xs ys : List Call} → Same s c one two → AlikeRuns S xs ys → Same s c (run one xs) (run two ys) × (answers one xs s c ≡ answers two ys s c)
  along one two v end = (v, refl)
  along one two v (more {a} {b} {xs} {ys} h hs) =
      let r = along (after one a) (after two b) (step one two v h) hs in (
        r.0,
        ap (λ (t : Bool). cond t (answer one a ∷ answers (after one a) xs s c) (answers (after one a) xs s c)) (concerned h)
            ∙ cond_rel (λ x y. x ≡ y) (concerns s c b) _ _ _ _ (λ e. ap₂ (λ x y. x ∷ y) (said one two v h (concerned h ∙ e)) r.1) (λ _. r.1),
      )

-- two new chains beside each other look the same from a macroblock outside the set
beside : (S : ℕ → ℕ → Bool) (one two : Chain) → New one → New two → Beside S one two → (s c : ℕ) → S s c ≡ false → Same s c one two
beside S one two n m b s c out = record {
  format = b.format;
  next = b.next;
  opened = n.none_opened ∙ sym m.none_opened;
  picture = n.none_open ∙ sym m.none_open;
  rows = b.rows s;
  words = b.words s;
  word = b.outside s c out;
  sheet = b.sheets s;
  slot = ap (λ l. get_or l c Empty) (n.sheets s ∙ ap (λ k. replicate k Empty) (b.sheets s) ∙ sym (m.sheets s));
  tables = b.tables;
}

pub apart : Apart
apart S one two n m b xs ys a s c out =
    let r = along S s c out one two (beside S one two n m b s c out) a in
    (r.0.word, r.1, r.0.slot)
