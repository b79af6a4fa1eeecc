-- The sealed image survives the loss of fewer macroblocks than its elements have carriers.
use Rattle.std.proofs.Common.{◌≡◌, ℕ, ◌<◌, Bool, true, false, not, eqb, ◌⊎◌, List, [], ◌∷◌, ◌++◌, map, length, get_or, is_ok, Some, None, Ok, Err, Option, Result, sym, refl, ap, ◌∙◌, subst, ap₂, subst₂, inl, inr, append_assoc, arith}
use Rattle.std.proofs.lemmas.Bool.{cases_eq, cases_Bool, eqb-true, eq-eqb, cond-true, cond-false, not-false, not_from_true, true≢false}
use Rattle.std.proofs.lemmas.List.{get_or-set_same, get_or-set_other, get_or-replicate, length-replicate, append-nil}
use Rattle.std.proofs.lemmas.Simd.{map-map}
use Rattle.std.proofs.lemmas.List.FromFn.{fill_by_all}
use Rattle.std.specs.List.{range_with_len}
use Rattle.fault.specs.declared.Fault.{Fault}
use Rattle.fault.specs.declared.Fault.TheVariants.{Length, SlabExtent, FrameOrField, UnexpectedReference, EmptySlot, DisputedSlot, NotInFormat}
use Rattle.fault.specs.Refusing.{refuse, then, done}
use Rattle.column.specs.Column.{carried_rows}
use Rattle.record.specs.declared.record.Record.{Record}
use Rattle.record.specs.declared.record.Block.{Block}
use Rattle.slots.specs.declared.slot.Slot.{Slot}
use Rattle.slots.specs.declared.slot.Slot.TheVariants.{Empty, Held}
use Rattle.slots.specs.declared.slot.State.{State}
use Rattle.std.proofs.lemmas.Bool.Decides.{Decides-eqb}
use Rattle.slots.specs.Slots.{state_of, place_of, offered, offered_at, cleared, lowest_in}
use Rattle.slots.proofs.Offering.{settled as offer-settles}
use Rattle.slots.proofs.Searching.{lowest_is}
use Rattle.block.specs.Code.{decoded}
use Rattle.format.specs.declared.table.Format.{Format}
use Rattle.format.specs.Formats.{number_of, columns_of, stripes_of, carriers_of, frame_of, accepted, first_of, is_slab, in_format, reference_of, index_of, element_count}
use Rattle.format.specs.Carriers.{count}
use Rattle.format.proofs.Carried.{left_of_sets}
use Rattle.image.specs.Elements.{element_of, elements_of, joined}
use Rattle.image.specs.Image.{judged, receiving, sealing}
use Rattle.image.proofs.Joining.{joined_elements}
use Rattle.inserter.specs.Place.{agrees, block_for}
use Rattle.inserter.proofs.Placings.{passed_ok, went_on}
use Rattle.extractor.specs.declared.gathering.Gathering.{Gathering}
use Rattle.extractor.specs.Gather.{settled, starting, admitted, expected, elements_after}
use Rattle.extractor.specs.Delivery.{found, held_in, collected, delivering}
use Rattle.damage.specs.Chain.{Picture, Chain, Image, with_table, with_image}
use Rattle.damage.specs.Calls.{Call, seal, opens, place, close, start, gather, deliver, paint, imaged, started, brought, after, gathered_on, open_after, close_after, place_after, start_after, gather_after}
use Rattle.damage.specs.Runs.{run}
use Rattle.damage.specs.Damage.{Undisturbed, Brings, Gathered, Survives, gathering_of, start_of, since}
use Rattle.damage.proofs.Pieces.{put_here, put_pick, settled_case, refuse_refused, format_parts}
use Rattle.damage.proofs.Folds.{Placing, noted_as}
use Rattle.damage.proofs.Placings.{Known, decodes, last_known}
use Rattle.damage.proofs.Steady.{steady_run, run-++}

-- a test that does not refuse
pub refuse_pass : {A : Type 0} (test : Bool) (fault : Fault) (rest : Result A Fault) → test ≡ false → refuse test fault rest ≡ rest
refuse_pass test fault rest e = cond-false test (Err fault) rest e

-- a start that was accepted had a table of 135 slots
start_long : (number first slots : ℕ) (g : Gathering) → starting number first slots ≡ Ok g → slots ≡ 135
start_long number first slots g e =
    let a = went_on (accepted number) _ g e in
    let b = went_on (first_of first) _ g a.2 in
    let c = passed_ok (not (eqb slots element_count)) Length _ g b.2 in
    eqb-true slots 135 (not-false _ c.0)

-- a slot that is empty or holds v comes to hold v when v is offered
abbrev Fine : ℕ → Slot ℕ → Type 0
Fine v x = (x ≡ Empty) ⊎ (x ≡ Held v)

offered_fine : (x : Slot ℕ) (v : ℕ) → Fine v x → offered eqb x v ≡ Held v
offered_fine x v (inl e) = (offer-settles eqb Decides-eqb x v).filled e
offered_fine x v (inr e) = (offer-settles eqb Decides-eqb x v).equal e

-- a table that holds an image's elements delivers the image
module _ (image : Image) (slots : List (Slot ℕ)) (long : length slots ≡ 135) (holds : (i : ℕ) → i < 135 → get_or slots i Empty ≡ Held (element_of image.bytes i)) where
  abbrev element : ℕ → ℕ
  element = element_of image.bytes

  none_in : (s : State) → (s ≡ State.Held → ⊥) → lowest_in s slots ≡ None
  none_in s n = sym (lowest_is s slots None (λ k h e. n (sym e ∙ ap state_of (holds k (omega (arith, long))))))

  is_list : slots ≡ map (λ i. Held (element i)) (range_with_len 0 135)
  is_list = fill_by_all (λ i. Held (element i)) slots 135 Empty long holds

  values : map held_in slots ≡ elements_of image.bytes
  unfolding elements_of
  values = ap (map held_in) is_list ∙ map-map held_in (λ i. Held (element i)) (range_with_len 0 135)

  collects : collected slots ≡ Ok (elements_of image.bytes)
  collects =
      refuse_pass (not (eqb (length slots) element_count)) Length _ (not_from_true _ (eq-eqb (length slots) 135 long))
      ∙ ap₂ (λ x y. found x EmptySlot (found y DisputedSlot (Ok (map held_in slots)))) (none_in State.Empty (λ e. let z : ◌≡◌ {A = ℕ} 0 1 = ap place_of e in omega arith)) (none_in State.Disputed (λ e. let z : ◌≡◌ {A = ℕ} 2 1 = ap place_of e in omega arith))
      ∙ ap Ok values

  sealed : (r : Result (Unit {0}) Fault) → is_ok r ≡ true → then r (λ _. Ok image.bytes) ≡ Ok image.bytes
  sealed (Ok u) e = refl
  sealed (Err fault) e = absurd (true≢false (sym e))

  pub delivers : delivering slots ≡ Ok image.bytes
  delivers =
      ap (λ r. then r (λ elements. receiving (joined elements))) collects
      ∙ ap receiving (joined_elements image.bytes image.shape)
      ∙ sealed (judged image.bytes) image.fit

-- a gather is refused, or brings this element
abbrev Harmless : Result Block Fault → ℕ → Type 0
Harmless (Ok b) e = b.element ≡ e
Harmless (Err fault) e = Unit {0}

refused_harmless : (r : Result Block Fault) (e : ℕ) → is_ok r ≡ false → Harmless r e
refused_harmless (Ok b) e h = absurd (true≢false h)
refused_harmless (Err fault) e h = tt

brings_harmless : (r : Result Block Fault) (e : ℕ) → Brings r e → Harmless r e
brings_harmless (Ok b) e h = h
brings_harmless (Err fault) e h = absurd h

-- an intact macroblock is gathered, and brings the element of its image
pub intact_gathers : (ch : Chain) (g : Gathering) (t s c : ℕ) (q : Placing) (image : List ℕ) → g.format ≡ ch.format → length (ch.table t) ≡ 135 → length (ch.sheet s) ≡ columns_of g.format →
    Known ch.format (ch.slab s) s c q → q.picture.first ≡ g.first → q.image ≡ image → q.painted ≡ false →
    (b : Block) × (gathered_on ch g t s c ≡ Ok b) × (b.element ≡ element_of image (index_of s c))
intact_gathers ch g t s c q image ef et es h ep ei en =
    let f = ch.format in
    let b = block_for f q.picture.first s c q.image h.entry in
    let rows = (ch.slab s).rows in
    let words = (ch.slab s).words in
    let a : admitted g s c rows words (length (ch.table t)) (length (ch.sheet s)) ≡ Ok (index_of s c) =
    refuse_pass (not (eqb (length (ch.table t)) element_count)) Length _ (not_from_true _ (eq-eqb _ _ et))
    ∙ refuse_pass (not (eqb (length (ch.sheet s)) (columns_of g.format))) Length _ (not_from_true _ (eq-eqb _ _ es))
    ∙ refuse_pass (not (is_slab g.format rows words)) SlabExtent _ (not_from_true _ (ap (λ f. is_slab f rows words) ef ∙ h.accepted.slab))
    ∙ cond-true (in_format g.format s c) _ _ (ap (λ f. in_format f s c) ef ∙ h.accepted.inside) in
    let d : decoded (carried_rows (ch.slab s).word c) ≡ Ok b = ap decoded (h.here en ∙ h.rows) ∙ decodes f q.picture.first s c rows words q.image h.entry h.accepted in (
      b,
      ap₂ (λ x y. then x (λ _. then y (expected g s c))) a d
          ∙ refuse_pass (not (agrees b.picture.fr_fl_srib (frame_of g.format))) FrameOrField _
          (not_from_true _ (ap (λ f. agrees b.picture.fr_fl_srib (frame_of f)) ef ∙ h.accepted.frame))
          ∙ refuse_pass (not (eqb b.reference (reference_of g.format g.first s c))) UnexpectedReference _
          (not_from_true _ (eq-eqb _ _ (ap₂ (λ f a. reference_of f a s c) (sym ef) ep))),
      ap (λ x. element_of x (index_of s c)) ei,
    )

then_refused : {A B : Type 0} (r : Result A Fault) (next : A → Result B Fault) → is_ok r ≡ false → is_ok (then r next) ≡ false
then_refused (Ok x) next e = absurd (true≢false e)
then_refused (Err fault) next e = refl

-- nothing is gathered outside the format
outside_refused : (ch : Chain) (g : Gathering) (t s c : ℕ) → in_format g.format s c ≡ false → is_ok (gathered_on ch g t s c) ≡ false
outside_refused ch g t s c e =
    then_refused (admitted g s c (ch.slab s).rows (ch.slab s).words (length (ch.table t)) (length (ch.sheet s))) (λ _. then (decoded (carried_rows (ch.slab s).word c)) (expected g s c))
    (refuse_refused (not (eqb (length (ch.table t)) element_count)) Length _
    (refuse_refused (not (eqb (length (ch.sheet s)) (columns_of g.format))) Length _
    (refuse_refused (not (is_slab g.format (ch.slab s).rows (ch.slab s).words)) SlabExtent _
    (ap is_ok (cond-false (in_format g.format s c) (Ok (index_of s c)) (Err NotInFormat) e)))))

-- one slot of the table, along the run from the start on
module _ (new : Chain) (earlier between : List Call) (t : ℕ) (p : Picture) (image : Image) (S : ℕ → ℕ → Bool) (G : Gathered new earlier between t p image S) where
  abbrev g : Gathering
  g = gathering_of new p

  abbrev f : Format
  f = new.format

  abbrev before : Chain
  before = run new earlier

  abbrev begin : Call
  begin = start_of new t p

  abbrev from : Chain
  from = after before begin

  abbrev slot : ℕ → Chain → Slot ℕ
  slot i ch = get_or (ch.table t) i Empty

  abbrev value : ℕ → ℕ
  value i = element_of image.bytes i

  started_ok : starting (number_of f) p.first (length (before.table t)) ≡ Ok g
  started_ok = let e = G.accepted in cc

  from_is : from ≡ start_after before t
  from_is = ap (λ r. settled r before (λ _. start_after before t)) started_ok

  from_table : from.table t ≡ cleared (before.table t)
  from_table = ap (λ ch. ch.table t) from_is ∙ put_here before.table t (cleared (before.table t))

  before_long : length (before.table t) ≡ 135
  before_long = start_long (number_of f) p.first (length (before.table t)) g started_ok

  from_empty : (i : ℕ) → i < 135 → slot i from ≡ Empty
  from_empty i l = ap (λ x. get_or x i Empty) from_table ∙ get_or-replicate (length (before.table t)) i Empty Empty (omega (arith, before_long))

  from_run : (x : List Call) → run new (since new earlier t p x) ≡ run from x
  from_run x = run-++ new earlier (begin ∷ x)

  format_is : (x : List Call) → (run from x).format ≡ f
  format_is x = ap (λ ch. ch.format) (sym (from_run x)) ∙ (steady_run new (since new earlier t p x)).format

  table_long : (x : List Call) → length ((run from x).table t) ≡ 135
  table_long x = (steady_run from x).tables t ∙ ap length from_table ∙ length-replicate (length (before.table t)) Empty ∙ before_long

  sheet_long : (x : List Call) (s : ℕ) → s < stripes_of f → length ((run from x).sheet s) ≡ columns_of f
  sheet_long x s l = ap (λ ch. length (ch.sheet s)) (sym (from_run x)) ∙ (steady_run new (since new earlier t p x)).sheets s ∙ G.sheets s l

  undisturbed : (x y : List Call) (call : Call) → between ≡ x ++ call ∷ y → Undisturbed (run from x) t g call
  undisturbed x y call e = subst (λ ch. Undisturbed ch t g call) (from_run x) (G.undisturbed x y call e)

  -- a gather of a macroblock outside the set is accepted, and brings the sealed element
  clean : (x y : List Call) (s c : ℕ) → between ≡ x ++ gather g t s c ∷ y → in_format f s c ≡ true → S s c ≡ false →
      (b : Block) × (gathered_on (run from x) g t s c ≡ Ok b) × (b.element ≡ value (index_of s c))
  clean x y s c e i o =
      let k = G.outside x y s c e i o in
      let w = noted_as s c new (since new earlier t p x) k.0 in
      let q = w.placing in
      let h = subst (λ ch. Known ch.format (ch.slab s) s c q) (from_run x) (last_known s c new (since new earlier t p x) q w.is) in
      intact_gathers (run from x) g t s c q image.bytes (sym (format_is x)) (table_long x) (sheet_long x s (format_parts f s c i).0) h (ap (λ z. z.first) (w.picture ∙ k.1)) (w.image ∙ k.2) (w.clean k.3)

  -- whichever macroblock it is of, a gather on the table is refused or brings the sealed element
  brings : (x y : List Call) (s c : ℕ) → between ≡ x ++ gather g t s c ∷ y → Harmless (gathered_on (run from x) g t s c) (value (index_of s c))
  brings x y s c e = go (cases_Bool (S s c)) (cases_Bool (in_format f s c))
    where
      go : (S s c ≡ true) ⊎ (S s c ≡ false) → (in_format f s c ≡ true) ⊎ (in_format f s c ≡ false) → Harmless (gathered_on (run from x) g t s c) (value (index_of s c))
      go (inl i) z =
          subst (λ ch. Harmless (gathered_on ch g t s c) (value (index_of s c))) (from_run x)
          (elim (G.inside x y s c e i) [ inl r ↦ refused_harmless _ _ r | inr r ↦ brings_harmless _ _ r ])
      go (inr o) (inl i) = let r = clean x y s c e i o in subst (λ a. Harmless a (value (index_of s c))) (sym r.1) r.2
      go (inr o) (inr i) = refused_harmless _ _ (outside_refused (run from x) g t s c i)

  -- a slot after an offer of a sealed element
  offer_slot : (ch : Chain) (i j v : ℕ) → i < length (ch.table t) → v ≡ value j → Fine (value i) (slot i ch) →
      (get_or (offered_at eqb (ch.table t) j v) i Empty ≡ slot i ch) ⊎ (get_or (offered_at eqb (ch.table t) j v) i Empty ≡ Held (value i))
  offer_slot ch i j v l ev h = elim (cases_eq i j) [
    | inl e ↦ inr (subst (λ k. get_or (offered_at eqb (ch.table t) k v) i Empty ≡ Held (value i)) e
        (get_or-set_same (ch.table t) i _ Empty l ∙ ap (offered eqb (slot i ch)) (ev ∙ ap value (sym e)) ∙ offered_fine (slot i ch) (value i) h))
    | inr n ↦ inl (get_or-set_other (ch.table t) j i _ Empty n)
  ]

  -- one call: the slot stays, or then holds the sealed element
  abbrev Goes : ℕ → Chain → Chain → Type 0
  Goes i one two = (slot i two ≡ slot i one) ⊎ (slot i two ≡ Held (value i))

  goes_place : (i : ℕ) (ch : Chain) (q : Option Picture) (s c : ℕ) (bytes : List ℕ) (r : Record) → Goes i ch (place_after q ch s c bytes r)
  goes_place i ch None s c bytes r = inl refl
  goes_place i ch (Some q) s c bytes r = inl refl

  goes_open : (i : ℕ) (ch : Chain) (q : Option Picture) → Goes i ch (open_after q ch)
  goes_open i ch None = inl refl
  goes_open i ch (Some q) = inl refl

  goes_close : (i : ℕ) (ch : Chain) (q : Option Picture) → Goes i ch (close_after q ch)
  goes_close i ch None = inl refl
  goes_close i ch (Some q) = inl refl

  goes_image : (i : ℕ) (ch : Chain) (k : ℕ) (r : Result (List ℕ) Fault) → Goes i ch (settled r ch (with_image ch k))
  goes_image i ch k r = settled_case (Goes i ch) r ch (with_image ch k) (inl refl) (λ _ _. inl refl)

  goes_elsewhere : (i : ℕ) (ch : Chain) (u : ℕ) (slots : List (Slot ℕ)) → (u ≡ t → ⊥) → Goes i ch (with_table ch u slots)
  goes_elsewhere i ch u slots n = inl (put_pick ch.table u slots t (λ v. get_or v i Empty ≡ slot i ch) (λ e. absurd (n (sym e))) (λ _. refl))

  goes_gather : (i : ℕ) → i < 135 → (x y : List Call) (s c : ℕ) → between ≡ x ++ gather g t s c ∷ y → Fine (value i) (slot i (run from x)) →
      Goes i (run from x) (after (run from x) (gather g t s c))
  goes_gather i l x y s c e h = go (gathered_on (run from x) g t s c) (brings x y s c e)
    where
      go : (r : Result Block Fault) → Harmless r (value (index_of s c)) → Goes i (run from x) (settled r (run from x) (gather_after (run from x) t s c))
      go (Err fault) w = inl refl
      go (Ok b) w =
          subst (λ u. (get_or u i Empty ≡ slot i (run from x)) ⊎ (get_or u i Empty ≡ Held (value i)))
          (sym (put_here (run from x).table t (elements_after s c ((run from x).table t) b)))
          (offer_slot (run from x) i (index_of s c) b.element (omega (arith, table_long x)) w h)

  goes : (i : ℕ) → i < 135 → (x y : List Call) (call : Call) → between ≡ x ++ call ∷ y → Fine (value i) (slot i (run from x)) → Goes i (run from x) (after (run from x) call)
  goes i l x y (seal bytes k) e h = goes_image i (run from x) k (sealing bytes)
  goes i l x y opens e h = goes_open i (run from x) (run from x).picture
  goes i l x y (place s c im r) e h = goes_place i (run from x) (run from x).picture s c im.bytes r
  goes i l x y close e h = goes_close i (run from x) (run from x).picture
  goes i l x y (start u number first) e h =
      settled_case (Goes i (run from x)) (starting number first (length ((run from x).table u))) (run from x) (λ _. start_after (run from x) u) (inl refl)
      (λ k a. goes_elsewhere i (run from x) u (cleared ((run from x).table u)) (undisturbed x y (start u number first) e k (ap started a)))
  goes i l x y (gather k u s c) e h =
      settled_case (Goes i (run from x)) (gathered_on (run from x) k u s c) (run from x) (gather_after (run from x) u s c) (inl refl)
      (λ b a. elim (cases_eq u t) [
        | inl et ↦ subst₂ (λ k u. between ≡ x ++ gather k u s c ∷ y → gathered_on (run from x) k u s c ≡ Ok b → Goes i (run from x) (gather_after (run from x) u s c b)) (sym (undisturbed x y (gather k u s c) e b (ap brought a) et)) (sym et)
            (λ e a. subst (λ r. Goes i (run from x) (settled r (run from x) (gather_after (run from x) t s c))) a (goes_gather i l x y s c e h)) e a
        | inr n ↦ goes_elsewhere i (run from x) u (elements_after s c ((run from x).table u) b) n
      ])
  goes i l x y (deliver u k) e h = goes_image i (run from x) k (delivering ((run from x).table u))
  goes i l x y (paint s c left) e h = inl refl

  -- along more calls: it stays empty or holding the sealed element, and goes on to hold it
  along : (i : ℕ) → i < 135 → (mid x y : List Call) (ch : Chain) → run from x ≡ ch → between ≡ x ++ (mid ++ y) → Fine (value i) (slot i ch) →
      Fine (value i) (slot i (run ch mid)) × (slot i ch ≡ Held (value i) → slot i (run ch mid) ≡ Held (value i))
  along i l [] x y ch ec e h = (h, λ z. z)
  along i l (call ∷ mid) x y ch ec e h =
      let k : Goes i ch (after ch call) = subst (λ z. Goes i z (after z call)) ec (goes i l x (mid ++ y) call e (subst (λ z. Fine (value i) (slot i z)) (sym ec) h)) in
      let next : Fine (value i) (slot i (after ch call)) = elim k [ inl z ↦ subst (Fine (value i)) (sym z) h | inr z ↦ inr z ] in
      let r = along i l mid (x ++ call ∷ []) y (after ch call) (run-++ from x (call ∷ []) ∙ ap (λ z. after z call) ec) (e ∙ sym (append_assoc x (call ∷ []) (mid ++ y))) next in
      (r.0, λ z. r.1 (elim k [ inl w ↦ w ∙ z | inr w ↦ w ]))

  -- each element has a macroblock left, and its gather makes the slot hold it
  all_held : count f S < carriers_of f → (i : ℕ) → i < 135 → slot i (run from between) ≡ Held (value i)
  all_held few i l =
      let m = left_of_sets f S few i l in
      let s = m.0 in
      let c = m.1 in
      let k = G.each s c m.2 m.4 in
      let x = k.0 in
      let y = k.1 in
      let e = k.2 in
      let call : Call = gather g t s c in
      let h : Fine (value i) (slot i (run from x)) = (along i l x [] (call ∷ y) from refl e (inl (from_empty i l))).0 in
      let r = clean x y s c e m.2 m.4 in
      let b = r.0 in
      let u : after (run from x) call ≡ gather_after (run from x) t s c b = ap (λ a. settled a (run from x) (gather_after (run from x) t s c)) r.1 in
      let w : slot i (after (run from x) call) ≡ Held (value i) =
      ap (slot i) u ∙ ap (λ z. get_or z i Empty) (put_here (run from x).table t (elements_after s c ((run from x).table t) b))
      ∙ ap (λ j. get_or (offered_at eqb ((run from x).table t) j b.element) i Empty) m.3
      ∙ get_or-set_same ((run from x).table t) i _ Empty (omega (arith, table_long x))
      ∙ ap (offered eqb (slot i (run from x))) (r.2 ∙ ap value m.3) ∙ offered_fine (slot i (run from x)) (value i) h in
      let v = (along i l y (x ++ call ∷ []) [] (after (run from x) call) (run-++ from x (call ∷ []))
      (e ∙ sym (append_assoc x (call ∷ []) y) ∙ ap (λ z. (x ++ call ∷ []) ++ z) (sym (append-nil y))) (inr w)).1 w in
      ap (λ z. slot i (run from z)) e ∙ ap (slot i) (run-++ from x (call ∷ y)) ∙ v

  pub delivered : count f S < carriers_of f → delivering ((run new (since new earlier t p between)).table t) ≡ Ok image.bytes
  delivered few = ap (λ ch. delivering (ch.table t)) (from_run between) ∙ delivers image ((run from between).table t) (table_long between) (all_held few)

pub survives : Survives
survives new n earlier between t p image S i few G =
    let ch = run new (since new earlier t p between) in
    let e = delivered new earlier between t p image S G few in
    (ap (λ r. imaged (done r)) e, ap (λ r. (settled r ch (with_image ch i)).image i) e ∙ put_here ch.image i image.bytes)
