-- The worked runs: an everyday picture, one with stained macroblocks, and one turned bit.
use Rattle.std.proofs.Common.{◌≡◌, ℕ, zero, suc, ◌+◌, ◌-◌, ◌*◌, ◌/◌, ◌%◌, ◌<◌, ◌≤◌, Bool, true, false, not, ◌&&◌, eqb, ltb, ◌⊎◌, List, [], ◌∷◌, ◌++◌, map, length, get_or, take, drop, replicate, pos, is_ok, Some, None, Ok, filter, Option, sym, refl, ap, ◌∙◌, subst, ap₂, subst₂, inl, inr, add-one, arith, lit<}
use lib.Count.{ones}
use Rattle.std.proofs.lemmas.Bool.{cond_both, cond-true, and_parts, and_from, cases_eq, eqb-true, eq-eqb, ltb-true, not-true, not_from_true, not_from_false, true≢false}
use Rattle.std.proofs.lemmas.List.{map-append, take-append-drop, drop_more, length-replicate}
use Rattle.std.proofs.lemmas.List.FromFn.{length-map-range_with_len, get_or-map-range_with_len}
use Rattle.std.proofs.lemmas.List.Elements.{filter-append}
use Rattle.std.proofs.ByRecursion.{kept_by_passes, All-weaker}
use Rattle.std.specs.List.{AllByRecursion}
use Rattle.fault.specs.declared.Fault.TheVariants.{FirstReference, Length}
use Rattle.fault.specs.Refusing.{refuse, then, done}
use Rattle.crc.specs.Register as Register
use Rattle.column.specs.Scramble.{parity, unscrambled}
use Rattle.column.specs.Column.{spelled as spelled-in, carried_row, carried_rows}
use Rattle.column.proofs.Steps.{below_two}
use Rattle.column.proofs.Spelled.{spelled_more, spelled_like, carried_row_lem}
use Rattle.record.specs.declared.record.Record.{Record}
use Rattle.record.specs.Rules.{checked, fits_widths, keeps_rules}
use Rattle.slots.specs.declared.slot.Slot.TheVariants.{Empty}
use Rattle.format.specs.declared.table.Format.{Format}
use Rattle.format.specs.declared.table.Format.TheVariants.{Frame1080, Field1080, Frame720, Bench}
use Rattle.format.specs.Formats.{number_of, columns_of, stripes_of, carriers_of, frame_of, macroblocks_of, position_of, accepted, first_of, is_slab, in_format, index_of, element_count}
use Rattle.format.specs.Carriers.{count, in_stripe, in_stripes}
use Rattle.format.proofs.Places.{position_below, from_in_format}
use Rattle.image.specs.Table.{parameter_of}
use Rattle.image.specs.Value.{spelled, value_of}
use Rattle.image.specs.Elements.{Bytes, element_of}
use Rattle.image.specs.Image.{is_frame, lawful as lawful-image, with_check, blank_data, blank_image}
use Rattle.image.proofs.Sealing.{sealed_if_lawful}
use Rattle.inserter.specs.Place.{agrees, block_for, placing, placed_at}
use Rattle.inserter.proofs.Placings.{passed_ok, went_on}
use Rattle.extractor.specs.declared.gathering.Gathering.{Gathering}
use Rattle.extractor.specs.Gather.{starting}
use Rattle.damage.specs.Chain.{Picture, Chain, Image, with_words, painted}
use Rattle.damage.specs.Calls.{Call, opens, place, close, gather, paint, placed, started, answer, after, placing_on, gathered_on, place_answer, place_after, open_after}
use Rattle.damage.specs.Runs.{New, run, carried_by, LastPlaced}
use Rattle.damage.specs.Damage.{Intact, Undisturbed, Brings, Gathered, gathering_of, start_of, since}
use Rattle.damage.specs.Worked.{macroblocks, outside, places_of, gathers_of, Stain, paints_of, first_picture, Fitted, placed_and_stained, one_picture, Delivers, ComesBack, ComesBackStained, grey_chain, is_first, FirstIsLost, turned, one_turned, Struck, TurnedBitIsNoticed}
use Rattle.damage.proofs.Pieces.{put_pick, put_here}
use Rattle.damage.proofs.Steady.{steady_run}
use Rattle.damage.proofs.Folds.{Placing, noting, smeared, noted, last_from, last_placing, Fresh, last-++, intact_from, nothing_in}
use Rattle.damage.proofs.Placings.{last_known, unnoticed}
use Rattle.damage.proofs.Survives.{survives, refuse_pass, intact_gathers}

-- a list has an element somewhere
abbrev pub Within : {A : Type 0} → List A → A → Type 0
Within {A} xs x = (before : List A) × (behind : List A) × (xs ≡ before ++ x ∷ behind)

within_at : {A : Type 0} (xs : List A) (i : ℕ) (x : A) → i < length xs → get_or xs i x ≡ x → Within xs x
within_at xs i x l e = (take i xs, drop (i + 1) xs, sym (take-append-drop i xs) ∙ ap (λ z. take i xs ++ z) (drop_more xs i x l ∙ ap (λ y. y ∷ drop (i + 1) xs) e))

within_kept : {A : Type 0} (p : A → Bool) (xs : List A) (x : A) → p x ≡ true → Within xs x → Within (filter p xs) x
within_kept p xs x t w =
    (filter p w.0, filter p w.1, ap (filter p) w.2 ∙ filter-append p w.0 (x ∷ w.1) ∙ ap (λ z. filter p w.0 ++ z) (cond-true (p x) (x ∷ filter p w.1) (filter p w.1) t))

within_map : {A B : Type 0} (h : A → B) (xs : List A) (x : A) → Within xs x → Within (map h xs) (h x)
within_map h xs x w = (map h w.0, map h w.1, ap (map h) w.2 ∙ map-append h w.0 (x ∷ w.1))

-- every macroblock of a format is among all
position_parts : (f : Format) (s c : ℕ) → c < columns_of f → (position_of f s c / columns_of f ≡ s) × (position_of f s c % columns_of f ≡ c)
position_parts Frame1080 s c l = (omega arith, omega arith)
position_parts Field1080 s c l = (omega arith, omega arith)
position_parts Frame720 s c l = (omega arith, omega arith)
position_parts Bench s c l = (omega arith, omega arith)

pub all_macroblocks : (f : Format) (s c : ℕ) → in_format f s c ≡ true → Within (macroblocks f) (s, c)
unfolding macroblocks
all_macroblocks f s c i =
    let k = position_of f s c in
    let l = position_below f s c i in
    let at : ℕ → ℕ × ℕ = λ k. (k / columns_of f, k % columns_of f) in
    let e = position_parts f s c (from_in_format f s c i).1 in
    within_at (macroblocks f) k (s, c) (subst (λ n. k < n) (sym (length-map-range_with_len at 0 (macroblocks_of f))) l)
    (get_or-map-range_with_len at 0 (macroblocks_of f) k k (s, c) l (omega arith) ∙ ap₂ (λ a b. (a, b)) e.0 e.1)

-- the number of a format is accepted
number_accepted : (f : Format) → accepted (number_of f) ≡ Ok f
number_accepted Frame1080 = refl
number_accepted Field1080 = refl
number_accepted Frame720 = refl
number_accepted Bench = refl

-- a new chain's next reference is lawful
next_lawful : (new : Chain) → New new → ltb 65520 new.next ≡ false
next_lawful new n =
    let a = went_on (accepted n.number) _ (new.format, new.next) n.accepted in
    let b = went_on (first_of n.first) _ (new.format, new.next) a.2 in
    let c = passed_ok (ltb 65520 n.first) FirstReference (Ok n.first) b.0 b.1 in
    let pair : ◌≡◌ {A = Format × ℕ} (a.0, b.0) (new.format, new.next) = let z = b.2 in cc in
    let same : n.first ≡ b.0 = let z = c.1 in cc in
    let e : n.first ≡ new.next = same ∙ ap (λ x. x.1) pair in
    subst (λ k. ltb 65520 k ≡ false) e c.0

-- a place that is accepted
placing_passes : (f : Format) (first s c rows words : ℕ) (image : List ℕ) (r : Record) → is_slab f rows words ≡ true → in_format f s c ≡ true → checked r ≡ Ok tt → agrees (is_frame image) (frame_of f) ≡ true →
    placing f first s c rows words image r ≡ Ok (block_for f first s c image r)
placing_passes f first s c rows words image r a b d e = rw (a, b, d, e)

-- along places of one picture
module _ (f : Format) (p : Picture) (image : Image) (r : Record) (frame : agrees (is_frame image.bytes) (frame_of f) ≡ true) (lawful : checked r ≡ Ok tt) where
  record Ready (ch : Chain) : Type 0 where
    format : ch.format ≡ f
    picture : ch.picture ≡ Some p
    slabs : (s : ℕ) → s < stripes_of f → is_slab f (ch.slab s).rows (ch.slab s).words ≡ true

  ready_on : (ch : Chain) (s c : ℕ) (q : Option Picture) → Ready ch → Ready (place_after q ch s c image.bytes r)
  ready_on ch s c None h = h
  ready_on ch s c (Some q) h = record {
    format = h.format;
    picture = h.picture;
    slabs = λ k l. put_pick ch.slab s (with_words (ch.slab s) (placed_at (placing_on ch q s c image.bytes r) (ch.slab s).word c)) k (λ g. is_slab f g.rows g.words ≡ true) (λ e. h.slabs s (subst (λ n. n < stripes_of f) e l)) (λ _. h.slabs k l);
  }

  ready : (ch : Chain) (s c : ℕ) → Ready ch → Ready (after ch (place s c image r))
  ready ch s c h = ready_on ch s c ch.picture h

  passes : (ch : Chain) (s c : ℕ) → Ready ch → in_format f s c ≡ true → placing_on ch p s c image.bytes r ≡ Ok (block_for f p.first s c image.bytes r)
  passes ch s c h i =
      ap (λ f. placing f p.first s c (ch.slab s).rows (ch.slab s).words image.bytes r) h.format
      ∙ placing_passes f p.first s c (ch.slab s).rows (ch.slab s).words image.bytes r (h.slabs s (from_in_format f s c i).0) i lawful frame

  -- its placing is noted
  note : (ch : Chain) (s c : ℕ) (rows : List ℕ) (last : Option Placing) → Ready ch → in_format f s c ≡ true →
      noting (answer ch (place s c image r)) ch.picture image.bytes rows last ≡ Some (record { picture = p; image = image.bytes; rows = rows; painted = false })
  note ch s c rows last h i =
      ap (λ q. noting (place_answer q ch s c image.bytes r) q image.bytes rows last) h.picture
      ∙ ap (λ a. noting (placed (done a)) (Some p) image.bytes rows last) (passes ch s c h i)

  intact : (ch : Chain) (s c : ℕ) (rows : List ℕ) (last : Option Placing) → Ready ch → in_format f s c ≡ true →
      Fresh (noting (answer ch (place s c image r)) ch.picture image.bytes rows last) p image.bytes
  intact ch s c rows last h i = (record { picture = p; image = image.bytes; rows = rows; painted = false }, note ch s c rows last h i, refl, refl, refl)

  stays : (s c : ℕ) → in_format f s c ≡ true → (ms : List (ℕ × ℕ)) (ch : Chain) (last : Option Placing) → Ready ch → Fresh last p image.bytes →
      Fresh (last_from last ch (places_of ms image r) s c) p image.bytes
  stays s c i [] ch last h w = w
  stays s c i (m ∷ ms) ch last h w =
      stays s c i ms (after ch (place m.0 m.1 image r)) (noted ch (place m.0 m.1 image r) s c last) (ready ch m.0 m.1 h)
      (cond_both (eqb m.0 s && eqb m.1 c) _ last (λ z. Fresh z p image.bytes)
      (λ e. let q = and_parts (eqb m.0 s) (eqb m.1 c) e in
      intact ch m.0 m.1 _ last h (subst₂ (λ s c. in_format f s c ≡ true) (sym (eqb-true m.0 s q.0)) (sym (eqb-true m.1 c q.1)) i))
      (λ _. w))

  arrives : (s c : ℕ) → in_format f s c ≡ true → (xs ys : List (ℕ × ℕ)) (ch : Chain) (last : Option Placing) → Ready ch →
      Fresh (last_from last ch (places_of (xs ++ (s, c) ∷ ys) image r) s c) p image.bytes
  arrives s c i [] ys ch last h =
      stays s c i ys (after ch (place s c image r)) (noted ch (place s c image r) s c last) (ready ch s c h)
      (subst (λ z. Fresh z p image.bytes) (sym (cond-true (eqb s s && eqb c c) _ last (and_from _ _ (eq-eqb s s refl) (eq-eqb c c refl)))) (intact ch s c _ last h i))
  arrives s c i (m ∷ xs) ys ch last h =
      arrives s c i xs ys (after ch (place m.0 m.1 image r)) (noted ch (place m.0 m.1 image r) s c last) (ready ch m.0 m.1 h)

-- stains of other macroblocks, and gathers, leave the last placing
unstained : (S : ℕ → ℕ → Bool) (s c : ℕ) → S s c ≡ false → (stains : List Stain) → AllByRecursion (λ x. S x.stripe x.column ≡ true) stains → (last : Option Placing) (ch : Chain) → last_from last ch (paints_of stains) s c ≡ last
unstained S s c o [] a last ch = refl
unstained S s c o (x ∷ stains) a last ch =
    ap (λ z. last_from z (after ch (paint x.stripe x.column x.left)) (paints_of stains) s c)
    (cond_both (eqb x.stripe s && eqb x.column c) (smeared last) last (λ z. z ≡ last)
    (λ e. let q = and_parts (eqb x.stripe s) (eqb x.column c) e in
    absurd (true≢false (sym a.0 ∙ ap₂ S (eqb-true x.stripe s q.0) (eqb-true x.column c q.1) ∙ o)))
    (λ _. refl))
    ∙ unstained S s c o stains a.1 last (after ch (paint x.stripe x.column x.left))

pub quiet : (g : Gathering) (t : ℕ) (ms : List (ℕ × ℕ)) (last : Option Placing) (ch : Chain) (s c : ℕ) → last_from last ch (gathers_of ms g t) s c ≡ last
quiet g t [] last ch s c = refl
quiet g t (m ∷ ms) last ch s c = quiet g t ms last (after ch (gather g t m.0 m.1)) s c

-- a call among gathers is one, and so are those before it
gather_among : (P : ℕ × ℕ → Type 0) (g : Gathering) (t : ℕ) (ms : List (ℕ × ℕ)) → AllByRecursion P ms → (x y : List Call) (call : Call) → gathers_of ms g t ≡ x ++ call ∷ y →
    (ns : List (ℕ × ℕ)) × (x ≡ gathers_of ns g t) × (m : ℕ × ℕ) × (call ≡ gather g t m.0 m.1) × P m
gather_among P g t [] a [] y call e = absurd (let z : ◌≡◌ {A = ℕ} 0 1 = cc in omega arith)
gather_among P g t [] a (k ∷ x) y call e = absurd (let z : ◌≡◌ {A = ℕ} 0 1 = cc in omega arith)
gather_among P g t (m ∷ ms) a [] y call e = ([], refl, m, cc, a.0)
gather_among P g t (m ∷ ms) a (k ∷ x) y call e =
    let first : gather g t m.0 m.1 ≡ k = cc in
    let rest : gathers_of ms g t ≡ x ++ call ∷ y = cc in
    let w = gather_among P g t ms a.1 x y call rest in
    (m ∷ w.0, ap₂ (λ u v. u ∷ v) (sym first) w.1, w.2, w.3, w.4)

-- a picture that was just opened is ready
open_ready : (new : Chain) → New new → (t : ℕ) → Fitted new t → (image : Image) (frame : agrees (is_frame image.bytes) (frame_of new.format) ≡ true) (r : Record) (lawful : checked r ≡ Ok tt) →
    Ready new.format (first_picture new) image r frame lawful (after new opens)
open_ready new n t fitted image frame r lawful = go new.picture n.none_open
  where
    go : (q : Option Picture) → q ≡ None → Ready new.format (first_picture new) image r frame lawful (open_after q new)
    go None e = record { format = refl; picture = refl; slabs = fitted.slabs }
    go (Some q) e = absurd (let z : ◌≡◌ {A = ℕ} 0 1 = cc in omega arith)

-- One picture whose stains are all in a set.
module _ (new : Chain) (n : New new) (t : ℕ) (fitted : Fitted new t) (image : Image) (frame : agrees (is_frame image.bytes) (frame_of new.format) ≡ true) (r : Record) (lawful : checked r ≡ Ok tt)
    (S : ℕ → ℕ → Bool) (stains : List Stain) (stained : AllByRecursion (λ x. S x.stripe x.column ≡ true) stains) where
  abbrev f : Format
  f = new.format

  abbrev p : Picture
  p = first_picture new

  abbrev g : Gathering
  g = gathering_of new p

  abbrev places : List Call
  places = places_of (macroblocks f) image r

  abbrev earlier : List Call
  earlier = placed_and_stained new image r stains

  -- the calls up to some gathers
  abbrev up_to : List (ℕ × ℕ) → List Call
  up_to ns = since new earlier t p (gathers_of ns g t)

  starts : starting (number_of f) p.first (length ((run new earlier).table t)) ≡ Ok g
  starts =
      ap (λ a. then a (λ f. then (first_of p.first) (λ m. refuse (not (eqb (length ((run new earlier).table t)) element_count)) Length (Ok (record { format = f; first = m }))))) (number_accepted f)
      ∙ ap (λ a. then a (λ m. refuse (not (eqb (length ((run new earlier).table t)) element_count)) Length (Ok (record { format = f; first = m })))) (refuse_pass (ltb 65520 new.next) FirstReference (Ok new.next) (next_lawful new n))
      ∙ refuse_pass (not (eqb (length ((run new earlier).table t)) element_count)) Length _ (not_from_true _ (eq-eqb _ _ ((steady_run new earlier).tables t ∙ fitted.table)))

  -- what was last placed, before the start and after any gathers
  pub last_before : (s c : ℕ) → in_format f s c ≡ true → S s c ≡ false → Fresh (last_placing new earlier s c) p image.bytes
  last_before s c i o =
      let w = all_macroblocks f s c i in
      let opened = after new opens in
      subst (λ z. Fresh z p image.bytes)
      (sym (last-++ None opened places (close ∷ paints_of stains) s c
      ∙ unstained S s c o stains stained (last_from None opened places s c) (after (run opened places) close)
      ∙ ap (λ z. last_from None opened (places_of z image r) s c) w.2))
      (arrives f p image r frame lawful s c i w.0 w.1 opened None (open_ready new n t fitted image frame r lawful))

  last : (ns : List (ℕ × ℕ)) (s c : ℕ) → in_format f s c ≡ true → S s c ≡ false → Fresh (last_placing new (up_to ns) s c) p image.bytes
  last ns s c i o =
      subst (λ z. Fresh z p image.bytes)
      (sym (last-++ None new earlier (start_of new t p ∷ gathers_of ns g t) s c
      ∙ quiet g t ns (last_from None new earlier s c) (after (run new earlier) (start_of new t p)) s c))
      (last_before s c i o)

  -- a gather outside brings the sealed element
  pub brings_so : (ns : List (ℕ × ℕ)) (s c : ℕ) → in_format f s c ≡ true → S s c ≡ false → Brings (gathered_on (run new (up_to ns)) g t s c) (element_of image.bytes (index_of s c))
  brings_so ns s c i o =
      let k = last ns s c i o in
      let steady = steady_run new (up_to ns) in
      let l = (from_in_format f s c i).0 in
      let a = intact_gathers (run new (up_to ns)) g t s c k.0 image.bytes (sym steady.format) (steady.tables t ∙ fitted.table) (steady.sheets s ∙ fitted.sheets s l) (last_known s c new (up_to ns) k.0 k.1) (ap (λ z. z.first) k.2) k.3 k.4 in
      subst (λ z. Brings z (element_of image.bytes (index_of s c))) (sym a.1) a.2

  -- it was gathered, if those outside the set are among those gathered, and those inside do no harm
  abbrev pub Safe : List Call → ℕ → ℕ → Type 0
  Safe x s c =
      (is_ok (gathered_on (run new (since new earlier t p x)) g t s c) ≡ false)
      ⊎ Brings (gathered_on (run new (since new earlier t p x)) g t s c) (element_of image.bytes (index_of s c))

  pub gathered_so : (P : ℕ × ℕ → Type 0) (ms : List (ℕ × ℕ)) → AllByRecursion P ms → ((s c : ℕ) → in_format f s c ≡ true → S s c ≡ false → Within ms (s, c)) →
      ((ns : List (ℕ × ℕ)) (m : ℕ × ℕ) → P m → S m.0 m.1 ≡ true → Safe (gathers_of ns g t) m.0 m.1) →
      Gathered new earlier (gathers_of ms g t) t p image S
  gathered_so P ms all each safe = record {
    accepted = ap started starts;
    undisturbed = λ x y call e. let w = gather_among P g t ms all x y call e in
        subst (Undisturbed (run new (since new earlier t p x)) t g) (sym w.3) (λ _ _ _. refl);
    sheets = fitted.sheets;
    each = λ s c i o. within_map (λ m. gather g t m.0 m.1) ms (s, c) (each s c i o);
    outside = λ x y s c e i o. let w = gather_among P g t ms all x y (gather g t s c) e in
        subst (λ z. Intact new (since new earlier t p z) s c p image.bytes) (sym w.1) (intact_from s c new (up_to w.0) p image.bytes (last w.0 s c i o));
    inside = λ x y s c e i. let w = gather_among P g t ms all x y (gather g t s c) e in
        let m = w.2 in
        let es : s ≡ m.0 = let z = w.3 in cc in
        let ec : c ≡ m.1 = let z = w.3 in cc in
        subst (λ z. Safe z s c) (sym w.1) (subst₂ (λ s c. Safe (gathers_of w.0 g t) s c) (sym es) (sym ec) (safe w.0 m w.4 (sym (ap₂ S es ec) ∙ i)));
  }

  -- none inside is gathered
  comes_so : count f S < carriers_of f → (ms : List (ℕ × ℕ)) → AllByRecursion (λ m. S m.0 m.1 ≡ false) ms → ((s c : ℕ) → in_format f s c ≡ true → S s c ≡ false → Within ms (s, c)) →
      Delivers new (one_picture new t image r stains ms) t image.bytes
  comes_so few ms none each i =
      survives new n earlier (gathers_of ms g t) t p image S i few
      (gathered_so (λ m. S m.0 m.1 ≡ false) ms none each (λ ns m o e. absurd (true≢false (sym e ∙ o))))

-- with nothing in the set
pub none_few : (f : Format) → count f (λ _ _. false) < carriers_of f
unfolding in_stripes in_stripe
none_few Frame1080 = lit< tt
none_few Field1080 = lit< tt
none_few Frame720 = lit< tt
none_few Bench = lit< tt

pub all_none : (ms : List (ℕ × ℕ)) → AllByRecursion (λ m. false ≡ false) ms
all_none [] = tt
all_none (m ∷ ms) = (refl, all_none ms)

pub comes_back : ComesBack
comes_back new n t fitted image frame r lawful =
    comes_so new n t fitted image frame r lawful (λ _ _. false) [] tt (none_few new.format) (macroblocks new.format) (all_none (macroblocks new.format)) (λ s c i _. all_macroblocks new.format s c i)

pub comes_back_stained : ComesBackStained
comes_back_stained new n t fitted image frame r lawful S few stains inside =
    let ms = macroblocks new.format in
    let p : ℕ × ℕ → Bool = λ m. not (S m.0 m.1) in
    comes_so new n t fitted image frame r lawful S stains inside few (outside S ms)
    (All-weaker (λ m. p m ≡ true) (λ m. S m.0 m.1 ≡ false) (λ m e. not-true _ e) (outside S ms) (kept_by_passes p ms))
    (λ s c i o. within_kept p ms (s, c) (not_from_false _ o) (all_macroblocks new.format s c i))

-- the blank image
pub blank_lawful : lawful-image blank_image ≡ Ok tt
unfolding spelled value_of parameter_of with_check
blank_lawful = refl

-- bytes by a test
abbrev narrow : List ℕ → Bool
narrow [] = true
narrow (x ∷ xs) = ltb x 256 && narrow xs

from_narrow : (xs : List ℕ) → narrow xs ≡ true → (i : ℕ) → get_or xs i 0 < 256
from_narrow [] e i = omega arith
from_narrow (x ∷ xs) e zero = ltb-true x 256 (and_parts (ltb x 256) (narrow xs) e).0
from_narrow (x ∷ xs) e (suc i) = from_narrow xs (and_parts (ltb x 256) (narrow xs) e).1 i

pub blank_bytes : Bytes blank_image
unfolding with_check Register.run Register.bits_of Register.word_bits
blank_bytes = record { long = refl; narrow = λ i _. from_narrow blank_image refl i }

abbrev pub blank : Image
blank = record { bytes = blank_image; shape = blank_bytes; fit = sealed_if_lawful blank_data refl blank_lawful }

pub blank_frame : is_frame blank_image ≡ true
unfolding spelled value_of parameter_of with_check
blank_frame = refl

-- a record with nothing in it
abbrev pub plain : Record
plain = record {
  mb_quant = false;
  mb_mfwd = false;
  mb_mbwd = false;
  mb_pattern = false;
  mb_intra = false;
  dct_type = false;
  mv000 = pos 0;
  mv001 = pos 0;
  mv010 = pos 0;
  mv011 = pos 0;
  mv100 = pos 0;
  mv101 = pos 0;
  mv110 = pos 0;
  mv111 = pos 0;
  motion_type = 0;
  skipped_mb = false;
  num_other_bits = 0;
  slice_start_flag = false;
  num_mv_bits = 0;
  q_scale_code = 0;
  mb_vert_field_sel = 0;
  num_coef_bits = 0;
  coded_block_pattern = 0;
}

pub plain_lawful : checked plain ≡ Ok tt
unfolding fits_widths keeps_rules
plain_lawful = refl

-- a grey chain is new, and fitted to its format
pub grey_new : (f : Format) → New (grey_chain f)
grey_new f = record {
  number = number_of f;
  first = 0;
  accepted = ap (λ a. then a (λ f. Ok (f, 0))) (number_accepted f);
  none_opened = refl;
  none_open = refl;
  sheets = λ _. ap (λ n. replicate n Empty) (sym (length-replicate (columns_of f) Empty));
}

pub grey_fitted : (f : Format) (t : ℕ) → Fitted (grey_chain f) t
grey_fitted f t = record {
  slabs = λ s l. eq-eqb (32 * columns_of f) (32 * columns_of f) refl;
  sheets = λ s l. length-replicate (columns_of f) Empty;
  table = refl;
}

pub one_few : count Frame720 is_first < carriers_of Frame720
unfolding in_stripes in_stripe
one_few = lit< tt

pub first_is_lost : FirstIsLost
first_is_lost = (
  blank,
  plain,
  refl,
  λ left. comes_back_stained (grey_chain Frame720) (grey_new Frame720) 0 (grey_fitted Frame720 0) blank (ap (λ b. agrees b true) blank_frame) plain plain_lawful is_first one_few (record { stripe = 0; column = 0; left = left } ∷ []) (refl, tt),
)

-- a chroma word whose lowest bit is turned carries the other bit
flips : (d p q : ℕ) → d < 2 → (1 - d + p + q) % 2 ≡ (d + p + q) % 2 → ⊥
flips d p q h e = omega arith

upper_bits : (x b : ℕ) → b < 2 → (x / 2 * 2 + b) / 4 % 256 ≡ x / 4 % 256
upper_bits x b h = omega arith

lower_bit : (x b : ℕ) → b < 2 → (x / 2 * 2 + b) % 2 ≡ b
lower_bit x b h = omega arith

turned_reads : (x y : ℕ) → unscrambled (turned x) y ≡ unscrambled x y → ⊥
turned_reads x y e =
    let h : 1 - x % 2 < 2 = omega arith in
    flips (x % 2) (parity x) (parity y) (omega arith) (sym (ap₂ (λ (a b : ℕ). (a + ones b % 2 + parity y) % 2) (lower_bit x (1 - x % 2) h) (upper_bits x (1 - x % 2) h)) ∙ e)

-- lines that spell the same carry the same bits
halves : (x y u v : ℕ) → u < 2 → v < 2 → x * 2 + u ≡ y * 2 + v → (x ≡ y) × (u ≡ v)
halves x y u v hu hv e = (omega arith, omega arith)

module _ (a b : ℕ → ℕ) (first : ℕ) where
  abbrev bit : (ℕ → ℕ) → ℕ → ℕ
  bit line k = unscrambled (line (first + 2 * k)) (line (first + 2 * k + 1))

  spelled_parts : (n : ℕ) → spelled-in a first (n + 1) ≡ spelled-in b first (n + 1) → (spelled-in a first n ≡ spelled-in b first n) × (bit a n ≡ bit b n)
  spelled_parts n e = halves _ _ (bit a n) (bit b n) (below_two _) (below_two _) (sym (spelled_more a first n) ∙ e ∙ spelled_more b first n)

  same_bits : (n : ℕ) → spelled-in a first n ≡ spelled-in b first n → (k : ℕ) → k < n → bit a k ≡ bit b k
  same_bits zero e k l = absurd (omega arith)
  same_bits (suc n) e k l =
      let p = spelled_parts n (subst (λ m. spelled-in a first m ≡ spelled-in b first m) (sym (add-one n)) e) in
      elim (cases_eq k n) [
        | inl i ↦ subst (λ m. bit a m ≡ bit b m) (sym i) p.1
        | inr i ↦ same_bits n p.0 k (omega arith)
      ]

-- words of which a paint turns bit k of row n, in the column
module _ (at : ℕ → ℕ → ℕ) (c n k : ℕ) (hn : n < 16) (hk : k < 16) where
  abbrev left : ℕ → ℕ → ℕ
  left = painted at c (one_turned at c n k)

  -- the word that is turned, and all others
  turned_word : left n (32 * c + 2 * k) ≡ turned (at n (32 * c + 2 * k))
  turned_word =
      let col : (32 * c + 2 * k) / 32 ≡ c = omega arith in
      let off : (32 * c + 2 * k) % 32 ≡ 2 * k = omega arith in
      cond-true (eqb ((32 * c + 2 * k) / 32) c) _ _ (eq-eqb _ _ col)
      ∙ ap (λ j. one_turned at c n k n j) off
      ∙ cond-true (eqb n n && eqb (2 * k) (2 * k)) _ _ (and_from _ _ (eq-eqb n n refl) (eq-eqb (2 * k) (2 * k) refl))

  other_word : (i j : ℕ) → (i ≡ n → j ≡ 32 * c + 2 * k → ⊥) → left i j ≡ at i j
  other_word i j h =
      cond_both (eqb (j / 32) c) _ (at i j) (λ z. z ≡ at i j)
      (λ e. let col = eqb-true (j / 32) c e in
      let back : 32 * c + j % 32 ≡ j = omega arith in
      cond_both (eqb i n && eqb (j % 32) (2 * k)) _ (at i (32 * c + j % 32)) (λ z. z ≡ at i j)
      (λ t. let p = and_parts (eqb i n) (eqb (j % 32) (2 * k)) t in
      absurd (h (eqb-true i n p.0) (sym back ∙ ap (λ m. 32 * c + m) (eqb-true (j % 32) (2 * k) p.1))))
      (λ _. ap (at i) back))
      (λ _. refl)

  pub other_row : (i : ℕ) → i < 16 → (i ≡ n → ⊥) → get_or (carried_rows left c) i 0 ≡ get_or (carried_rows at c) i 0
  other_row i l h = carried_row_lem left c i l ∙ spelled_like (at i) (left i) (32 * c) 16 (λ j _ _. other_word i j (λ e _. h e)) ∙ sym (carried_row_lem at c i l)

  pub row_differs : carried_rows left c ≡ carried_rows at c → ⊥
  row_differs e =
      let row : carried_row left c n ≡ carried_row at c n = sym (carried_row_lem left c n hn) ∙ ap (λ rows. get_or rows n 0) e ∙ carried_row_lem at c n hn in
      let bits = same_bits (left n) (at n) (32 * c) 16 row k hk in
      turned_reads (at n (32 * c + 2 * k)) (at n (32 * c + 2 * k + 1))
      (sym (ap₂ unscrambled turned_word (other_word n (32 * c + 2 * k + 1) (λ _ z. let w : ⊥ = omega arith in w))) ∙ bits)

-- a row is one of two neighbours
pub near_row : (n : ℕ) → n < 16 → (m : ℕ) × (m ≤ 14) × ((j : ℕ) → (j ≡ m → ⊥) → (j ≡ m + 1 → ⊥) → j ≡ n → ⊥)
near_row n h = elim (cases_eq n 15) [
  | inl e ↦ (14, omega arith, λ j x y z. y (z ∙ e))
  | inr o ↦ (n, omega arith, λ j x y z. x z)
]

-- what is struck is refused
pub struck_refused : (new : Chain) → New new → (calls : List Call) (g : Gathering) (t s c : ℕ) → Struck new calls s c → is_ok (gathered_on (run new calls) g t s c) ≡ false
struck_refused new n calls g t s c h = unnoticed new n calls g t s c h.last h.row h.near h.alike h.differs

-- a paint is no place
one_paint : (x y : List Call) (s c : ℕ) (left : ℕ → ℕ → ℕ) (image : Image) (r : Record) → paint s c left ∷ [] ≡ x ++ place s c image r ∷ y → ⊥
one_paint [] y s c left image r e = let z : ◌≡◌ {A = ℕ} 0 1 = cc in omega arith
one_paint (k ∷ x) y s c left image r e = let rest : [] ≡ x ++ place s c image r ∷ y = cc in nothing_in x y (place s c image r) rest

pub turned_bit_is_noticed : TurnedBitIsNoticed
turned_bit_is_noticed new New-is t fitted image frame r lawful s c i n k hn hk =
    let f = new.format in
    let p = first_picture new in
    let opened = after new opens in
    let here = run new (opens ∷ place s c image r ∷ []) in
    let w = (here.slab s).word in
    let left = one_turned w c n k in
    let ready = open_ready new New-is t fitted image frame r lawful in
    let q : Placing = record { picture = p; image = image.bytes; rows = carried_by here s c; painted = false } in
    let itself = and_from (eqb s s) (eqb c c) (eq-eqb s s refl) (eq-eqb c c refl) in
    let e : last_placing new (opens ∷ place s c image r ∷ []) s c ≡ Some q = cond-true (eqb s s && eqb c c) _ None itself ∙ note f p image r frame lawful opened s c (carried_by here s c) None ready i in
    let last : LastPlaced new (opens ∷ place s c image r ∷ paint s c left ∷ []) s c = record {
      earlier = opens ∷ [];
      image = image;
      entry = r;
      later = paint s c left ∷ [];
      stands = refl;
      picture = p;
      during = ready.picture;
      accepted = ap (λ a. place_answer a opened s c image.bytes r) ready.picture ∙ ap (λ a. placed (done a)) (passes f p image r frame lawful opened s c ready i);
      last = λ x y other o e _. one_paint x y s c left other o e;
    } in
    let steady = steady_run new (opens ∷ place s c image r ∷ []) in
    let l = (from_in_format f s c i).0 in
    let accepted = intact_gathers here (gathering_of new p) t s c q image.bytes (sym steady.format) (steady.tables t ∙ fitted.table) (steady.sheets s ∙ fitted.sheets s l) (last_known s c new (opens ∷ place s c image r ∷ []) q e) refl refl refl in
    let carried : carried_by (after here (paint s c left)) s c ≡ carried_rows (painted w c left) c = ap (λ g. carried_rows g.word c) (put_here here.slab s (with_words (here.slab s) (painted w c left))) in
    let near : (m : ℕ) × (m ≤ 14) × ((j : ℕ) → (j ≡ m → ⊥) → (j ≡ m + 1 → ⊥) → j ≡ n → ⊥) = near_row n hn in
    let struck : Struck new (opens ∷ place s c image r ∷ paint s c left ∷ []) s c = record {
      last = last;
      row = near.0;
      near = near.1;
      alike = λ j h x y. ap (λ rows. get_or rows j 0) carried ∙ other_row w c n k hn hk j h (near.2 j x y);
      differs = λ z. row_differs w c n k hn hk (sym carried ∙ z);
    } in
    (ap is_ok accepted.1, struck, struck_refused new New-is (opens ∷ place s c image r ∷ paint s c left ∷ []) (gathering_of new p) t s c struck)
