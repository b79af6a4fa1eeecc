-- The last placing of a macroblock, found by going along a run call by call; and that it is the one that the law speaks of.
use Rattle.std.proofs.Common.{◌≡◌, ℕ, Bool, true, false, cond, ◌&&◌, eqb, ◌⊎◌, List, [], ◌∷◌, ◌++◌, Some, None, Ok, Err, Option, Result, sym, refl, ap, ◌∙◌, subst, ap₂, subst₂, inl, inr, arith}
use Rattle.std.proofs.lemmas.Bool.{cond_both, cond-true, cases_eq, and_parts, and_from, eqb-true, eq-eqb, true≢false}
use Rattle.fault.specs.declared.Fault.{Fault}
use Rattle.fault.specs.Refusing.{done}
use Rattle.record.specs.declared.record.Record.{Record}
use Rattle.record.specs.declared.record.Block.{Block}
use Rattle.damage.specs.Chain.{Picture, Chain, Image}
use Rattle.damage.specs.Calls.{Call, seal, opens, place, close, start, gather, deliver, paint, Answer, unbuilt, silent, imaged, placed, started, brought, answer, after, placing_on, place_answer}
use Rattle.damage.specs.Runs.{run, carried_by, NonePlaced, NonePainted, LastPlaced, carried_then}
use Rattle.damage.specs.Damage.{Intact}
use Rattle.damage.proofs.Steady.{run-++}

-- an accepted place: in which picture, under which image, the rows that the macroblock then carried, and whether it was painted since
pub record Placing : Type 0 where
  pub picture : Picture
  pub image : List ℕ
  pub rows : List ℕ
  pub painted : Bool

-- a place on the macroblock, if it was accepted; else its last placing stays
abbrev pub noting : Answer → Option Picture → List ℕ → List ℕ → Option Placing → Option Placing
noting (placed (Ok u)) (Some p) image rows last = Some (record { picture = p; image = image; rows = rows; painted = false })
noting (placed (Ok u)) None image rows last = last
noting (placed (Err fault)) p image rows last = last
noting unbuilt p image rows last = last
noting silent p image rows last = last
noting (imaged r) p image rows last = last
noting (started r) p image rows last = last
noting (brought r) p image rows last = last

-- any paint on it, even one that changes nothing
abbrev pub smeared : Option Placing → Option Placing
smeared None = None
smeared (Some q) = Some (record { picture = q.picture; image = q.image; rows = q.rows; painted = true })

-- its last placing after one more call
abbrev pub noted : Chain → Call → ℕ → ℕ → Option Placing → Option Placing
noted ch (seal bytes i) s c last = last
noted ch opens s c last = last
noted ch (place stripe column image r) s c last =
    cond (eqb stripe s && eqb column c)
    (noting (answer ch (place stripe column image r)) ch.picture image.bytes (carried_by (after ch (place stripe column image r)) s c) last)
    last
noted ch close s c last = last
noted ch (start t number first) s c last = last
noted ch (gather g t stripe column) s c last = last
noted ch (deliver t i) s c last = last
noted ch (paint stripe column left) s c last = cond (eqb stripe s && eqb column c) (smeared last) last

abbrev pub last_from : Option Placing → Chain → List Call → ℕ → ℕ → Option Placing
last_from last ch [] s c = last
last_from last ch (call ∷ calls) s c = last_from (noted ch call s c last) (after ch call) calls s c

-- the last placing of a macroblock in a run
abbrev pub last_placing : Chain → List Call → ℕ → ℕ → Option Placing
last_placing ch calls s c = last_from None ch calls s c

-- it was in this picture, under this image, and no paint was noted since
abbrev pub Fresh : Option Placing → Picture → List ℕ → Type 0
Fresh last p image = (q : Placing) × (last ≡ Some q) × (q.picture ≡ p) × (q.image ≡ image) × (q.painted ≡ false)

-- one run after another
pub last-++ : (last : Option Placing) (ch : Chain) (xs ys : List Call) (s c : ℕ) → last_from last ch (xs ++ ys) s c ≡ last_from (last_from last ch xs s c) (run ch xs) ys s c
last-++ last ch [] ys s c = refl
last-++ last ch (x ∷ xs) ys s c = last-++ (noted ch x s c last) (after ch x) xs ys s c

-- a place that is not accepted is not noted
unnoted : (a : Answer) (p : Option Picture) (image rows : List ℕ) (last : Option Placing) → (a ≡ placed (Ok tt) → ⊥) → noting a p image rows last ≡ last
unnoted (placed (Ok u)) p image rows last n = absurd (n refl)
unnoted (placed (Err fault)) p image rows last n = refl
unnoted unbuilt p image rows last n = refl
unnoted silent p image rows last n = refl
unnoted (imaged r) p image rows last n = refl
unnoted (started r) p image rows last n = refl
unnoted (brought r) p image rows last n = refl

-- paints, places and accepted places are no others
abbrev is_paint : Call → Bool
is_paint (seal bytes i) = false
is_paint opens = false
is_paint (place s c image r) = false
is_paint close = false
is_paint (start t number first) = false
is_paint (gather g t s c) = false
is_paint (deliver t i) = false
is_paint (paint s c left) = true

abbrev is_place : Call → Bool
is_place (seal bytes i) = false
is_place opens = false
is_place (place s c image r) = true
is_place close = false
is_place (start t number first) = false
is_place (gather g t s c) = false
is_place (deliver t i) = false
is_place (paint s c left) = false

abbrev is_accepted : Answer → Bool
is_accepted (placed (Ok u)) = true
is_accepted (placed (Err fault)) = false
is_accepted unbuilt = false
is_accepted silent = false
is_accepted (imaged r) = false
is_accepted (started r) = false
is_accepted (brought r) = false

other_than : {A : Type 0} {a b : A} (test : A → Bool) → test a ≡ false → test b ≡ true → a ≡ b → ⊥
other_than test x y e = true≢false (sym y ∙ sym (ap test e) ∙ x)

-- no list with something in it is empty
pub nothing_in : {A : Type 0} (x y : List A) (a : A) → [] ≡ x ++ a ∷ y → ⊥
nothing_in [] y a e = let z : ◌≡◌ {A = ℕ} 0 1 = cc in omega arith
nothing_in (k ∷ x) y a e = let z : ◌≡◌ {A = ℕ} 0 1 = cc in omega arith

module _ (s c : ℕ) where
  -- calls that are no such place, or no such paint, behind a first one
  none_placed_behind : (ch : Chain) (call : Call) (calls : List Call) → NonePlaced ch (call ∷ calls) s c → NonePlaced (after ch call) calls s c
  none_placed_behind ch call calls n x y image r e = n (call ∷ x) y image r (ap (λ z. call ∷ z) e)

  none_painted_behind : (call : Call) (calls : List Call) → NonePainted (call ∷ calls) s c → NonePainted calls s c
  none_painted_behind call calls n x y left e = n (call ∷ x) y left (ap (λ z. call ∷ z) e)

  none_placed_more : (ch : Chain) (call : Call) (calls : List Call) → ((image : Image) (r : Record) → call ≡ place s c image r → answer ch (place s c image r) ≡ placed (Ok tt) → ⊥) →
      NonePlaced (after ch call) calls s c → NonePlaced ch (call ∷ calls) s c
  none_placed_more ch call calls h n [] y image r e a = let e : call ≡ place s c image r = cc in h image r e a
  none_placed_more ch call calls h n (k ∷ x) y image r e a =
      let first : call ≡ k = cc in
      let rest : calls ≡ x ++ place s c image r ∷ y = cc in
      n x y image r rest (subst (λ k. answer (run (after ch k) x) (place s c image r) ≡ placed (Ok tt)) (sym first) a)

  none_painted_more : (call : Call) (calls : List Call) → ((left : ℕ → ℕ → ℕ) → call ≡ paint s c left → ⊥) → NonePainted calls s c → NonePainted (call ∷ calls) s c
  none_painted_more call calls h n [] y left e = let e : call ≡ paint s c left = cc in h left e
  none_painted_more call calls h n (k ∷ x) y left e = let rest : calls ≡ x ++ paint s c left ∷ y = cc in n x y left rest

  not_noted : (ch : Chain) (k d : ℕ) (image : Image) (r : Record) (calls : List Call) (last : Option Placing) → NonePlaced ch (place k d image r ∷ calls) s c →
      noted ch (place k d image r) s c last ≡ last
  not_noted ch k d image r calls last n =
      cond_both (eqb k s && eqb d c) _ last (λ z. z ≡ last)
      (λ e. let q = and_parts (eqb k s) (eqb d c) e in
      let here : place k d image r ≡ place s c image r = ap₂ (λ k d. place k d image r) (eqb-true k s q.0) (eqb-true d c q.1) in
      unnoted (answer ch (place k d image r)) ch.picture image.bytes _ last
      (λ a. n [] calls image r (ap (λ z. z ∷ calls) here) (subst (λ z. answer ch z ≡ placed (Ok tt)) here a)))
      (λ _. refl)

  -- a placing stays noted as long as no other is accepted, and whether there was a paint is noted too
  module _ (p : Picture) (image rows : List ℕ) where
    abbrev note : Bool → Placing
    note b = record { picture = p; image = image; rows = rows; painted = b }

    record Stays (b : Bool) (calls : List Call) (last : Option Placing) : Type 0 where
      flag : Bool
      is : last ≡ Some (note flag)
      clean : NonePainted calls s c → flag ≡ b
      back : flag ≡ false → (b ≡ false) × NonePainted calls s c

    calm : (b : Bool) (ch : Chain) (call : Call) (calls : List Call) (last : Option Placing) → ((left : ℕ → ℕ → ℕ) → call ≡ paint s c left → ⊥) →
        Stays b calls last → Stays b (call ∷ calls) last
    calm b ch call calls last n h = record {
      flag = h.flag;
      is = h.is;
      clean = λ z. h.clean (none_painted_behind call calls z);
      back = λ z. let w = h.back z in (w.0, none_painted_more call calls n w.1);
    }

    stays : (b : Bool) (ch : Chain) (calls : List Call) → NonePlaced ch calls s c → Stays b calls (last_from (Some (note b)) ch calls s c)
    stays b ch [] n = record { flag = b; is = refl; clean = λ _. refl; back = λ e. (e, λ x y left z. nothing_in x y (paint s c left) z) }
    stays b ch (seal bytes i ∷ calls) n = calm b ch (seal bytes i) calls _ (λ left. other_than is_paint refl refl) (stays b (after ch (seal bytes i)) calls (none_placed_behind ch (seal bytes i) calls n))
    stays b ch (opens ∷ calls) n = calm b ch opens calls _ (λ left. other_than is_paint refl refl) (stays b (after ch opens) calls (none_placed_behind ch opens calls n))
    stays b ch (place k d im r ∷ calls) n =
        let call : Call = place k d im r in
        calm b ch call calls _ (λ left. other_than is_paint refl refl)
        (subst (λ z. Stays b calls (last_from z (after ch call) calls s c)) (sym (not_noted ch k d im r calls (Some (note b)) n)) (stays b (after ch call) calls (none_placed_behind ch call calls n)))
    stays b ch (close ∷ calls) n = calm b ch close calls _ (λ left. other_than is_paint refl refl) (stays b (after ch close) calls (none_placed_behind ch close calls n))
    stays b ch (start t number first ∷ calls) n = calm b ch (start t number first) calls _ (λ left. other_than is_paint refl refl) (stays b (after ch (start t number first)) calls (none_placed_behind ch (start t number first) calls n))
    stays b ch (gather g t k d ∷ calls) n = calm b ch (gather g t k d) calls _ (λ left. other_than is_paint refl refl) (stays b (after ch (gather g t k d)) calls (none_placed_behind ch (gather g t k d) calls n))
    stays b ch (deliver t i ∷ calls) n = calm b ch (deliver t i) calls _ (λ left. other_than is_paint refl refl) (stays b (after ch (deliver t i)) calls (none_placed_behind ch (deliver t i) calls n))
    stays b ch (paint k d left ∷ calls) n =
        let call : Call = paint k d left in
        let rest = none_placed_behind ch call calls n in
        cond_both (eqb k s && eqb d c) (Some (note true)) (Some (note b)) (λ z. Stays b (call ∷ calls) (last_from z (after ch call) calls s c))
        (λ e. let q = and_parts (eqb k s) (eqb d c) e in
        let here : call ≡ paint s c left = ap₂ (λ k d. paint k d left) (eqb-true k s q.0) (eqb-true d c q.1) in
        let h = stays true (after ch call) calls rest in
        record {
          flag = h.flag;
          is = h.is;
          clean = λ z. absurd (z [] calls left (ap (λ z. z ∷ calls) here));
          back = λ z. absurd (true≢false (h.back z).0);
        })
        (λ e. calm b ch call calls _
        (λ other z. let es : k ≡ s = cc in
        let ed : d ≡ c = cc in
        true≢false (sym (and_from (eqb k s) (eqb d c) (eq-eqb k s es) (eq-eqb d c ed)) ∙ e))
        (stays b (after ch call) calls rest))

  -- the placing that a run's last place is noted as
  pub record NotedAs {new : Chain} {calls : List Call} (l : LastPlaced new calls s c) : Type 0 where
    pub placing : Placing
    pub is : last_placing new calls s c ≡ Some placing
    pub picture : placing.picture ≡ l.picture
    pub image : placing.image ≡ l.image.bytes
    pub rows : placing.rows ≡ carried_then l
    pub clean : NonePainted l.later s c → placing.painted ≡ false
    pub back : placing.painted ≡ false → NonePainted l.later s c

  pub noted_as : (new : Chain) (calls : List Call) (l : LastPlaced new calls s c) → NotedAs l
  noted_as new calls l =
      let call : Call = place s c l.image l.entry in
      let before = run new l.earlier in
      let then : run new (l.earlier ++ call ∷ []) ≡ after before call = run-++ new l.earlier (call ∷ []) in
      let rows = carried_by (after before call) s c in
      let last = last_from None new l.earlier s c in
      let first : noted before call s c last ≡ Some (note l.picture l.image.bytes rows false) =
      cond-true (eqb s s && eqb c c) _ last (and_from (eqb s s) (eqb c c) (eq-eqb s s refl) (eq-eqb c c refl))
      ∙ ap₂ (λ a p. noting a p l.image.bytes rows last) l.accepted l.during in
      let h = stays l.picture l.image.bytes rows false (after before call) l.later (subst (λ ch. NonePlaced ch l.later s c) then l.last) in
      record {
        placing = note l.picture l.image.bytes rows h.flag;
        is = ap (λ z. last_placing new z s c) l.stands ∙ last-++ None new l.earlier (call ∷ l.later) s c ∙ ap (λ z. last_from z (after before call) l.later s c) first ∙ h.is;
        picture = refl;
        image = refl;
        rows = ap (λ ch. carried_by ch s c) (sym then);
        clean = h.clean;
        back = λ z. (h.back z).1;
      }

  -- a run has a last place on the macroblock, or none that was accepted
  accepted_or_not : (ch : Chain) (image : List ℕ) (r : Record) (p : Option Picture) →
      ((q : Picture) × (p ≡ Some q) × (place_answer p ch s c image r ≡ placed (Ok tt))) ⊎ (place_answer p ch s c image r ≡ placed (Ok tt) → ⊥)
  accepted_or_not ch image r None = inr (other_than is_accepted refl refl)
  accepted_or_not ch image r (Some q) = go (placing_on ch q s c image r)
    where
      go : (a : Result Block Fault) → ((p : Picture) × (◌≡◌ {A = Option Picture} (Some q) (Some p)) × (placed (done a) ≡ placed (Ok tt))) ⊎ (placed (done a) ≡ placed (Ok tt) → ⊥)
      go (Ok b) = inl (q, refl, refl)
      go (Err fault) = inr (other_than is_accepted refl refl)

  abbrev Search : Chain → List Call → Type 0
  Search ch calls = LastPlaced ch calls s c ⊎ NonePlaced ch calls s c

  further : (ch : Chain) (call : Call) (calls : List Call) → LastPlaced (after ch call) calls s c → LastPlaced ch (call ∷ calls) s c
  further ch call calls l = record {
    earlier = call ∷ l.earlier;
    image = l.image;
    entry = l.entry;
    later = l.later;
    stands = ap (λ z. call ∷ z) l.stands;
    picture = l.picture;
    during = l.during;
    accepted = l.accepted;
    last = l.last;
  }

  other_call : (ch : Chain) (call : Call) (calls : List Call) → ((image : Image) (r : Record) → call ≡ place s c image r → ⊥) → Search (after ch call) calls → Search ch (call ∷ calls)
  other_call ch call calls n (inl l) = inl (further ch call calls l)
  other_call ch call calls n (inr h) = inr (none_placed_more ch call calls (λ image r e _. n image r e) h)

  place_here : (ch : Chain) (image : Image) (r : Record) (calls : List Call) → Search (after ch (place s c image r)) calls → Search ch (place s c image r ∷ calls)
  place_here ch image r calls (inl l) = inl (further ch (place s c image r) calls l)
  place_here ch image r calls (inr h) = elim (accepted_or_not ch image.bytes r ch.picture) [
    | inl a ↦ inl (record { earlier = []; image = image; entry = r; later = calls; stands = refl; picture = a.0; during = a.1; accepted = a.2; last = h })
    | inr n ↦ inr (none_placed_more ch (place s c image r) calls (λ other o e a. n (subst (λ z. answer ch z ≡ placed (Ok tt)) (sym e) a)) h)
  ]

  search_last : (ch : Chain) (calls : List Call) → Search ch calls
  search_last ch [] = inr (λ x y image r e _. nothing_in x y (place s c image r) e)
  search_last ch (seal bytes i ∷ calls) = other_call ch (seal bytes i) calls (λ image r. other_than is_place refl refl) (search_last (after ch (seal bytes i)) calls)
  search_last ch (opens ∷ calls) = other_call ch opens calls (λ image r. other_than is_place refl refl) (search_last (after ch opens) calls)
  search_last ch (place k d image r ∷ calls) =
      let rest = search_last (after ch (place k d image r)) calls in
      let elsewhere : (k ≡ s → d ≡ c → ⊥) → Search ch (place k d image r ∷ calls) = λ n. other_call ch (place k d image r) calls (λ other o e. let es : k ≡ s = cc in let ed : d ≡ c = cc in n es ed) rest in
      elim (cases_eq k s) [
        | inl es ↦ elim (cases_eq d c) [
          | inl ed ↦ subst₂ (λ k d. Search (after ch (place k d image r)) calls → Search ch (place k d image r ∷ calls)) (sym es) (sym ed) (place_here ch image r calls) rest
          | inr n ↦ elsewhere (λ _ ed. n ed)
        ]
        | inr n ↦ elsewhere (λ es _. n es)
      ]
  search_last ch (close ∷ calls) = other_call ch close calls (λ image r. other_than is_place refl refl) (search_last (after ch close) calls)
  search_last ch (start t number first ∷ calls) = other_call ch (start t number first) calls (λ image r. other_than is_place refl refl) (search_last (after ch (start t number first)) calls)
  search_last ch (gather g t k d ∷ calls) = other_call ch (gather g t k d) calls (λ image r. other_than is_place refl refl) (search_last (after ch (gather g t k d)) calls)
  search_last ch (deliver t i ∷ calls) = other_call ch (deliver t i) calls (λ image r. other_than is_place refl refl) (search_last (after ch (deliver t i)) calls)
  search_last ch (paint k d left ∷ calls) = other_call ch (paint k d left) calls (λ image r. other_than is_place refl refl) (search_last (after ch (paint k d left)) calls)

  -- where there is none, none is noted
  none_noted : (ch : Chain) (calls : List Call) → NonePlaced ch calls s c → last_from None ch calls s c ≡ None
  none_noted ch [] n = refl
  none_noted ch (seal bytes i ∷ calls) n = none_noted (after ch (seal bytes i)) calls (none_placed_behind ch (seal bytes i) calls n)
  none_noted ch (opens ∷ calls) n = none_noted (after ch opens) calls (none_placed_behind ch opens calls n)
  none_noted ch (place k d image r ∷ calls) n =
      ap (λ z. last_from z (after ch (place k d image r)) calls s c) (not_noted ch k d image r calls None n)
      ∙ none_noted (after ch (place k d image r)) calls (none_placed_behind ch (place k d image r) calls n)
  none_noted ch (close ∷ calls) n = none_noted (after ch close) calls (none_placed_behind ch close calls n)
  none_noted ch (start t number first ∷ calls) n = none_noted (after ch (start t number first)) calls (none_placed_behind ch (start t number first) calls n)
  none_noted ch (gather g t k d ∷ calls) n = none_noted (after ch (gather g t k d)) calls (none_placed_behind ch (gather g t k d) calls n)
  none_noted ch (deliver t i ∷ calls) n = none_noted (after ch (deliver t i)) calls (none_placed_behind ch (deliver t i) calls n)
  none_noted ch (paint k d left ∷ calls) n =
      ap (λ z. last_from z (after ch (paint k d left)) calls s c) (cond_both (eqb k s && eqb d c) None None (λ z. z ≡ None) (λ _. refl) (λ _. refl))
      ∙ none_noted (after ch (paint k d left)) calls (none_placed_behind ch (paint k d left) calls n)

  -- what is noted is a run's last placing
  pub found : (new : Chain) (calls : List Call) (q : Placing) → last_placing new calls s c ≡ Some q → (l : LastPlaced new calls s c) × ((noted_as new calls l).placing ≡ q)
  found new calls q b = elim (search_last new calls) [
    | inl l ↦ (l, let a = (noted_as new calls l).is in cc)
    | inr n ↦ absurd (let a = none_noted new calls n in let z : ◌≡◌ {A = ℕ} 0 1 = cc in omega arith)
  ]

  -- and if noted in a picture, under an image, with no paint since, it is so
  pub intact_from : (new : Chain) (calls : List Call) (p : Picture) (image : List ℕ) → Fresh (last_placing new calls s c) p image → Intact new calls s c p image
  intact_from new calls p image h =
      let k = found new calls h.0 h.1 in
      let l = k.0 in
      let w = noted_as new calls l in
      (l, sym w.picture ∙ ap (λ z. z.picture) k.1 ∙ h.2, sym w.image ∙ ap (λ z. z.image) k.1 ∙ h.3, w.back (ap (λ z. z.painted) k.1 ∙ h.4))
