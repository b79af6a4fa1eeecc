-- Deliver accepts exactly the tables that hold all elements of a sealed image.
use Rattle.std.proofs.Common.{◌≡◌, ℕ, ◌<◌, true, not, eqb, List, map, length, get_or, is_ok, Some, None, Ok, Err, Decides, Option, Result, sym, refl, ap, ◌∙◌, subst, arith}
use lib.ListN.{length-map}
use Rattle.std.proofs.lemmas.List.{same_lists, get_or-map, get_or_default}
use Rattle.std.proofs.lemmas.Bool.{eqb-true, eq-eqb}
use Rattle.fault.specs.declared.Fault.{Fault}
use Rattle.fault.specs.declared.Fault.TheVariants.{Length, EmptySlot, DisputedSlot}
use Rattle.fault.specs.Refusing.{then, done}
use Rattle.slots.specs.declared.slot.Slot.{Slot}
use Rattle.slots.specs.declared.slot.Slot.TheVariants.{Empty, Held, Disputed}
use Rattle.slots.specs.declared.slot.State.{State}
use Rattle.slots.specs.Slots.{state_of, lowest_in, Lowest, NoneBelow}
use Rattle.slots.proofs.Searching.{lowest_holds}
use Rattle.block.proofs.Codes.{not-false}
use Rattle.format.specs.Formats.{element_count}
use Rattle.image.specs.Image.{judged, receiving}
use Rattle.image.specs.Elements.{elements_of, joined}
use Rattle.image.proofs.Joining.{element_at_lem, elements_long, joined_bytes, joined_elements}
use Rattle.image.proofs.Judging.{sealed_judged}
use Rattle.inserter.proofs.Placings.{passed_ok}
use Rattle.extractor.specs.Delivery.{found, held_in, collected, delivering, Whole}

-- a search that refused nothing found nothing
found_none : {A : Type 0} (o : Option ℕ) (fault : ℕ → Fault) (rest : Result A Fault) (x : A) → found o fault rest ≡ Ok x → (o ≡ None) × (rest ≡ Ok x)
found_none None fault rest x e = (refl, e)
found_none (Some n) fault rest x e = absurd (let z : ◌≡◌ {A = ℕ} 0 1 = cc in omega arith)

-- a slot that is neither empty nor disputed holds what it holds
holds : (s : Slot ℕ) → (state_of s ≡ State.Empty → ⊥) → (state_of s ≡ State.Disputed → ⊥) → s ≡ Held (held_in s)
holds Empty p q = absurd (p refl)
holds (Held v) p q = refl
holds Disputed p q = absurd (q refl)

module _ (slots : List (Slot ℕ)) where
  none_in : (s : State) → lowest_in s slots ≡ None → NoneBelow s slots (length slots)
  none_in s e = subst (λ (o : Option ℕ). Lowest s slots o) e (lowest_holds s slots)

  none_lowest : (s : State) → NoneBelow s slots (length slots) → lowest_in s slots ≡ None
  none_lowest s h = go (lowest_in s slots) (lowest_holds s slots)
    where
      go : (o : Option ℕ) → Lowest s slots o → o ≡ None
      go None l = refl
      go (Some n) l = absurd (h n l.0 l.1)

  -- what was collected
  collected_parts : (es : List ℕ) → collected slots ≡ Ok es → (length slots ≡ element_count) × ((i : ℕ) → i < element_count → get_or slots i Empty ≡ Held (get_or es i 0))
  collected_parts es e =
      let l = passed_ok (not (eqb (length slots) element_count)) Length _ es e in
      let n = found_none (lowest_in State.Empty slots) EmptySlot _ es l.1 in
      let d = found_none (lowest_in State.Disputed slots) DisputedSlot (Ok (map held_in slots)) es n.1 in
      let long = eqb-true (length slots) element_count (not-false _ l.0) in
      let same : map held_in slots ≡ es = let h = d.1 in cc in (
        long,
        λ i h.
            let hi : i < length slots = omega (arith, long) in
            holds (get_or slots i Empty) (none_in State.Empty n.0 i hi) (none_in State.Disputed d.0 i hi)
            ∙ ap Held (sym (get_or-map held_in slots i Empty 0 hi) ∙ ap (λ (l : List ℕ). get_or l i 0) same),
      )

  whole : (r : Result (List ℕ) Fault) → collected slots ≡ r → ((es : List ℕ) → collected slots ≡ Ok es → elements_of (joined es) ≡ es) →
      is_ok (done (then r (λ es. receiving (joined es)))) ≡ true → Whole slots
  whole (Err fault) e back h = absurd (let z : ◌≡◌ {A = ℕ} 0 1 = cc in omega arith)
  whole (Ok es) e back h =
      let p = collected_parts es e in
      record {
        bytes = joined es;
        shape = joined_bytes es;
        sealed = fits (judged (joined es)) h;
        long = p.0;
        held = λ i hi. p.1 i hi ∙ ap Held (ap (λ (l : List ℕ). get_or l i 0) (sym (back es e)) ∙ element_at_lem (joined es) i hi);
      }
    where
      fits : (r : Result (Unit {0}) Fault) → is_ok (done (then r (λ _. Ok (joined es)))) ≡ true → is_ok r ≡ true
      fits (Ok x) h = refl
      fits (Err fault) h = h

  module _ (w : Whole slots) where
    held-state : (s : State) → (s ≡ State.Held → ⊥) → NoneBelow s slots (length slots)
    held-state s ne i h e = ne (sym e ∙ ap state_of (w.held i (omega (arith, w.long))))

    elements-are : map held_in slots ≡ elements_of w.bytes
    elements-are =
        same_lists (map held_in slots) (elements_of w.bytes) (length-map slots held_in ∙ w.long ∙ sym (elements_long w.bytes)) (λ i d h.
        let hi : i < length slots = omega (arith, length-map slots held_in) in
        let he : i < length (elements_of w.bytes) = omega (arith, w.long, elements_long w.bytes) in
        get_or-map held_in slots i Empty d hi ∙ ap held_in (w.held i (omega (arith, w.long))) ∙ sym (element_at_lem w.bytes i (omega (arith, w.long))) ∙ get_or_default (elements_of w.bytes) i 0 d he)

    all-collected : collected slots ≡ Ok (elements_of w.bytes)
    all-collected =
        let l = eq-eqb (length slots) element_count w.long in
        rw (l, none_lowest State.Empty (held-state State.Empty (λ e. let z : ◌≡◌ {A = ℕ} 0 1 = cc in omega arith)), none_lowest State.Disputed (held-state State.Disputed (λ e. let z : ◌≡◌ {A = ℕ} 0 1 = cc in omega arith)))
        (ap Ok elements-are)

    delivered : is_ok (done (delivering slots)) ≡ true
    delivered =
        ap (λ (r : Result (List ℕ) Fault). is_ok (done (then r (λ es. receiving (joined es))))) all-collected
        ∙ ap (λ (bytes : List ℕ). is_ok (done (receiving bytes))) (joined_elements w.bytes w.shape)
        ∙ ap (λ (r : Result (Unit {0}) Fault). is_ok (done (then r (λ _. Ok w.bytes)))) (sealed_judged w.bytes w.sealed)

  pub delivery_accepts : ((es : List ℕ) → collected slots ≡ Ok es → elements_of (joined es) ≡ es) → Decides (is_ok (done (delivering slots))) (Whole slots)
  delivery_accepts back = (whole (collected slots) refl back, delivered)
