-- Laws of an offer: to one slot, and to a slot in a list.
use Rattle.std.proofs.Common.{◌≡◌, Decides, ℕ, ◌<◌, ◌≤◌, Bool, true, false, cond, ltb, List, [], ◌∷◌, length, get_or, IfOk, Ok, Err, Result, sym, refl, ap, ◌∙◌, subst, arith}
use Rattle.std.proofs.lemmas.List.{get_or-set_same, get_or-set_other, set_past}
use Rattle.std.proofs.lemmas.Bool.{ltb-true, ltb-false, cond-true, cond-false}
use Rattle.fault.specs.declared.Fault.{Fault}
use Rattle.fault.specs.declared.Fault.TheVariants.{SlotNumber}
use Rattle.slots.specs.declared.slot.Slot.{Slot}
use Rattle.slots.specs.declared.slot.Slot.TheVariants.{Empty, Held, Disputed}
use Rattle.slots.specs.Slots.{offered, offered_at, numbered, slot_at, offers, AllAre, Settled, OffersSettle}

-- a test that decides equality
abbrev Exactly : {A : Type 0} → (A → A → Bool) → Type 0
Exactly {A} same = (x y : A) → Decides (same x y) (x ≡ y)

inside_at : (b : Bool) → ◌≡◌ {A = Result (Unit {0}) Fault} (Ok tt) (cond b (Ok tt) (Err SlotNumber)) → b ≡ true
inside_at true h = refl
inside_at false h = cc

not-true : (b : Bool) → (b ≡ true → ⊥) → b ≡ false
not-true true h = absurd (h refl)
not-true false h = refl

module _ {V : Type 0} where
  -- a number is refused if it lies outside
  outside_at : (f : Fault) (b : Bool) (x : Slot V) → Err f ≡ cond b (Ok x) (Err SlotNumber) → b ≡ false
  outside_at f true x h = cc
  outside_at f false x h = refl

  pub outside : (xs : List (Slot V)) (n : ℕ) (f : Fault) → Err f ≡ slot_at xs n → length xs ≤ n
  outside xs n f h = ltb-false n (length xs) (outside_at f (ltb n (length xs)) (get_or xs n Empty) h)

  -- and an offer there changes nothing
  pub unchanged : (same : V → V → Bool) (xs : List (Slot V)) (n : ℕ) (v : V) → length xs ≤ n → xs ≡ offered_at same xs n v
  unchanged same xs n v h = sym (set_past xs n (offered same (get_or xs n Empty) v) h)

  -- the laws of an offer to one slot, from a test that decides equality
  pub settled : (same : V → V → Bool) → Exactly same → (s : Slot V) (v : V) → Settled s v (offered same s v)
  settled same exact s v =
      record {
        filled = λ p. ap (λ t. offered same t v) p;
        equal = λ p. ap (λ t. offered same t v) p ∙ cond-true (same v v) (Held v) Disputed ((exact v v).1 refl);
        unequal = λ w p apart. ap (λ t. offered same t v) p ∙ cond-false (same w v) (Held w) Disputed (not-true (same w v) (λ t. apart ((exact w v).0 t)));
        disputed = λ p. ap (λ t. offered same t v) p;
      }

  -- the laws of any number of offers
  stays : (same : V → V → Bool) (vs : List V) → offers same Disputed vs ≡ Disputed
  stays same [] = refl
  stays same (v ∷ vs) = stays same vs

  holds : (same : V → V → Bool) → Exactly same → (v : V) (vs : List V) → AllAre v vs → offers same (Held v) vs ≡ Held v
  holds same exact v [] all = refl
  holds same exact v (w ∷ ws) all =
      ap (λ t. offers same t ws) (cond-true (same v w) (Held v) Disputed ((exact v w).1 (sym all.0))) ∙ holds same exact v ws all.1

  held_after : (same : V → V → Bool) → Exactly same → (w v u : V) (us : List V) (b : Bool) → same w u ≡ b → (offers same (Held w) us ≡ Held v → (w ≡ v) × AllAre v us) → offers same (cond b (Held w) Disputed) us ≡ Held v → (w ≡ v) × AllAre v (u ∷ us)
  held_after same exact w v u us true e rest h = let r = rest h in (r.0, (sym ((exact w u).0 e) ∙ r.0, r.1))
  held_after same exact w v u us false e rest h = let z : ◌≡◌ {A = ℕ} 0 1 = cc (stays same us) in absurd (omega arith)

  held : (same : V → V → Bool) → Exactly same → (w v : V) (vs : List V) → offers same (Held w) vs ≡ Held v → (w ≡ v) × AllAre v vs
  held same exact w v [] h = (cc, tt)
  held same exact w v (u ∷ us) h = held_after same exact w v u us (same w u) refl (held same exact w v us) h

  held_first : (same : V → V → Bool) → Exactly same → (v : V) (vs : List V) → offers same Empty vs ≡ Held v → (vs ≡ [] → ⊥) × AllAre v vs
  held_first same exact v [] h = let z : ◌≡◌ {A = ℕ} 0 1 = cc in absurd (omega arith)
  held_first same exact v (w ∷ ws) h = (λ p. let z : ◌≡◌ {A = ℕ} 0 1 = cc in omega arith, held same exact w v ws h)

  pub offers_settle : (same : V → V → Bool) → Exactly same → OffersSettle same
  offers_settle same exact = record { holds = holds same exact; held = held_first same exact; disputed = stays same }

  -- the laws of an offer to a slot in a list
  pub settled_at : (same : V → V → Bool) → Exactly same → (old new : List (Slot V)) (n : ℕ) (v : V) (r : Result (Unit {0}) Fault) → r ≡ numbered (length old) n tt → new ≡ offered_at same old n v → IfOk r (λ _. Settled (get_or old n Empty) v (get_or new n Empty))
  settled_at same exact old new n v (Ok tt) e h =
      let l : n < length old = ltb-true n (length old) (inside_at (ltb n (length old)) e) in
      let is : get_or new n Empty ≡ offered same (get_or old n Empty) v = ap (λ xs. get_or xs n Empty) h ∙ get_or-set_same old n (offered same (get_or old n Empty) v) Empty l in
      subst (Settled (get_or old n Empty) v) (sym is) (settled same exact (get_or old n Empty) v)
  settled_at same exact old new n v (Err f) e h = tt

  pub others_at : (same : V → V → Bool) (old new : List (Slot V)) (n : ℕ) (v : V) → new ≡ offered_at same old n v → (k : ℕ) → (k ≡ n → ⊥) → get_or new k Empty ≡ get_or old k Empty
  others_at same old new n v h k apart = ap (λ xs. get_or xs k Empty) h ∙ get_or-set_other old n k (offered same (get_or old n Empty) v) Empty apart

  pub refused_at : (same : V → V → Bool) (old new : List (Slot V)) (n : ℕ) (v : V) → new ≡ offered_at same old n v → length old ≤ n → new ≡ old
  refused_at same old new n v h out = h ∙ sym (unchanged same old n v out)
