-- What `lowest_in` computes is the lowest slot in the state, and nothing else is.
use Rattle.std.proofs.Common.{◌≡◌, ℕ, zero, suc, Bool, true, false, cond, List, [], ◌∷◌, length, Some, None, Option, refl, ap, inl, inr, add-one, arith}
use Rattle.std.proofs.lemmas.Bool.{cases_order}
use Rattle.slots.specs.declared.slot.Slot.{Slot}
use Rattle.slots.specs.declared.slot.State.{State}
use Rattle.slots.specs.Slots.{state_of, same_state, further, lowest_in, NoneBelow, Lowest}

same_state_lem : (a b : State) → same_state a b ≡ true → a ≡ b
same_state_lem State.Empty State.Empty h = refl
same_state_lem State.Empty State.Held h = cc
same_state_lem State.Empty State.Disputed h = cc
same_state_lem State.Held State.Empty h = cc
same_state_lem State.Held State.Held h = refl
same_state_lem State.Held State.Disputed h = cc
same_state_lem State.Disputed State.Empty h = cc
same_state_lem State.Disputed State.Held h = cc
same_state_lem State.Disputed State.Disputed h = refl

same_itself : (a : State) → same_state a a ≡ true
same_itself State.Empty = refl
same_itself State.Held = refl
same_itself State.Disputed = refl

other_state : (a b : State) → same_state a b ≡ false → a ≡ b → ⊥
other_state a b h p = let z : ◌≡◌ {A = ℕ} 0 1 = cc (same_itself a) in omega arith

module _ {V : Type 0} where
  -- one slot more in front
  none_more : (s : State) (x : Slot V) (xs : List (Slot V)) (n : ℕ) → (state_of x ≡ s → ⊥) → NoneBelow s xs n → NoneBelow s (x ∷ xs) (suc n)
  none_more s x xs n first rest zero h p = first p
  none_more s x xs n first rest (suc k) h p = rest k (omega arith) p

  lowest_more : (s : State) (x : Slot V) (xs : List (Slot V)) (b : Bool) → same_state (state_of x) s ≡ b → (o : Option ℕ) → Lowest s xs o → Lowest s (x ∷ xs) (cond b (Some 0) (further o))
  lowest_more s x xs true e o h = (omega arith, same_state_lem (state_of x) s e, λ k l p. let z : ⊥ = omega arith in z)
  lowest_more s x xs false e None h = none_more s x xs (length xs) (other_state (state_of x) s e) h
  lowest_more s x xs false e (Some n) h = rw add-one (omega (arith, h.0), h.1, none_more s x xs n (other_state (state_of x) s e) h.2)

  pub lowest_holds : (s : State) (xs : List (Slot V)) → Lowest s xs (lowest_in s xs)
  unfolding lowest_in
  lowest_holds s [] = λ k h p. let z : ⊥ = omega arith in z
  lowest_holds s (x ∷ xs) = lowest_more s x xs (same_state (state_of x) s) refl (lowest_in s xs) (lowest_holds s xs)

  one_lowest : (s : State) (xs : List (Slot V)) (a b : Option ℕ) → Lowest s xs a → Lowest s xs b → a ≡ b
  one_lowest s xs None None p q = refl
  one_lowest s xs None (Some n) p q = absurd (p n q.0 q.1)
  one_lowest s xs (Some m) None p q = absurd (q m p.0 p.1)
  one_lowest s xs (Some m) (Some n) p q =
      elim (cases_order m n) [ inl e ↦ ap Some e | inr o ↦ elim o [ inl l ↦ absurd (q.2 m l p.1) | inr l ↦ absurd (p.2 n l q.1) ] ]

  pub lowest_is : (s : State) (xs : List (Slot V)) (r : Option ℕ) → Lowest s xs r → r ≡ lowest_in s xs
  lowest_is s xs r h = one_lowest s xs r (lowest_in s xs) h (lowest_holds s xs)
