-- The turns of `fold` and `try_fold` over the numbers below n. R is a turn, which takes what the chain keeps from p to q, and J holds of what it keeps after k turns.
use Rattle.std.proofs.Common.{◌≡◌, ℕ, ◌+◌, ◌<◌, ◌≤◌, List, [], ◌∷◌, Option, Some, None, IfErr, Ok, Err, Result, sym, refl, ap, ◌∙◌, subst, arith}
use Rattle.std.proofs.iter.Yields.{nat_range_steps}
use Rattle.std.specs.Fn.{Called, Takes}
use Rattle.std.specs.Iterator.{Yields, YieldsThen, Drains, CallableAtEachTurn, TryFoldTurn, CallableInTryFold}
use Rattle.std.specs.List.{FoldsTo}
use Rattle.std.specs.Option.{MatchOption}
use Rattle.std.specs.Result.{result_from_control_flow}
use Rattle.std.specs.declared.ops.Range.{Range}
use denote.Param.Members.{Mut}

module _ {P : Type 0} (R : P → ℕ → P → Type 0) (J : ℕ → P → Type 0) (n : ℕ) (keeps : (k : ℕ) (p q : P) → k < n → J k p → R p k q → J (k + 1) q) where
  turned : (xs : List ℕ) (s t : Range ℕ) (p q : P) → s.end ≡ n → s.start ≤ n → J s.start p → Yields nat_range_steps s xs t → FoldsTo R p xs q → (t.end ≡ n) × (t.start ≤ n) × J t.start q
  turned [] s t p q e l j y f = rw (sym y, sym f) (e, l, j)
  turned (x ∷ xs) s t p q e l j y f =
      let inside : s.start < n = omega (arith, e, y.1.1.0) in
      let next = keeps s.start p f.0 inside j (subst (λ i. R p i f.0) y.1.1.1 f.1) in
      turned xs y.0 t f.0 q (y.1.0 ∙ e) (omega (arith, y.1.1.2)) (subst (λ i. J i f.0) (sym y.1.1.2) next) y.2 f.2

  -- what each turn asks holds
  pub callable : (Q : P → ℕ → Type 0) → ((k : ℕ) (p : P) → k < n → J k p → Q p k) → (p : P) → J 0 p → CallableAtEachTurn nat_range_steps R Q (record { start = 0; end = n }) p
  callable Q asks p j = record {
    at = λ xs t q x u y f e.
        let h = turned xs (record { start = 0; end = n }) t p q refl (omega arith) j y f in
        subst (λ i. Q q i) (sym e.1.1) (asks t.start q (omega (arith, h.0, e.1.0)) h.2);
  }

  -- after all turns
  pub drained : (xs : List ℕ) (p q : P) → J 0 p → Drains nat_range_steps (record { start = 0; end = n }) xs → FoldsTo R p xs q → J n q
  drained xs p q j d f =
      let h = turned xs (record { start = 0; end = n }) d.1.0 p q refl (omega arith) j d.1.1 f in
      subst (λ i. J i q) (omega (arith, h.0, h.1, d.1.2.1.0)) h.2

  -- the same where no turn breaks off
  pub unbroken : (xs : List ℕ) (o : Option ℕ) (u : Range ℕ) (p q : P) (Whole : Type 0) (Broken : ℕ → Type 0) → J 0 p → YieldsThen nat_range_steps (record { start = 0; end = n }) xs o u → FoldsTo R p xs q
      → MatchOption o Whole Broken → ((k : ℕ) → k < n → J k q → Broken k → ⊥) → J n q × Whole
  unbroken xs None u p q Whole Broken j y f m never = (drained xs p q j (u, y) f, m)
  unbroken xs (Some x) u p q Whole Broken j y f m never =
      let h = turned xs (record { start = 0; end = n }) y.0 p q refl (omega arith) j y.1 f in
      let e = y.2 in
      absurd (never y.0.start (omega (arith, h.0, e.1.0)) h.2 (subst Broken e.1.1 m))

-- A `try_fold` whose every call goes on: the closure stays f, and after k turns the total is h k.
module _ {F B E : Type 0} (g : Mut F (B × (ℕ × Unit {0})) (Result B E)) (f : F) (h : ℕ → B) (init : B) (none : init ≡ h 0) (n : ℕ) (call : (k : ℕ) (v : Result B E) (q : F) → k < n → Called g f (h k, (k, tt)) v q → (q ≡ f) × (v ≡ Ok (h (k + 1)))) where
  abbrev Kept : ℕ → F × B → Type 0
  Kept k p = (p.0 ≡ f) × (p.1 ≡ h k)

  called : (p : F × B) (k : ℕ) (v : Result B E) (q : F) → k < n → Kept k p → Called g p.0 (p.1, (k, tt)) v q → (q ≡ f) × (v ≡ Ok (h (k + 1)))
  called p k v q l j c = call k v q l (subst (λ a. Called g f (a, (k, tt)) v q) j.1 (subst (λ x. Called g x (p.1, (k, tt)) v q) j.0 c))

  keeps : (k : ℕ) (p q : F × B) → k < n → Kept k p → TryFoldTurn g (λ r c. r ≡ result_from_control_flow c) p k q → Kept (k + 1) q
  keeps k p q l j t =
      let r = called p k t.0 q.0 l j t.1 in
      let e : Ok q.1 ≡ Ok (h (k + 1)) = sym t.2 ∙ r.1 in
      (r.0, let i = e in cc)

  pub callable_in_try : ((k : ℕ) → k < n → Takes g f (h k, (k, tt))) → CallableInTryFold nat_range_steps g (λ r c. r ≡ result_from_control_flow c) (record { start = 0; end = n }) f init
  callable_in_try asks = callable (TryFoldTurn g (λ r c. r ≡ result_from_control_flow c)) Kept n keeps _ (λ k p l j. rw (j.0, j.1) (asks k l)) (f, init) (refl, none)

  -- from the parts of what `try_fold` ensures
  pub folded : (r : Result B E) (xs : List ℕ) (o : Option ℕ) (u : Range ℕ) (q : F) (a : B) (Broken : ℕ → Type 0) → YieldsThen nat_range_steps (record { start = 0; end = n }) xs o u
      → FoldsTo {P = F × B} (TryFoldTurn g (λ r c. r ≡ result_from_control_flow c)) (f, init) xs (q, a) → MatchOption o (r ≡ Ok a) Broken
      → ((k : ℕ) → Broken k → (v : Result B E) × (s : F) × (e : E) × Called g q (a, (k, tt)) v s × (v ≡ Err e)) → r ≡ Ok (h n)
  folded r xs o u q a Broken y t m broke =
      let w = unbroken (TryFoldTurn g (λ r c. r ≡ result_from_control_flow c)) Kept n keeps xs o u (f, init) (q, a) _ Broken (refl, none) y t m
      (λ k l j b. let s = broke k b in subst (λ v. IfErr v (λ _. ⊥)) (sym (called (q, a) k s.0 s.1 l j s.3).1 ∙ s.4) tt) in
      w.1 ∙ ap Ok w.0.1
