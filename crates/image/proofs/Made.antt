-- Arrays that `from_fn` makes.
use Rattle.std.proofs.Common.{◌≡◌, ℕ, zero, suc, ◌+◌, ◌<◌, List, map, get_or, ◌∙◌, subst, add-zero, zero-add, arith}
use Rattle.std.specs.Fn.{Called}
use Rattle.std.specs.List.{range_with_len}
use Rattle.std.specs.Array.{IsFromFnResult, IsFromFnResultFrom}
use Rattle.std.proofs.lemmas.List.FromFn.{fill_by_all}
use denote.Param.Members.{Mut}

-- where each call answers h of its number and leaves the closure as it was, the array is h of each number
module _ {F B : Type 0} (g : Mut F (ℕ × Unit {0}) B) (h : ℕ → B) (f : F) (call : (i : ℕ) (y : B) (q : F) → Called g f (i, tt) y q → (q ≡ f) × (y ≡ h i)) where
  from : (ys : List B) (d : B) (n i k : ℕ) → IsFromFnResultFrom g f ys i n → k < n → get_or ys (i + k) d ≡ h (i + k)
  from ys d zero i k m l = absurd (omega arith)
  from ys d (suc n) i zero m l = rw (add-zero i) (m.2.1 d ∙ (call i m.1 m.0 m.3).1)
  from ys d (suc n) i (suc k) m l =
      let e : i + suc k ≡ i + 1 + k = omega arith in
      rw e (from ys d n (i + 1) k (subst (λ q. IsFromFnResultFrom g q ys (i + 1) n) (call i m.1 m.0 m.3).0 m.4) (omega arith))

  pub made : (ys : List B) (d : B) (n : ℕ) → IsFromFnResult g f ys n → ys ≡ map h (range_with_len 0 n)
  made ys d n m = fill_by_all h ys n d m.long (λ k l. subst (λ j. get_or ys j d ≡ h j) (zero-add k) (from ys d n 0 k m.each l))
