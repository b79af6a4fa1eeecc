-- The blocks of the bench picture can be written: one computed test over all positions.
use Rattle.std.proofs.Common.{◌≡◌, ℕ, zero, suc, ◌<◌, Bool, true, false, ◌&&◌, is_ok, Ok, Err, Result, refl, ap, ◌∙◌, inl, inr, arith}
use Rattle.std.proofs.lemmas.Bool.{cases_eq}
use Rattle.fault.specs.declared.Fault.{Fault}
use Rattle.fault.specs.Refusing.{then}
use Rattle.record.specs.Rules.{fits_widths, keeps_rules, checked}
use Rattle.block.specs.Code.{rows_of, encoded}
use Rattle.carry.specs.Content.{record_at, block_at}

abbrev all_below : ℕ → (ℕ → Bool) → Bool
all_below zero f = true
all_below (suc n) f = f n && all_below n f

both : (a b : Bool) → (a && b) ≡ true → (a ≡ true) × (b ≡ true)
both true true e = (refl, refl)
both true false e = (refl, e)
both false b e = (e, cc)

below : (n : ℕ) (f : ℕ → Bool) → all_below n f ≡ true → (k : ℕ) → k < n → f k ≡ true
below zero f e k h = absurd (omega arith)
below (suc n) f e k h =
    elim (cases_eq k n) [ inl s ↦ ap f s ∙ (both (f n) (all_below n f) e).0 | inr d ↦ below n f (both (f n) (all_below n f) e).1 k (omega arith) ]

done : (r : Result (Unit {0}) Fault) → is_ok r ≡ true → r ≡ Ok tt
done (Ok x) e = refl
done (Err f) e = cc

pub lawful_at : (p : ℕ) → p < 135 → checked (record_at p) ≡ Ok tt
unfolding fits_widths keeps_rules
lawful_at p h = done (checked (record_at p)) (below 135 (λ k. is_ok (checked (record_at k))) refl p h)

pub written_at : (p : ℕ) → p < 135 → encoded (block_at p) ≡ Ok (rows_of (block_at p))
unfolding block_at
written_at p h = ap (λ r. then r (λ _. Ok (rows_of (block_at p)))) (lawful_at p h)
