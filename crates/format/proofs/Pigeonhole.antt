-- Where more macroblocks pass one test than pass another, some macroblock passes the one and not the other.
use Rattle.std.proofs.Common.{◌≡◌, ℕ, zero, suc, ◌<◌, Bool, true, false, refl, ap, inl, inr, arith}
use Rattle.std.proofs.lemmas.Bool.{cases_lt}
use Rattle.format.specs.declared.table.Format.{Format}
use Rattle.format.specs.Formats.{columns_of, stripes_of, in_format}
use Rattle.format.specs.Carriers.{one, in_stripe, in_stripes, count}
use Rattle.format.proofs.Places.{is_in_format}

in_stripe_lem : (p q : ℕ → Bool) (n : ℕ) → in_stripe q n < in_stripe p n → (c : ℕ) × (c < n) × (p c ≡ true) × (q c ≡ false)
unfolding in_stripe
in_stripe_lem p q zero h = absurd (omega arith)
in_stripe_lem p q (suc n) h = by_last (p n) (q n) refl refl (in_stripe_lem p q n)
  where
    by_last : (a b : Bool) → p n ≡ a → q n ≡ b → (in_stripe q n < in_stripe p n → (c : ℕ) × (c < n) × (p c ≡ true) × (q c ≡ false)) → (c : ℕ) × (c < suc n) × (p c ≡ true) × (q c ≡ false)
    by_last true false ea eb before = (n, omega arith, ea, eb)
    by_last true true ea eb before = let r = before (omega (arith, h, ap one ea, ap one eb)) in (r.0, omega (arith, r.1), r.2, r.3)
    by_last false b ea eb before = let r = before (omega (arith, h, ap one ea)) in (r.0, omega (arith, r.1), r.2, r.3)

pub in_stripes_lem : (p q : ℕ → ℕ → Bool) (columns n : ℕ) → in_stripes q columns n < in_stripes p columns n → (s : ℕ) × (c : ℕ) × (s < n) × (c < columns) × (p s c ≡ true) × (q s c ≡ false)
unfolding in_stripes
in_stripes_lem p q columns zero h = absurd (omega arith)
in_stripes_lem p q columns (suc n) h =
    elim (cases_lt (in_stripe (q n) columns) (in_stripe (p n) columns)) [
      | inl l ↦ let r = in_stripe_lem (p n) (q n) columns l in (n, r.0, omega arith, r.1, r.2, r.3)
      | inr l ↦ let r = in_stripes_lem p q columns n (omega arith) in (r.0, r.1, omega (arith, r.2), r.3, r.4, r.5)
    ]

-- of a format
pub pigeonhole : (f : Format) (p q : ℕ → ℕ → Bool) → count f q < count f p → (s : ℕ) × (c : ℕ) × (in_format f s c ≡ true) × (p s c ≡ true) × (q s c ≡ false)
pigeonhole f p q h = let r = in_stripes_lem p q (columns_of f) (stripes_of f) h in (r.0, r.1, is_in_format f r.0 r.1 r.2 r.3, r.4, r.5)
