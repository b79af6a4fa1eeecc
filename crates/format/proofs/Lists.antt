-- A list of macroblocks names no more of them than it is long.
use Rattle.std.proofs.Common.{◌≡◌, ℕ, zero, suc, ◌+◌, ◌≤◌, Bool, true, false, ◌&&◌, ◌||◌, eqb, ◌⊎◌, List, [], ◌∷◌, length, refl, ap, ap₂, inl, inr, arith}
use Rattle.std.proofs.lemmas.Bool.{cases_eq, ne_eqb, eq-eqb, true≢false}
use Rattle.format.specs.Formats.{columns_of, stripes_of}
use Rattle.format.specs.Carriers.{one, in_stripe, in_stripes, listed, LeftOfLists}
use Rattle.format.proofs.Carried.{left_of_sets}

one_or : (a b : Bool) → one (a || b) ≤ one a + one b
one_or true b = omega arith
one_or false b = omega arith

stripe_or : (p q : ℕ → Bool) (n : ℕ) → in_stripe (λ c. p c || q c) n ≤ in_stripe p n + in_stripe q n
unfolding in_stripe
stripe_or p q zero = omega arith
stripe_or p q (suc n) = omega (arith, one_or (p n) (q n), stripe_or p q n)

stripes_or : (p q : ℕ → ℕ → Bool) (columns n : ℕ) → in_stripes (λ s c. p s c || q s c) columns n ≤ in_stripes p columns n + in_stripes q columns n
unfolding in_stripes
stripes_or p q columns zero = omega arith
stripes_or p q columns (suc n) = omega (arith, stripe_or (p n) (q n) columns, stripes_or p q columns n)

-- a column counts for nothing in another stripe, or where it comes later
stripe_none : (b : Bool) (column n : ℕ) → (n ≤ column) ⊎ (b ≡ false) → in_stripe (λ c. b && eqb column c) n ≡ 0
unfolding in_stripe
stripe_none b column zero h = refl
stripe_none true column (suc n) (inl h) = omega (arith, ap one (ne_eqb column n (omega arith)), stripe_none true column n (inl (omega arith)))
stripe_none true column (suc n) (inr h) = absurd (true≢false h)
stripe_none false column (suc n) h = omega (arith, stripe_none false column n (inr refl))

stripe_once : (b : Bool) (column n : ℕ) → in_stripe (λ c. b && eqb column c) n ≤ one b
unfolding in_stripe
stripe_once b column zero = omega arith
stripe_once false column (suc n) = omega (arith, stripe_once false column n)
stripe_once true column (suc n) =
    elim (cases_eq column n) [
      | inl e ↦ omega (arith, ap one (eq-eqb column n e), stripe_none true column n (inl (omega arith)))
      | inr e ↦ omega (arith, ap one (ne_eqb column n e), stripe_once true column n)
    ]

stripes_none : (stripe column columns n : ℕ) → n ≤ stripe → in_stripes (λ s c. eqb stripe s && eqb column c) columns n ≡ 0
unfolding in_stripes
stripes_none stripe column columns zero h = refl
stripes_none stripe column columns (suc n) h =
    ap₂ (λ (x y : ℕ). x + y) (stripe_none (eqb stripe n) column columns (inr (ne_eqb stripe n (omega arith)))) (stripes_none stripe column columns n (omega arith))

stripes_once : (stripe column columns n : ℕ) → in_stripes (λ s c. eqb stripe s && eqb column c) columns n ≤ 1
unfolding in_stripes
stripes_once stripe column columns zero = omega arith
stripes_once stripe column columns (suc n) =
    elim (cases_eq stripe n) [
      | inl e ↦ omega (arith, stripe_once (eqb stripe n) column columns, ap one (eq-eqb stripe n e), stripes_none stripe column columns n (omega arith))
      | inr e ↦ omega (arith, stripe_once (eqb stripe n) column columns, ap one (ne_eqb stripe n e), stripes_once stripe column columns n)
    ]

none_listed : (columns n : ℕ) → in_stripes (listed []) columns n ≡ 0
unfolding in_stripes
none_listed columns zero = refl
none_listed columns (suc n) = ap₂ (λ (x y : ℕ). x + y) (stripe_none false 0 columns (inr refl)) (none_listed columns n)

count_listed : (ms : List (ℕ × ℕ)) (columns n : ℕ) → in_stripes (listed ms) columns n ≤ length ms
count_listed [] columns n = omega (arith, none_listed columns n)
count_listed (m ∷ ms) columns n =
    omega (arith, stripes_or (λ s c. eqb m.0 s && eqb m.1 c) (listed ms) columns n, stripes_once m.0 m.1 columns n, count_listed ms columns n)

pub left_of_lists : LeftOfLists
left_of_lists f lost few i h = left_of_sets f (listed lost) (omega (arith, count_listed lost (columns_of f) (stripes_of f))) i h
