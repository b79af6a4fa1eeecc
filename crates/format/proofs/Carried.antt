-- Every element has its carriers. A stripe of at most 135 columns carries an element once or not at all, so that one test over
-- the stripes, which antt computes, tells the least number of carriers.
use Rattle.std.proofs.Common.{◌≡◌, ℕ, zero, suc, ◌+◌, ◌-◌, ◌*◌, ◌/◌, ◌%◌, ◌<◌, ◌≤◌, Bool, true, ◌&&◌, ltb, leb, sym, refl, ap, ◌∙◌, ap₂, inl, inr, arith, lit<}
use Rattle.std.proofs.lemmas.Bool.{cases_order, and_parts, eqb-true, leb-true, eq-eqb, ne_eqb, lt-ltb, le-ltb}
use Rattle.format.specs.declared.table.Format.{Format}
use Rattle.format.specs.declared.table.Format.TheVariants.{Frame1080, Field1080, Frame720, Bench}
use Rattle.format.specs.Formats.{columns_of, stripes_of, carriers_of, element_count, index_of}
use Rattle.format.specs.Carriers.{one, in_stripe, in_stripes, count, carries, EachCarried, SomeNoMore, LeftOfSets}
use Rattle.format.proofs.Places.{columns_few}
use Rattle.format.proofs.Pigeonhole.{pigeonhole}

-- the column of a stripe that carries element i, if the stripe is as long
abbrev bearer : ℕ → ℕ → ℕ
bearer i stripe = (i + 135 - (stripe % 3 * 45 + 27 * (stripe / 3)) % 135) % 135

once : (i stripe n : ℕ) → i < 135 → n ≤ 135 → in_stripe (carries i stripe) n ≡ one (ltb (bearer i stripe) n)
unfolding in_stripe
once i stripe zero hi hn = ap one (sym (le-ltb (bearer i stripe) zero (omega arith)))
once i stripe (suc n) hi hn =
    let before = once i stripe n hi (omega arith) in
    elim (cases_order n (bearer i stripe)) [
      | inl e ↦ ap₂ (λ (x y : ℕ). x + y) (ap one (eq-eqb (index_of stripe n) i (omega arith))) (before ∙ ap one (le-ltb (bearer i stripe) n (omega arith))) ∙ ap one (sym (lt-ltb (bearer i stripe) (suc n) (omega arith)))
      | inr (inl l) ↦ ap₂ (λ (x y : ℕ). x + y) (ap one (ne_eqb (index_of stripe n) i (omega arith))) (before ∙ ap one (le-ltb (bearer i stripe) n (omega arith))) ∙ ap one (sym (le-ltb (bearer i stripe) (suc n) (omega arith)))
      | inr (inr l) ↦ ap₂ (λ (x y : ℕ). x + y) (ap one (ne_eqb (index_of stripe n) i (omega arith))) (before ∙ ap one (lt-ltb (bearer i stripe) n (omega arith))) ∙ ap one (sym (lt-ltb (bearer i stripe) (suc n) (omega arith)))
    ]

-- how many of the first n stripes carry element i
abbrev bearing : ℕ → ℕ → ℕ → ℕ
bearing i columns zero = 0
bearing i columns (suc n) = one (ltb (bearer i n) columns) + bearing i columns n

counted : (i columns n : ℕ) → i < 135 → columns ≤ 135 → in_stripes (carries i) columns n ≡ bearing i columns n
unfolding in_stripes
counted i columns zero hi hc = refl
counted i columns (suc n) hi hc = ap₂ (λ (x y : ℕ). x + y) (once i n columns hi hc) (counted i columns n hi hc)

count_bearing : (f : Format) (i : ℕ) → i < 135 → count f (carries i) ≡ bearing i (columns_of f) (stripes_of f)
count_bearing f i h = counted i (columns_of f) (stripes_of f) h (omega (arith, columns_few f))

-- the first n elements have that many carriers or more
abbrev enough : Format → ℕ → Bool
enough f zero = true
enough f (suc n) = leb (carriers_of f) (bearing n (columns_of f) (stripes_of f)) && enough f n

from_enough : (f : Format) (n : ℕ) → enough f n ≡ true → (i : ℕ) → i < n → carriers_of f ≤ bearing i (columns_of f) (stripes_of f)
from_enough f zero t i h = absurd (omega arith)
from_enough f (suc n) t i h =
    let p = and_parts (leb (carriers_of f) (bearing n (columns_of f) (stripes_of f))) (enough f n) t in
    elim (cases_order i n) [
      | inl e ↦ omega (arith, leb-true (carriers_of f) (bearing n (columns_of f) (stripes_of f)) p.0, ap (λ k. bearing k (columns_of f) (stripes_of f)) e)
      | inr (inl l) ↦ from_enough f n p.1 i l
      | inr (inr l) ↦ absurd (omega arith)
    ]

all_enough : (f : Format) → enough f element_count ≡ true
all_enough Frame1080 = refl
all_enough Field1080 = refl
all_enough Frame720 = refl
all_enough Bench = refl

pub each_carried : EachCarried
each_carried f i h = omega (arith, count_bearing f i h, from_enough f element_count (all_enough f) i h)

-- an element that has no more carriers than the table says
abbrev rarest : Format → ℕ
rarest Frame1080 = 39
rarest Field1080 = 12
rarest Frame720 = 8
rarest Bench = 0

rarest_bearing : (f : Format) → (rarest f < element_count) × (bearing (rarest f) (columns_of f) (stripes_of f) ≡ carriers_of f)
rarest_bearing Frame1080 = (lit< tt, refl)
rarest_bearing Field1080 = (lit< tt, refl)
rarest_bearing Frame720 = (lit< tt, refl)
rarest_bearing Bench = (lit< tt, refl)

pub some_no_more : SomeNoMore
some_no_more f = let r = rarest_bearing f in (rarest f, r.0, count_bearing f (rarest f) r.0 ∙ r.1)

pub left_of_sets : LeftOfSets
left_of_sets f lost few i h =
    let m = pigeonhole f (carries i) lost (omega (arith, each_carried f i h)) in
    (m.0, m.1, m.2, eqb-true (index_of m.0 m.1) i m.3, m.4)
