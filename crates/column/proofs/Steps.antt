-- The steps of an embedding: one bit more of a row, and one row more of a window.
use Rattle.std.proofs.Common.{◌≡◌, ℕ, ◌+◌, ◌-◌, ◌*◌, ◌/◌, ◌%◌, ◌<◌, ◌≤◌, Bool, true, false, cond, eqb, ltb, List, get_or, refl, ◌∙◌, inl, inr, arith}
use Rattle.std.proofs.lemmas.Bool.{cases_eq, eq-eqb, ne_eqb}
use Rattle.std.proofs.lemmas.Bool.Decides.{nat_tests}
use Rattle.raster.specs.Meaning.{replaced, with_bit}
use Rattle.column.specs.Scramble.{scrambled, is_one, one_if}
use Rattle.column.specs.Column.{bit_at, laden}
use Rattle.column.specs.Window.{among, line_to, rows_to}

-- a bit, as a truth value and back
bit_back : (d : ℕ) → d < 2 → one_if (is_one d) ≡ d
bit_back d h = grind (arith, nat_tests)

pub below_two : (n : ℕ) → n % 2 < 2
below_two n = omega arith

-- the set of a scrambled bit makes the laden word
set_laden : (line : ℕ → ℕ) (j d : ℕ) → d < 2 → with_bit (line j) (is_one (scrambled (line j) (line (j + 1)) (one_if (is_one d)))) ≡ laden line j d
set_laden line j d h = rw (bit_back d h, bit_back (scrambled (line j) (line (j + 1)) d) (below_two _))

-- the chroma word of bit k, and the luma word after it
module _ (first k : ℕ) where
  among_new : among first k (first + 2 * k) ≡ false
  among_new = grind (arith, nat_tests)

  among_next : among first k (first + 2 * k + 1) ≡ false
  among_next = grind (arith, nat_tests)

  among_hit : among first (k + 1) (first + 2 * k) ≡ true
  among_hit = grind (arith, nat_tests)

  among_other : (j : ℕ) → (j ≡ first + 2 * k → ⊥) → among first (k + 1) j ≡ among first k j
  among_other j n = grind (arith, nat_tests)

  pub place_bit : (first + 2 * k - first) / 2 ≡ k
  place_bit = omega arith

-- row n is not one of the first n rows, but of one more; any other row is of these if it is of those
module _ (n : ℕ) where
  past : ltb n n ≡ false
  past = grind (arith, nat_tests)

  just : ltb n (n + 1) ≡ true
  just = grind (arith, nat_tests)

  before : (i : ℕ) → (i ≡ n → ⊥) → ltb i (n + 1) ≡ ltb i n
  before i h = grind (arith, nat_tests)

-- one bit more of a row
module _ (at₀ at₁ at₂ : ℕ → ℕ → ℕ) (rows words r first v k : ℕ) (b : Bool) (eb : b ≡ is_one (bit_at v k)) (hk : k < 16) (hr : r < rows) (hw : first + 32 ≤ words)
    (h₁ : (i j : ℕ) → i < rows → j < words → at₁ i j ≡ cond (eqb i r) (line_to (at₀ i) first v k j) (at₀ i j))
    (h₂ : (i j : ℕ) → i < rows → j < words → at₂ i j ≡ replaced at₁ r (first + 2 * k) (is_one (scrambled (at₁ r (first + 2 * k)) (at₁ r (first + 2 * k + 1)) (one_if b))) i j) where
  chroma_yet : at₁ r (first + 2 * k) ≡ at₀ r (first + 2 * k)
  chroma_yet = h₁ r (first + 2 * k) hr (omega arith) ∙ rw (eq-eqb r r refl, among_new first k)

  luma_yet : at₁ r (first + 2 * k + 1) ≡ at₀ r (first + 2 * k + 1)
  luma_yet = h₁ r (first + 2 * k + 1) hr (omega arith) ∙ rw (eq-eqb r r refl, among_next first k)

  pub bit_more : (i j : ℕ) → i < rows → j < words → at₂ i j ≡ cond (eqb i r) (line_to (at₀ i) first v (k + 1) j) (at₀ i j)
  bit_more i j hi hj =
      elim (cases_eq i r) [
        | inl ei ↦ elim (cases_eq j (first + 2 * k)) [
          | inl ej ↦ h₂ i j hi hj ∙ rw (ei, ej, eq-eqb r r refl, eq-eqb (first + 2 * k) (first + 2 * k) refl, among_hit first k, place_bit first k, chroma_yet, luma_yet, eb) (set_laden (at₀ r) (first + 2 * k) (bit_at v k) (below_two _))
          | inr nj ↦
              let u : at₂ i j ≡ at₁ i j = h₂ i j hi hj ∙ rw (ei, eq-eqb r r refl, ne_eqb j (first + 2 * k) nj) in
              u ∙ h₁ i j hi hj ∙ rw (among_other first k j nj)
        ]
        | inr ni ↦
            let u : at₂ i j ≡ at₁ i j = h₂ i j hi hj ∙ rw (ne_eqb i r ni) in
            u ∙ h₁ i j hi hj ∙ rw (ne_eqb i r ni)
      ]

-- lines that agree are laden alike
module _ (a b : ℕ → ℕ) (words first row n : ℕ) (hw : first + 2 * n ≤ words) (same : (j : ℕ) → j < words → a j ≡ b j) where
  among_inside : (j : ℕ) → among first n j ≡ true → j + 1 < first + 2 * n
  among_inside j t = grind (arith, nat_tests)

  line_like : (j : ℕ) → j < words → (t : Bool) → among first n j ≡ t → line_to a first row n j ≡ line_to b first row n j
  line_like j hj true t = rw (t, same j hj, same (j + 1) (omega (arith, among_inside j t)))
  line_like j hj false t = rw t (same j hj)

-- one row more of a window
module _ (at₀ at₁ at₂ : ℕ → ℕ → ℕ) (rows words first : ℕ) (block : List ℕ) (n v : ℕ) (ev : v ≡ get_or block n 0) (hn : n < rows) (hw : first + 32 ≤ words)
    (h₁ : (i j : ℕ) → i < rows → j < words → at₁ i j ≡ rows_to at₀ first block n i j)
    (h₂ : (i j : ℕ) → i < rows → j < words → at₂ i j ≡ cond (eqb i n) (line_to (at₁ i) first v 16 j) (at₁ i j)) where
  row_yet : (j : ℕ) → j < words → at₁ n j ≡ at₀ n j
  row_yet j hj = h₁ n j hn hj ∙ rw (past n)

  pub row_more : (i j : ℕ) → i < rows → j < words → at₂ i j ≡ rows_to at₀ first block (n + 1) i j
  row_more i j hi hj =
      elim (cases_eq i n) [
        | inl e ↦ h₂ i j hi hj ∙ rw (e, eq-eqb n n refl, just n, ev) (line_like (at₁ n) (at₀ n) words first (get_or block n 0) 16 hw row_yet j hj (among first 16 j) refl)
        | inr ne ↦ h₂ i j hi hj ∙ rw (ne_eqb i n ne) (h₁ i j hi hj ∙ rw (before n i ne))
      ]
