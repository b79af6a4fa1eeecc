-- The laws of an embedding, over the words before and after as plain functions.
use Rattle.std.proofs.Common.{◌≡◌, ℕ, zero, suc, ◌+◌, ◌-◌, ◌*◌, ◌/◌, ◌%◌, ◌<◌, ◌≤◌, Bool, true, false, cond, ◌&&◌, eqb, ltb, List, length, get_or, sym, refl, ap, ◌∙◌, inl, inr, add-one, arith}
use Rattle.std.proofs.lemmas.Bool.{cases_lt, eq-eqb, true≢false}
use Rattle.std.proofs.lemmas.Bool.Decides.{nat_tests}
use Rattle.raster.specs.Difference.{differing_words, differing}
use Rattle.raster.proofs.Differences.{words_none, words_more, rows_none, rows_more}
use Rattle.column.specs.Column.{carrying, bit_at, embedded, carried_rows}
use Rattle.column.specs.Window.{among, rows_to}
use Rattle.column.proofs.Steps.{place_bit}
use Rattle.column.proofs.Spelled.{laden_above, spelled_row, spelled_like, carried_row_lem, carried_length, carried_is}

-- which words carry
even_carries : (c i k : ℕ) → i < 16 → k < 16 → carrying c i (32 * c + 2 * k) ≡ true
even_carries c i k hi hk = grind (arith, nat_tests)

odd_idle : (c i k : ℕ) → carrying c i (32 * c + 2 * k + 1) ≡ false
odd_idle c i k = grind (arith, nat_tests)

other_idle : (c d i j : ℕ) → (d ≡ c → ⊥) → 32 * d ≤ j → j < 32 * d + 32 → carrying c i j ≡ false
other_idle c d i j n l h = grind (arith, nat_tests)

row_idle : (c i j : ℕ) → among (32 * c) 16 j ≡ false → carrying c i j ≡ false
row_idle c i j t = grind (arith, nat_tests)

past_idle : (c i j : ℕ) → 16 ≤ i → carrying c i j ≡ false
past_idle c i j h = grind (arith, nat_tests)

-- embedding in the column's window is embedding in the column
row_and_place : (c i j : ℕ) → carrying c i j ≡ (ltb i 16 && among (32 * c) 16 j)
row_and_place c i j = grind (arith, nat_tests)

cond_twice : (p q : Bool) (x y : ℕ) → cond p (cond q x y) y ≡ cond (p && q) x y
cond_twice true q x y = refl
cond_twice false q x y = refl

pub window_embeds : (at : ℕ → ℕ → ℕ) (first c : ℕ) (block : List ℕ) (i j : ℕ) → first ≡ 32 * c → rows_to at first block 16 i j ≡ embedded at c block i j
window_embeds at first c block i j e = rw (e, row_and_place c i j) (cond_twice (ltb i 16) (among (32 * c) 16 j) _ _)

-- the rows embedded are the rows carried
module _ (at at' : ℕ → ℕ → ℕ) (rows words c : ℕ) (block : List ℕ) (hr : 16 ≤ rows) (hw : 32 * c + 32 ≤ words)
    (after : (i j : ℕ) → i < rows → j < words → at' i j ≡ embedded at c block i j) where
  pub reads_back : length block ≡ 16 → ((i : ℕ) → get_or block i 0 < 65536) → carried_rows at' c ≡ block
  reads_back long small =
      carried_is at' c block long (λ i hi. spelled_row (at i) (at' i) (32 * c) (get_or block i 0)
      (λ k hk. after i (32 * c + 2 * k) (omega arith) (omega arith) ∙ rw (even_carries c i k hi hk, place_bit (32 * c) k))
      (λ k hk. after i (32 * c + 2 * k + 1) (omega arith) (omega arith) ∙ rw (odd_idle c i k))
      (small i))

-- a line of which at most m words carry differs in at most m words
module _ (a b : ℕ → ℕ) (words first m : ℕ) (same : (j : ℕ) → j < words → among first m j ≡ false → b j ≡ a j) where
  differs_once : (x y : ℕ) → cond (eqb x y) 0 1 ≤ 1
  differs_once x y = grind (arith, nat_tests)

  among_parts : (j : ℕ) → among first m j ≡ true → (first ≤ j) × (j < first + 2 * m) × ((j - first) % 2 ≡ 0)
  among_parts j t = (grind (arith, nat_tests), grind (arith, nat_tests), grind (arith, nat_tests))

  words_step : (n : ℕ) → n < words → (t : Bool) → among first m n ≡ t → (differing_words a b n * 2 ≤ n - first + 1) × (differing_words a b n ≤ m) → (differing_words a b (n + 1) * 2 ≤ n + 1 - first + 1) × (differing_words a b (n + 1) ≤ m)
  words_step n h true t d =
      let p = among_parts n t in
      let o = differs_once (a n) (b n) in
      rw (words_more a b n) (omega arith, omega arith)
  words_step n h false t d = rw (words_more a b n, same n h t, eq-eqb (a n) (a n) refl) (omega arith, omega arith)

  few_words : (n : ℕ) → n ≤ words → (differing_words a b n * 2 ≤ n - first + 1) × (differing_words a b n ≤ m)
  few_words zero h = rw (words_none a b) (omega arith, omega arith)
  few_words (suc n) h = rw (sym (add-one n)) (words_step n (omega arith) (among first m n) refl (few_words n (omega arith)))

-- what an embedding leaves alone, accepted or refused
module _ (at at' : ℕ → ℕ → ℕ) (rows words c : ℕ) (block : List ℕ) (ok : Bool)
    (after : (i j : ℕ) → i < rows → j < words → at' i j ≡ cond ok (embedded at c block i j) (at i j)) where
  only_at : (i j : ℕ) (o t : Bool) → carrying c i j ≡ t → at' i j ≡ cond o (embedded at c block i j) (at i j) → (at' i j / 2 ≡ at i j / 2) × (t ≡ false → at' i j ≡ at i j)
  only_at i j false t e h = (ap (λ x. x / 2) h, λ _. h)
  only_at i j true false e h = let u : at' i j ≡ at i j = h ∙ rw e in (ap (λ x. x / 2) u, λ _. u)
  only_at i j true true e h = (ap (λ x. x / 2) (h ∙ rw e) ∙ laden_above (at i) j (bit_at (get_or block i 0) ((j - 32 * c) / 2)), λ f. absurd (true≢false f))

  -- bits above bit 0, and words that do not carry
  pub only_low : (i j : ℕ) → i < rows → j < words → (at' i j / 2 ≡ at i j / 2) × (carrying c i j ≡ false → at' i j ≡ at i j)
  only_low i j hi hj = only_at i j ok (carrying c i j) refl (after i j hi hj)

  -- what every other column carries
  pub others_same : (d : ℕ) → (d ≡ c → ⊥) → 16 ≤ rows → 32 * d + 32 ≤ words → carried_rows at' d ≡ carried_rows at d
  others_same d n hr hw =
      carried_is at' d (carried_rows at d) (carried_length at d)
      (λ i hi. spelled_like (at i) (at' i) (32 * d) 16 (λ j l h. (only_low i j (omega arith) (omega arith)).1 (other_idle c d i j n l h)) ∙ sym (carried_row_lem at d i hi))

  -- all words but 16 of each of 16 rows
  few_line : (n : ℕ) → n < rows → (m : ℕ) → ((j : ℕ) → among (32 * c) m j ≡ false → carrying c n j ≡ false) → differing_words (at n) (at' n) words ≤ m
  few_line n h m idle = (few_words (at n) (at' n) words (32 * c) m (λ j hj t. (only_low n j h hj).1 (idle j t)) words (omega arith)).1

  few_rows : (n : ℕ) → n ≤ rows → (differing at at' n words ≤ 16 * n) × (differing at at' n words ≤ 256)
  few_rows zero h = rw (rows_none at at' words) (omega arith, omega arith)
  few_rows (suc n) h =
      let d = few_rows n (omega arith) in
      rw (sym (add-one n), rows_more at at' n words)
      (elim (cases_lt n 16) [
        | inl l ↦ let w = few_line n h 16 (λ j t. row_idle c n j t) in (omega arith, omega arith)
        | inr g ↦ let w = few_line n h 0 (λ j t. past_idle c n j g) in (omega arith, omega arith)
      ])

  pub few_differ : differing at at' rows words ≤ 256
  few_differ = (few_rows rows (omega arith)).1
