-- When a block fits, and that it then stands alone among those that differ within two neighbouring rows.
use Rattle.std.proofs.Common.{◌≡◌, ℕ, ◌+◌, ◌*◌, ◌/◌, ◌%◌, ◌^◌, ◌<◌, ◌≤◌, Bool, List, [], ◌∷◌, ◌++◌, length, get_or, take, drop, Decides, sym, refl, ap, ◌∙◌, ap₂, inl, inr, mod-eq_of_lt, mul-one, arith, length-append, length-drop, take-append-drop, length-take}
use lib.Bits.{bit_xor, xor_comm, xor_self, xor_lt}
use Rattle.std.proofs.lemmas.List.{drop_more, drop_all, ext_get_or, get_or-take, get_or-drop, take_at, get_or_at, get_or-append-add, get_or_append_left}
use Rattle.std.proofs.lemmas.Bool.{cases_eq, cases_lt}
use Rattle.std.proofs.lemmas.Bool.Decides.{Decides-eqb}
use Rattle.crc.specs.Register.{run, start, check_of, word_bits, row_bits}
use Rattle.crc.specs.Burst.{Rows, Block, spelled_at, CheckFits, check_fits, AlikeBut, BurstNeverPasses, EndsAtZero, with_check, CheckedFits}
use Rattle.crc.proofs.Runs.{run-++, run_below, check_below, bits-++, words_none, words_more}
use Rattle.crc.proofs.Words.{word_low, word_parts, word_enters}
use Rattle.crc.proofs.Inverses.{xor_cancel, run_cancel}

-- 32 bits: from one register, two numbers are told apart, and its own number alone takes it to 0
whole_enters : (r w : ℕ) → r < 2 ^ 32 → w < 2 ^ 32 → run r (word_bits 32 w) ≡ run (bit_xor w r) (word_bits 32 0)
whole_enters r w hr hw =
    word_enters 32 0 r w refl hr
    ∙ ap (λ (x : ℕ). run (bit_xor r x) (word_bits 32 0)) (mul-one (w % 2 ^ 32) ∙ mod-eq_of_lt hw)
    ∙ ap (λ (x : ℕ). run x (word_bits 32 0)) (xor_comm r w)

pub whole_apart : (r v w : ℕ) → r < 2 ^ 32 → v < 2 ^ 32 → w < 2 ^ 32 → run r (word_bits 32 v) ≡ run r (word_bits 32 w) → v ≡ w
whole_apart r v w hr hv hw e =
    xor_cancel v w r
    (run_cancel (word_bits 32 0) (bit_xor v r) (bit_xor w r) (xor_lt 32 v r hv hr) (xor_lt 32 w r hw hr) (sym (whole_enters r v hr hv) ∙ e ∙ whole_enters r w hr hw))

pub own_zero : (r : ℕ) → r < 2 ^ 32 → run r (word_bits 32 r) ≡ 0
unfolding run word_bits
own_zero r h = whole_enters r r h h ∙ ap (λ (x : ℕ). run x (word_bits 32 0)) (xor_self r)

-- two rows are the 32 bits of the number that they spell
two_rows : (x y : ℕ) → y < 2 ^ 16 → word_bits 32 (x * 2 ^ 16 + y) ≡ word_bits 16 x ++ word_bits 16 y
two_rows x y h =
    let high : (x * 2 ^ 16 + y) / 2 ^ 16 ≡ x = omega arith in
    let low : (x * 2 ^ 16 + y) % 2 ^ 16 ≡ y = omega arith in
    word_parts 16 16 (x * 2 ^ 16 + y) ∙ ap₂ (λ (a b : List Bool). a ++ b) (ap (word_bits 16) high) (sym (word_low 16 0 (x * 2 ^ 16 + y)) ∙ ap (word_bits 16) low)

-- the register over rows, with rows n and n + 1 as one number
module _ (rows : List ℕ) (n : ℕ) (h : n + 2 ≤ length rows) where
  pub around : rows ≡ take n rows ++ get_or rows n 0 ∷ get_or rows (n + 1) 0 ∷ drop (n + 2) rows
  around =
      let e : n + 1 + 1 ≡ n + 2 = omega arith in
      sym (take-append-drop n rows)
      ∙ ap (λ (l : List ℕ). take n rows ++ l) (drop_more rows n 0 (omega arith) ∙ ap (λ (l : List ℕ). get_or rows n 0 ∷ l) (drop_more rows (n + 1) 0 (omega arith) ∙ ap (λ (k : ℕ). get_or rows (n + 1) 0 ∷ drop k rows) e))

  pub run_around : (r : ℕ) → get_or rows (n + 1) 0 < 2 ^ 16 → run r (row_bits rows) ≡ run (run (run r (row_bits (take n rows))) (word_bits 32 (spelled_at rows n))) (row_bits (drop (n + 2) rows))
  run_around r g =
      let x = get_or rows n 0 in
      let y = get_or rows (n + 1) 0 in
      let rest = drop (n + 2) rows in
      let s = run r (row_bits (take n rows)) in
      ap (λ (l : List ℕ). run r (row_bits l)) around
      ∙ ap (run r) (bits-++ 16 (take n rows) (x ∷ y ∷ rest))
      ∙ run-++ r (row_bits (take n rows)) (row_bits (x ∷ y ∷ rest))
      ∙ words_more 16 s x (y ∷ rest)
      ∙ words_more 16 (run s (word_bits 16 x)) y rest
      ∙ ap (λ (z : ℕ). run z (row_bits rest)) (sym (run-++ s (word_bits 16 x) (word_bits 16 y)) ∙ ap (run s) (sym (two_rows x y g)))

pub spelled_below : (rows : List ℕ) (n : ℕ) → Block rows → n ≤ 14 → spelled_at rows n < 2 ^ 32
spelled_below rows n k h = omega (arith, k.narrow n (omega arith), k.narrow (n + 1) (omega arith))

-- the register over a block that fits ends at 0, and no other's does
block_run : (rows : List ℕ) → Block rows → check_of (row_bits rows) ≡ run (check_of (row_bits (take 14 rows))) (word_bits 32 (spelled_at rows 14))
block_run rows k =
    run_around rows 14 (omega (arith, k.long)) start (k.narrow 15 (omega arith))
    ∙ ap (λ (l : List ℕ). run (run (check_of (row_bits (take 14 rows))) (word_bits 32 (spelled_at rows 14))) (row_bits l)) (drop_all 16 rows (omega (arith, k.long)))
    ∙ words_none 16 (run (check_of (row_bits (take 14 rows))) (word_bits 32 (spelled_at rows 14)))

pub zero_if_fits : (rows : List ℕ) → Block rows → CheckFits rows → check_of (row_bits rows) ≡ 0
zero_if_fits rows k f =
    let c = check_of (row_bits (take 14 rows)) in
    block_run rows k ∙ ap (λ (x : ℕ). run c (word_bits 32 x)) f ∙ own_zero c (check_below (row_bits (take 14 rows)))

pub fits_if_zero : (rows : List ℕ) → Block rows → check_of (row_bits rows) ≡ 0 → CheckFits rows
fits_if_zero rows k z =
    let c = check_of (row_bits (take 14 rows)) in
    let hc = check_below (row_bits (take 14 rows)) in
    whole_apart c (spelled_at rows 14) c hc (spelled_below rows 14 k (omega arith)) hc (sym (block_run rows k) ∙ z ∙ sym (own_zero c hc))

pub ends_at_zero : EndsAtZero
ends_at_zero rows k = (zero_if_fits rows k, fits_if_zero rows k)

pub fitting_decides : (rows : List ℕ) → Decides (check_fits rows) (CheckFits rows)
fitting_decides rows = Decides-eqb (spelled_at rows 14) (check_of (row_bits (take 14 rows)))

-- two blocks that fit and differ in rows n and n + 1 alone are one block
module _ (rows others : List ℕ) (n : ℕ) (k : Block rows) (l : Block others) (h : n ≤ 14) (alike : AlikeBut n rows others) where
  front : take n others ≡ take n rows
  front =
      ext_get_or 0 (take n others) (take n rows) (simp length-take (omega (arith, k.long, l.long)))
      (λ i b. let g : i < n = omega (arith, length-take n others) in
      get_or-take n others i 0 g ∙ alike i (omega arith) (λ e. omega arith) (λ e. omega arith) ∙ sym (get_or-take n rows i 0 g))

  back : drop (n + 2) others ≡ drop (n + 2) rows
  back =
      ext_get_or 0 (drop (n + 2) others) (drop (n + 2) rows) (simp length-drop (omega (arith, k.long, l.long)))
      (λ i b. get_or-drop (n + 2) others i 0 ∙ alike (n + 2 + i) (omega (arith, length-drop (n + 2) others, l.long)) (λ e. omega arith) (λ e. omega arith) ∙ sym (get_or-drop (n + 2) rows i 0))

  same_spelled : CheckFits rows → CheckFits others → spelled_at others n ≡ spelled_at rows n
  same_spelled f g =
      let r = run start (row_bits (take n rows)) in
      let hr = run_below (row_bits (take n rows)) start (omega arith) in
      let bits = row_bits (drop (n + 2) rows) in
      let v = spelled_at others n in
      let w = spelled_at rows n in
      let here : run (run r (word_bits 32 w)) bits ≡ 0
      = sym (run_around rows n (omega (arith, k.long)) start (k.narrow (n + 1) (omega arith))) ∙ zero_if_fits rows k f in
      let there : run (run r (word_bits 32 v)) bits ≡ 0
      = ap₂ (λ (x y : List ℕ). run (run (run start (row_bits x)) (word_bits 32 v)) (row_bits y)) (sym front) (sym back)
      ∙ sym (run_around others n (omega (arith, l.long)) start (l.narrow (n + 1) (omega arith))) ∙ zero_if_fits others l g in
      whole_apart r v w hr (spelled_below others n l h) (spelled_below rows n k h)
      (run_cancel bits (run r (word_bits 32 v)) (run r (word_bits 32 w)) (run_below (word_bits 32 v) r hr) (run_below (word_bits 32 w) r hr) (there ∙ sym here))

  pub same_block : CheckFits rows → CheckFits others → others ≡ rows
  same_block f g =
      let e = same_spelled f g in
      let a : get_or others n 0 ≡ get_or rows n 0 = omega (arith, e, k.narrow (n + 1) (omega arith), l.narrow (n + 1) (omega arith)) in
      let z : get_or others (n + 1) 0 ≡ get_or rows (n + 1) 0 = omega (arith, e, a) in
      ext_get_or 0 others rows (l.long ∙ sym k.long)
      (λ i b. elim (cases_eq i n) [
        | inl p ↦ rw p a
        | inr p ↦ elim (cases_eq i (n + 1)) [ inl q ↦ rw q z | inr q ↦ alike i (omega (arith, l.long)) p q ]
      ])

pub burst_never_passes : BurstNeverPasses
burst_never_passes rows k f others n l h alike apart g = apart (same_block rows others n k l h alike f g)

-- 14 rows with their check are a block that fits
module _ (rows : List ℕ) (k : Rows 14 rows) where
  halves : List ℕ
  halves = check_of (row_bits rows) / 2 ^ 16 ∷ check_of (row_bits rows) % 2 ^ 16 ∷ []

  high_half : get_or (with_check rows) 14 0 ≡ check_of (row_bits rows) / 2 ^ 16
  high_half = get_or_at rows (check_of (row_bits rows) / 2 ^ 16) (check_of (row_bits rows) % 2 ^ 16 ∷ []) 0 14 k.long

  low_half : get_or (with_check rows) 15 0 ≡ check_of (row_bits rows) % 2 ^ 16
  unfolding halves
  low_half = ap (λ (i : ℕ). get_or (with_check rows) (i + 1) 0) (sym k.long) ∙ get_or-append-add rows halves 1 0

  checked_narrow : (i : ℕ) → i < 16 → get_or (with_check rows) i 0 < 2 ^ 16
  unfolding halves
  checked_narrow i h =
      let c = check_below (row_bits rows) in
      elim (cases_lt i 14) [
        | inl l ↦ omega (arith, get_or_append_left rows halves 0 i (omega (arith, k.long)), k.narrow i l)
        | inr g ↦ elim (cases_eq i 14) [
          | inl e ↦ rw e (omega (arith, high_half))
          | inr n ↦ let e : i ≡ 15 = omega arith in rw e (omega (arith, low_half))
        ]
      ]

  pub checked_block : Block (with_check rows)
  unfolding halves
  checked_block = record { long = length-append rows halves ∙ omega (arith, k.long); narrow = checked_narrow }

  pub checked_spelled : CheckFits (with_check rows)
  unfolding halves
  checked_spelled =
      let s : spelled_at (with_check rows) 14 ≡ check_of (row_bits rows) = omega (arith, high_half, low_half) in
      s ∙ ap (λ (l : List ℕ). check_of (row_bits l)) (sym (take_at rows halves 14 k.long))

pub checked_fits : CheckedFits
checked_fits rows k = (checked_block rows k, checked_spelled rows k)
