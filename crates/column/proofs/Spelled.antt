-- What a line of words carries, and the rows that a column carries.
use Rattle.std.proofs.Common.{◌≡◌, ℕ, zero, suc, ◌+◌, ◌-◌, ◌*◌, ◌/◌, ◌%◌, ◌^◌, ◌<◌, ◌≤◌, List, length, get_or, sym, refl, ◌∙◌, pow-suc, add-one, arith, pow_mono}
use Rattle.std.proofs.lemmas.Nat.{mod-pow-add, shr-shr}
use Rattle.std.proofs.lemmas.List.FromFn.{fill_by_all, get_or-map-range_with_len}
use Rattle.column.specs.Scramble.{parity, scrambled, unscrambled}
use Rattle.column.specs.Column.{bit_at, laden, spelled, carried_row, carried_rows}
use Rattle.column.specs.Window.{rows_of}
use Rattle.column.proofs.Steps.{below_two}

pub spelled_none : (line : ℕ → ℕ) (first : ℕ) → spelled line first 0 ≡ 0
unfolding spelled
spelled_none line first = refl

pub spelled_more : (line : ℕ → ℕ) (first n : ℕ) → spelled line first (n + 1) ≡ spelled line first n * 2 + unscrambled (line (first + 2 * n)) (line (first + 2 * n + 1))
unfolding spelled
spelled_more line first n = rw (add-one n)

-- n bits stay below 2 ^ n
pub spelled_pow : (line : ℕ → ℕ) (first n : ℕ) → spelled line first n < 2 ^ n
spelled_pow line first zero = rw (spelled_none line first) (omega arith)
spelled_pow line first (suc n) =
    let h = spelled_pow line first n in
    let b = below_two (line (first + 2 * n) % 2 + parity (line (first + 2 * n)) + parity (line (first + 2 * n + 1))) in
    rw (sym (add-one n), spelled_more line first n, add-one n, pow-suc 2 n) (omega arith)

pub spelled_below : (line : ℕ → ℕ) (first n : ℕ) → n < 16 → spelled line first n < 2 ^ 15
spelled_below line first n h = omega (arith, spelled_pow line first n, pow_mono {i = n} {j = 15} (omega arith))

-- a laden word carries its bit
same_parity : (x b : ℕ) → b < 2 → parity (x / 2 * 2 + b) ≡ parity x
same_parity x b h = let e : (x / 2 * 2 + b) / 4 % 256 ≡ x / 4 % 256 = omega arith in rw e

sum_twice : (d p q : ℕ) → d < 2 → p < 2 → q < 2 → ((d + p + q) % 2 + p + q) % 2 ≡ d
sum_twice d p q hd hp hq = omega arith

low_bit : (x b : ℕ) → b < 2 → (x / 2 * 2 + b) % 2 ≡ b
low_bit x b h = omega arith

pub laden_carries : (line : ℕ → ℕ) (j d : ℕ) → d < 2 → unscrambled (laden line j d) (line (j + 1)) ≡ d
laden_carries line j d h =
    let b = scrambled (line j) (line (j + 1)) d in
    rw (same_parity (line j) b (below_two _), low_bit (line j) b (below_two _)) (sum_twice d (parity (line j)) (parity (line (j + 1))) h (below_two _) (below_two _))

-- and is as it was above bit 0
pub laden_above : (line : ℕ → ℕ) (j d : ℕ) → laden line j d / 2 ≡ line j / 2
laden_above line j d = omega arith

-- the n bits above bit m, and that bit
upper_more : (v m n : ℕ) → v / 2 ^ (m + 1) % 2 ^ n * 2 + v / 2 ^ m % 2 ≡ v / 2 ^ m % 2 ^ (n + 1)
upper_more v m n = rw (sym (shr-shr v m 1)) (sym (mod-pow-add (v / 2 ^ m) n 1))

-- a line whose chroma words are laden with a row carries it
module _ (a b : ℕ → ℕ) (first v : ℕ)
    (even : (k : ℕ) → k < 16 → b (first + 2 * k) ≡ laden a (first + 2 * k) (bit_at v k))
    (odd : (k : ℕ) → k < 16 → b (first + 2 * k + 1) ≡ a (first + 2 * k + 1)) where
  bit_carried : (k : ℕ) → k < 16 → unscrambled (b (first + 2 * k)) (b (first + 2 * k + 1)) ≡ bit_at v k
  bit_carried k h = rw (even k h, odd k h) (laden_carries a (first + 2 * k) (bit_at v k) (below_two _))

  spelled_upper : (n : ℕ) → n ≤ 16 → spelled b first n ≡ v / 2 ^ (16 - n) % 2 ^ n
  spelled_upper zero h = spelled_none b first ∙ omega arith
  spelled_upper (suc n) h =
      let here : 16 - n ≡ 15 - n + 1 = omega arith in
      let next : 16 - (n + 1) ≡ 15 - n = omega arith in
      rw (sym (add-one n)) (spelled_more b first n ∙ rw (bit_carried n (omega arith), spelled_upper n (omega arith), here, next) (upper_more v (15 - n) n))

  pub spelled_row : v < 65536 → spelled b first 16 ≡ v
  spelled_row h = spelled_upper 16 (omega arith) ∙ omega arith

-- lines that agree carry the same
module _ (a b : ℕ → ℕ) (first : ℕ) where
  pub spelled_like : (n : ℕ) → ((j : ℕ) → first ≤ j → j < first + 2 * n → b j ≡ a j) → spelled b first n ≡ spelled a first n
  spelled_like zero same = spelled_none b first ∙ sym (spelled_none a first)
  spelled_like (suc n) same =
      rw (sym (add-one n)) (spelled_more b first n ∙ rw (spelled_like n (λ j l h. same j l (omega arith)), same (first + 2 * n) (omega arith) (omega arith), same (first + 2 * n + 1) (omega arith) (omega arith)) (sym (spelled_more a first n)))

-- the rows that a column carries, one by one
pub carried_row_lem : (at : ℕ → ℕ → ℕ) (c i : ℕ) → i < 16 → get_or (carried_rows at c) i 0 ≡ carried_row at c i
unfolding carried_rows
carried_row_lem at c i h = get_or-map-range_with_len (carried_row at c) 0 16 i i 0 h (omega arith)

pub carried_length : (at : ℕ → ℕ → ℕ) (c : ℕ) → length (carried_rows at c) ≡ 16
unfolding carried_rows
carried_length at c = refl

pub carried_is : (at : ℕ → ℕ → ℕ) (c : ℕ) (block : List ℕ) → length block ≡ 16 → ((i : ℕ) → i < 16 → carried_row at c i ≡ get_or block i 0) → carried_rows at c ≡ block
unfolding carried_rows
carried_is at c block h rows = sym (fill_by_all (carried_row at c) block 16 0 h (λ i l. sym (rows i l)))

-- and they are those of its window
pub window_rows : (at : ℕ → ℕ → ℕ) (first c : ℕ) → first ≡ 32 * c → rows_of at first ≡ carried_rows at c
unfolding rows_of carried_rows
window_rows at first c e = rw e
