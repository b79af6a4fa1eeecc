-- One bit of a byte, and the words that it belongs to.
use Rattle.std.proofs.Common.{◌≡◌, ℕ, ◌+◌, ◌-◌, ◌*◌, ◌%◌, ◌^◌, ◌<◌, Bool, true, false, ◌⊎◌, inl, inr, arith, bit_and, bit_or}
use Rattle.std.proofs.lemmas.Nat.{and-not, and_comm}
use Rattle.std.proofs.lemmas.Nat.Bits.{and_pow}
use Rattle.std.specs.Int.{bit_at}
use lib.Bits.{or_add_and}
use Rattle.raster.specs.Meaning.{with_bit}
use Rattle.buffer.specs.Packed.{forty, ten_of, across, unit_of, with_unit}

-- what holds at each of the four quarters of a group
pub each_quarter : (P : ℕ → Type 0) → P 0 → P 1 → P 2 → P 3 → (q : ℕ) → q < 4 → P q
each_quarter P p0 p1 p2 p3 q h =
    let four : (q ≡ 0) ⊎ ((q ≡ 1) ⊎ ((q ≡ 2) ⊎ (q ≡ 3))) = grind arith in
    elim four [ inl e ↦ rw e p0 | inr n ↦ elim n [ inl e ↦ rw e p1 | inr o ↦ elim o [ inl e ↦ rw e p2 | inr e ↦ rw e p3 ] ] ]

module _ (x : ℕ) (hx : x < 256) where
  set_bit : (k : ℕ) → bit_or x (2 ^ k) + bit_at x k * 2 ^ k ≡ x + 2 ^ k
  set_bit k = rw (and_pow x k) at (or_add_and x (2 ^ k))

  clear_bit : (k : ℕ) → 2 ^ k < 256 → bit_and x (255 - 2 ^ k) + bit_at x k * 2 ^ k ≡ x
  clear_bit k h = rw (and_comm (255 - 2 ^ k) x, and_comm (2 ^ k) x, and_pow x k) at (and-not 8 (2 ^ k) x h hx)

  pub unit_set : (q : ℕ) → q < 4 → bit_or x (1 * 2 ^ (6 - 2 * q) % 256) ≡ with_unit (x % 256) (unit_of q) true
  unit_set = each_quarter (λ q. bit_or x (1 * 2 ^ (6 - 2 * q) % 256) ≡ with_unit (x % 256) (unit_of q) true) (omega (arith, set_bit 6)) (omega (arith, set_bit 4)) (omega (arith, set_bit 2)) (omega (arith, set_bit 0))

  pub unit_cleared : (q : ℕ) → q < 4 → bit_and x (255 - 1 * 2 ^ (6 - 2 * q) % 256) ≡ with_unit (x % 256) (unit_of q) false
  unit_cleared = each_quarter (λ q. bit_and x (255 - 1 * 2 ^ (6 - 2 * q) % 256) ≡ with_unit (x % 256) (unit_of q) false) (omega (arith, clear_bit 6 (omega arith))) (omega (arith, clear_bit 4 (omega arith))) (omega (arith, clear_bit 2 (omega arith))) (omega (arith, clear_bit 0 (omega arith)))

-- Replacing the bit that a word ends with replaces its bit 0, stays within a byte, and is not seen by the next word.
pub own_bit : (x y : ℕ) (b : Bool) (q : ℕ) → q < 4 → across q x (with_unit y (unit_of q) b) ≡ with_bit (across q x y) b
own_bit x y true = each_quarter (λ q. across q x (with_unit y (unit_of q) true) ≡ with_bit (across q x y) true) (omega arith) (omega arith) (omega arith) (omega arith)
own_bit x y false = each_quarter (λ q. across q x (with_unit y (unit_of q) false) ≡ with_bit (across q x y) false) (omega arith) (omega arith) (omega arith) (omega arith)

pub still_byte : (y : ℕ) (b : Bool) → y < 256 → (q : ℕ) → q < 4 → with_unit y (unit_of q) b < 256
still_byte y true h = each_quarter (λ q. with_unit y (unit_of q) true < 256) (omega arith) (omega arith) (omega arith) (omega arith)
still_byte y false h = each_quarter (λ q. with_unit y (unit_of q) false < 256) (omega arith) (omega arith) (omega arith) (omega arith)

pub next_word : (x y : ℕ) (b : Bool) (q : ℕ) → q < 4 → q < 3 → (p : ℕ) → p ≡ q + 1 → across p (with_unit x (unit_of q) b) y ≡ across p x y
next_word x y true = each_quarter (λ q. q < 3 → (p : ℕ) → p ≡ q + 1 → across p (with_unit x (unit_of q) true) y ≡ across p x y) (λ h p e. rw e (omega arith)) (λ h p e. rw e (omega arith)) (λ h p e. rw e (omega arith)) (λ h. absurd (omega arith))
next_word x y false = each_quarter (λ q. q < 3 → (p : ℕ) → p ≡ q + 1 → across p (with_unit x (unit_of q) false) y ≡ across p x y) (λ h p e. rw e (omega arith)) (λ h p e. rw e (omega arith)) (λ h p e. rw e (omega arith)) (λ h. absurd (omega arith))

-- the q-th ten bits of five bytes lie in two of them that follow each other
pub in_two : (f : ℕ → ℕ) → ((i : ℕ) → f i < 256) → (q : ℕ) → q < 4 → ten_of (forty (f 0) (f 1) (f 2) (f 3) (f 4)) q ≡ across q (f q) (f (q + 1))
in_two f h =
    let f0 = h 0 in
    let f1 = h 1 in
    let f2 = h 2 in
    let f3 = h 3 in
    let f4 = h 4 in
    each_quarter (λ q. ten_of (forty (f 0) (f 1) (f 2) (f 3) (f 4)) q ≡ across q (f q) (f (q + 1))) (omega arith) (omega arith) (omega arith) (omega arith)
