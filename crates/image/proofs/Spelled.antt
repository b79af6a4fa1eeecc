-- The numbers that bits spell.
use Rattle.std.proofs.Common.{◌≡◌, ℕ, zero, suc, ◌+◌, ◌-◌, ◌*◌, ◌/◌, ◌%◌, ◌^◌, ◌<◌, ◌≤◌, List, get_or, sym, refl, ap, ◌∙◌, subst, inl, inr, add-zero, mul_assoc, pow-suc, add-one, arith, pow_mono}
use Rattle.std.proofs.lemmas.Nat.{shr-shr}
use Rattle.std.proofs.lemmas.Bool.{cases_eq}
use Rattle.image.specs.Value.{bit_of, spelled}

pub spelled_none : (bytes : List ℕ) (first : ℕ) → spelled bytes first 0 ≡ 0
unfolding spelled
spelled_none bytes first = refl

pub spelled_more : (bytes : List ℕ) (first n : ℕ) → spelled bytes first (n + 1) ≡ spelled bytes first n * 2 + bit_of bytes (first + n)
unfolding spelled
spelled_more bytes first n = rw (add-one n)

below_two : (x : ℕ) → x % 2 < 2
below_two x = omega arith

-- n bits stay below 2 ^ n
pub spelled_below : (bytes : List ℕ) (first n : ℕ) → spelled bytes first n < 2 ^ n
spelled_below bytes first zero = rw (spelled_none bytes first) (omega arith)
spelled_below bytes first (suc n) =
    let h = spelled_below bytes first n in
    let b = below_two (get_or bytes ((first + n) / 8) 0 / 2 ^ (7 - (first + n) % 8)) in
    rw (sym (add-one n), spelled_more bytes first n, add-one n, pow-suc 2 n) (omega arith)

pub spelled_fits : (bytes : List ℕ) (first n : ℕ) → n ≤ 41 → spelled bytes first n < 2 ^ 41
spelled_fits bytes first n h = omega (arith, spelled_below bytes first n, pow_mono {i = n} {j = 41} h)

-- a byte: eight bits from one of its first bit on
module _ (bytes : List ℕ) (first n m : ℕ) (at : first + n ≡ 8 * m) (small : get_or bytes m 0 < 256) where
  bit_of_byte : (j : ℕ) → j < 8 → bit_of bytes (first + (n + j)) ≡ get_or bytes m 0 / 2 ^ (7 - j) % 2
  bit_of_byte j h =
      let q : (first + (n + j)) / 8 ≡ m = omega arith in
      let r : (first + (n + j)) % 8 ≡ j = omega arith in
      rw (q, r)

  halved : (j : ℕ) → j < 8 → get_or bytes m 0 / 2 ^ (7 - j) / 2 ≡ get_or bytes m 0 / 2 ^ (8 - j)
  halved j h = let e : 7 - j + 1 ≡ 8 - j = omega arith in shr-shr (get_or bytes m 0) (7 - j) 1 ∙ ap (λ k. get_or bytes m 0 / 2 ^ k) e

  upper : (j : ℕ) → j ≤ 8 → spelled bytes first (n + j) ≡ spelled bytes first n * 2 ^ j + get_or bytes m 0 / 2 ^ (8 - j)
  upper zero h = rw (add-zero n) (omega arith)
  upper (suc j) h =
      let s = spelled bytes first n in
      let e : n + suc j ≡ n + j + 1 = omega arith in
      let k : 8 - suc j ≡ 7 - j = omega arith in
      let p : s * 2 ^ suc j ≡ s * 2 ^ j * 2 = rw (pow-suc 2 j) (sym (mul_assoc s (2 ^ j) 2)) in
      let u = upper j (omega arith) in
      let v = halved j (omega arith) in
      rw (e, k, p, spelled_more bytes first (n + j), bit_of_byte j (omega arith), u) (omega arith)

  pub spelled_byte : spelled bytes first (n + 8) ≡ spelled bytes first n * 256 + get_or bytes m 0
  spelled_byte = upper 8 (omega arith) ∙ omega arith

-- four bytes, the high one first
pub spelled_word : (bytes : List ℕ) (m : ℕ) → ((i : ℕ) → i < 4 → get_or bytes (m + i) 0 < 256) → spelled bytes (8 * m) 32 ≡ ((get_or bytes m 0 * 256 + get_or bytes (m + 1) 0) * 256 + get_or bytes (m + 2) 0) * 256 + get_or bytes (m + 3) 0
spelled_word bytes m small =
    let z : m + 0 ≡ m = add-zero m in
    let a = spelled_byte bytes (8 * m) 0 m (omega arith) (subst (λ i. get_or bytes i 0 < 256) z (small 0 (omega arith))) in
    let b = spelled_byte bytes (8 * m) 8 (m + 1) (omega arith) (small 1 (omega arith)) in
    let c = spelled_byte bytes (8 * m) 16 (m + 2) (omega arith) (small 2 (omega arith)) in
    let d = spelled_byte bytes (8 * m) 24 (m + 3) (omega arith) (small 3 (omega arith)) in
    let o = spelled_none bytes (8 * m) in
    omega arith

-- bits spell 0 exactly if each is 0
pub zero_bits : (bytes : List ℕ) (first n : ℕ) → spelled bytes first n ≡ 0 → (i : ℕ) → i < n → bit_of bytes (first + i) ≡ 0
zero_bits bytes first zero e i h = absurd (omega arith)
zero_bits bytes first (suc n) e i h =
    let m = subst (λ k. spelled bytes first k ≡ 0) (sym (add-one n)) e in
    let s = spelled_more bytes first n in
    elim (cases_eq i n) [
      | inl q ↦ rw q (omega arith)
      | inr q ↦ zero_bits bytes first n (omega arith) i (omega arith)
    ]

pub zero_spelled : (bytes : List ℕ) (first n : ℕ) → ((i : ℕ) → i < n → bit_of bytes (first + i) ≡ 0) → spelled bytes first n ≡ 0
zero_spelled bytes first zero h = spelled_none bytes first
zero_spelled bytes first (suc n) h =
    let b = h n (omega arith) in
    let r = zero_spelled bytes first n (λ i l. h i (omega arith)) in
    rw (sym (add-one n)) (spelled_more bytes first n ∙ omega arith)
