-- What a set does to the words of packed memory.
use Rattle.std.proofs.Common.{◌≡◌, ℕ, ◌+◌, ◌*◌, ◌/◌, ◌%◌, ◌<◌, Bool, true, false, cond, List, length, get_or, set, refl, sym, ap, add-zero, ◌-◌, ◌∙◌, inl, inr, arith, nat_eq, get_or-set_other, get_or-set_same}
use Rattle.std.proofs.lemmas.Bool.{cases_eq}
use Rattle.std.proofs.lemmas.Bool.Decides.{nat_tests}
use Rattle.raster.specs.Meaning.{with_bit}
use Rattle.buffer.specs.Packed.{byte_at, packed_word, packed_above, home_of, across, byte_written}
use Rattle.buffer.proofs.Bytes.{in_two, own_bit, still_byte, next_word}

-- every word from the two bytes that it lies in
pub word_across : (m : List ℕ) (n : ℕ) → packed_word m n ≡ across (n % 4) (byte_at m (home_of n - 1)) (byte_at m (home_of n))
unfolding packed_word
word_across m n =
    let g = n / 4 * 5 in
    let first : g + 0 ≡ g = add-zero g in
    let before : g + n % 4 ≡ home_of n - 1 = omega arith in
    let home : g + (n % 4 + 1) ≡ home_of n = omega arith in
    rw (first, before, home) at (in_two (λ i. byte_at m (g + i)) (λ i. omega arith) (n % 4) (omega arith))

bit_above : (t : Bool) (x : ℕ) (b : Bool) → cond t (with_bit x b) x / 2 ≡ x / 2
bit_above true x true = omega arith
bit_above true x false = omega arith
bit_above false x b = refl

-- one set: bit 0 of the n-th word
module _ (m : List ℕ) (n : ℕ) (b : Bool) (hl : home_of n < length m) where
  after : List ℕ
  after = set m (home_of n) (byte_written m n b)

  home : byte_at after (home_of n) ≡ byte_written m n b
  unfolding after
  home =
      let s : get_or (set m (home_of n) (byte_written m n b)) (home_of n) 0 ≡ byte_written m n b = get_or-set_same m (home_of n) (byte_written m n b) 0 hl in
      omega (arith, s, still_byte (byte_at m (home_of n)) b (omega arith) (n % 4) (omega arith))

  away : (i : ℕ) → (i ≡ home_of n → ⊥) → byte_at after i ≡ byte_at m i
  unfolding after
  away i d = ap (λ x. x % 256) (get_or-set_other m (home_of n) i (byte_written m n b) 0 d)

  own_word : packed_word after n ≡ with_bit (packed_word m n) b
  own_word =
      word_across after n
      ∙ rw (home, away (home_of n - 1) (λ e. omega arith)) (own_bit (byte_at m (home_of n - 1)) (byte_at m (home_of n)) b (n % 4) (omega arith))
      ∙ ap (λ w. with_bit w b) (sym (word_across m n))

  -- a word that begins in the byte is the next of the same five bytes
  next_quarter : (k : ℕ) → home_of k - 1 ≡ home_of n → (k % 4 ≡ n % 4 + 1) × (n % 4 < 3)
  next_quarter k e = (omega arith, omega arith)

  other_word : (k : ℕ) → (k ≡ n → ⊥) → packed_word after k ≡ packed_word m k
  other_word k d =
      word_across after k
      ∙ rw (away (home_of k) (λ e. d (omega arith))) (elim (cases_eq (home_of k - 1) (home_of n)) [
        | inl e ↦ let q = next_quarter k e in rw (e, home) (next_word (byte_at m (home_of n)) (byte_at m (home_of k)) b (n % 4) (omega arith) q.1 (k % 4) q.0)
        | inr o ↦ rw (away (home_of k - 1) o)
      ])
      ∙ sym (word_across m k)

  pub every_word : (k : ℕ) → packed_word (set m (home_of n) (byte_written m n b)) k ≡ cond (nat_eq k n) (with_bit (packed_word m k) b) (packed_word m k)
  unfolding after
  every_word k =
      elim (cases_eq k n) [
        | inl e ↦ let t : nat_eq k n ≡ true = grind (arith, nat_tests) in rw (t, e) own_word
        | inr d ↦ let t : nat_eq k n ≡ false = grind (arith, nat_tests) in rw t (other_word k d)
      ]

  pub every_above : (k : ℕ) → packed_above (set m (home_of n) (byte_written m n b)) k ≡ packed_above m k
  every_above k = rw (every_word k) (bit_above (nat_eq k n) (packed_word m k) b)
