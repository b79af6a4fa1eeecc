-- The bits of a word: by parts, and added to the register.
use Rattle.std.proofs.Common.{◌≡◌, ℕ, zero, suc, ◌+◌, ◌*◌, ◌/◌, ◌%◌, ◌^◌, ◌<◌, ◌≤◌, Bool, true, false, not, eqb, leb, List, [], ◌∷◌, ◌++◌, length, sym, refl, ap, ◌∙◌, subst, ap₂, inl, inr, add-zero, mul_assoc, add-mul, add_comm, suc-add, mul-le-mul_left, pow-suc, zero-add, zero-mul, mul-one, one-add, arith, pow_pos, pow-add}
use native.Mathlib.Nat.{zero-div}
use lib.Bits.{bit_xor, xor_block, xor_shifted, xor_mod, xor_shr, xor_zero_r, xor_comm, xor_assoc}
use lib.Pow.{mod-pow-add, mod-mod-pow}
use Rattle.std.proofs.lemmas.Nat.{shr-shr, shl_below, mod_below, field_of}
use Rattle.std.proofs.lemmas.Bool.{cases_lt, le-leb, lt-leb}
use Rattle.crc.specs.Register.{polynomial, unlike, shifted, step, run, word_bits}
use Rattle.crc.proofs.Runs.{shifted_below}

-- the bits of a word are those of its high part and then those of its low part
pub word_low : (n j w : ℕ) → word_bits n (w % 2 ^ (j + n)) ≡ word_bits n w
unfolding word_bits
word_low zero j w = refl
word_low (suc n) j w =
    let e : j + suc n ≡ (j + 1) + n = omega arith in
    ap (λ (x : ℕ). eqb (w % 2 ^ x / 2 ^ n % 2) 1 ∷ word_bits n (w % 2 ^ x)) e
    ∙ ap₂ (λ (x : ℕ) (l : List Bool). eqb x 1 ∷ l) (ap (λ (x : ℕ). x % 2) (field_of w (j + 1) n) ∙ mod-mod-pow (w / 2 ^ n) j 1) (word_low n (j + 1) w)

pub word_parts : (m n w : ℕ) → word_bits (m + n) w ≡ word_bits m (w / 2 ^ n) ++ word_bits n w
unfolding word_bits
word_parts zero n w = ap (λ (x : ℕ). word_bits x w) (zero-add n)
word_parts (suc m) n w =
    ap (λ (x : ℕ). word_bits x w) (suc-add m n)
    ∙ ap₂ (λ (x : ℕ) (l : List Bool). eqb (x % 2) 1 ∷ l) (ap (λ (x : ℕ). w / 2 ^ x) (add_comm m n) ∙ sym (shr-shr w n m)) (word_parts m n w)

pub row_bytes : (w : ℕ) → word_bits 16 w ≡ word_bits 8 (w / 2 ^ 8) ++ word_bits 8 (w % 2 ^ 8)
row_bytes w = word_parts 8 8 w ∙ ap (λ (l : List Bool). word_bits 8 (w / 2 ^ 8) ++ l) (sym (word_low 8 0 w))

-- moving up adds bit by bit
xor_twice : (x y : ℕ) → bit_xor x y * 2 ≡ bit_xor (x * 2) (y * 2)
xor_twice x y = sym (add-zero (bit_xor x y * 2)) ∙ sym (xor_block 1 x y 0 0 (omega arith) (omega arith)) ∙ ap₂ bit_xor (add-zero (x * 2)) (add-zero (y * 2))

xor_up : (x y : ℕ) → bit_xor x y * 2 % 2 ^ 32 ≡ bit_xor (x * 2 % 2 ^ 32) (y * 2 % 2 ^ 32)
xor_up x y = ap (λ (z : ℕ). z % 2 ^ 32) (xor_twice x y) ∙ xor_mod (x * 2) (y * 2) 32

xor_swap : (x y z : ℕ) → bit_xor (bit_xor x y) z ≡ bit_xor (bit_xor x z) y
xor_swap x y z = xor_assoc x y z ∙ ap (bit_xor x) (xor_comm y z) ∙ sym (xor_assoc x z y)

-- what lies below the top bit only moves up
low_up : (r low : ℕ) → low < 2 ^ 31 → bit_xor r low * 2 % 2 ^ 32 ≡ bit_xor (r * 2 % 2 ^ 32) (low * 2)
low_up r low h = let e : low * 2 % 2 ^ 32 ≡ low * 2 = omega arith in xor_up r low ∙ ap (bit_xor (r * 2 % 2 ^ 32)) e

low_shifted : (f : Bool) (r low : ℕ) → low < 2 ^ 31 → shifted f (bit_xor r low) ≡ bit_xor (shifted f r) (low * 2)
low_shifted true r low h = ap (λ (x : ℕ). bit_xor x polynomial) (low_up r low h) ∙ xor_swap (r * 2 % 2 ^ 32) (low * 2) polynomial
low_shifted false r low h = low_up r low h

same_top : (r s : ℕ) → r / 2 ^ 31 ≡ s / 2 ^ 31 → leb (2 ^ 31) r ≡ leb (2 ^ 31) s
same_top r s e =
    elim (cases_lt r (2 ^ 31)) [
      | inl l ↦ lt-leb (2 ^ 31) r l ∙ sym (lt-leb (2 ^ 31) s (omega arith))
      | inr g ↦ le-leb (2 ^ 31) r g ∙ sym (le-leb (2 ^ 31) s (omega arith))
    ]

low_top : (r low : ℕ) → low < 2 ^ 31 → leb (2 ^ 31) (bit_xor r low) ≡ leb (2 ^ 31) r
low_top r low h =
    let e : low / 2 ^ 31 ≡ 0 = omega arith in
    same_top (bit_xor r low) r (xor_shr r low 31 ∙ ap (bit_xor (r / 2 ^ 31)) e ∙ xor_zero_r (r / 2 ^ 31))

low_step : (r low : ℕ) (b : Bool) → low < 2 ^ 31 → step (bit_xor r low) b ≡ bit_xor (step r b) (low * 2)
low_step r low b h = ap (λ (t : Bool). shifted (unlike t b) (bit_xor r low)) (low_top r low h) ∙ low_shifted (unlike (leb (2 ^ 31) r) b) r low h

pub low_run : (bits : List Bool) (r low : ℕ) → low * 2 ^ length bits < 2 ^ 32 → run (bit_xor r low) bits ≡ bit_xor (run r bits) (low * 2 ^ length bits)
unfolding run
low_run [] r low h = ap (bit_xor r) (sym (mul-one low))
low_run (b ∷ bits) r low h =
    let e : low * 2 ^ suc (length bits) ≡ low * 2 * 2 ^ length bits = rw (pow-suc 2 (length bits)) (omega (arith, mul_assoc low (2 ^ length bits) 2, mul_assoc low 2 (2 ^ length bits))) in
    let g : low * 2 ≤ low * 2 * 2 ^ length bits = omega (arith, mul-one (low * 2), mul-le-mul_left (low * 2) (pow_pos (length bits))) in
    ap (λ (x : ℕ). run x bits) (low_step r low b (omega (arith, e, g)))
    ∙ low_run bits (step r b) (low * 2) (omega (arith, e)) ∙ ap (bit_xor (run (step r b) bits)) (sym e)

-- a bit enters as if it were added to the top bit
abbrev digit : Bool → ℕ
digit true = 1
digit false = 0

digit_is : (x : ℕ) → x < 2 → digit (eqb x 1) ≡ x
digit_is zero h = refl
digit_is (suc zero) h = refl
digit_is (suc (suc x)) h = absurd (omega arith)

top_flips : (r : ℕ) → r < 2 ^ 32 → leb (2 ^ 31) (bit_xor r (2 ^ 31)) ≡ not (leb (2 ^ 31) r)
top_flips r h =
    elim (cases_lt r (2 ^ 31)) [
      | inl l ↦
          let e : bit_xor r (2 ^ 31) ≡ 2 ^ 31 + r = xor_comm r (2 ^ 31) ∙ xor_shifted 1 31 r l in
          le-leb (2 ^ 31) (bit_xor r (2 ^ 31)) (omega arith) ∙ ap not (sym (lt-leb (2 ^ 31) r l))
      | inr g ↦
          let e : bit_xor r (2 ^ 31) / 2 ^ 31 ≡ bit_xor (r / 2 ^ 31) 1 = xor_shr r (2 ^ 31) 31 in
          let q : r / 2 ^ 31 ≡ 1 = omega arith in
          let z : bit_xor r (2 ^ 31) / 2 ^ 31 ≡ 0 = e ∙ ap (λ (x : ℕ). bit_xor x 1) q in
          lt-leb (2 ^ 31) (bit_xor r (2 ^ 31)) (omega arith) ∙ ap not (sym (le-leb (2 ^ 31) r g))
    ]

unlike_not : (a : Bool) → unlike (not a) false ≡ unlike a true
unlike_not true = refl
unlike_not false = refl

bit_enters : (r : ℕ) (b : Bool) → r < 2 ^ 32 → step (bit_xor r (digit b * 2 ^ 31)) false ≡ step r b
bit_enters r true h =
    ap (λ (t : Bool). shifted (unlike t false) (bit_xor r (2 ^ 31))) (top_flips r h)
    ∙ ap (λ (t : Bool). shifted t (bit_xor r (2 ^ 31))) (unlike_not (leb (2 ^ 31) r))
    ∙ same_shifted (unlike (leb (2 ^ 31) r) true) (bit_xor r (2 ^ 31)) r (xor_up r (2 ^ 31) ∙ xor_zero_r (r * 2 % 2 ^ 32))
  where
    same_shifted : (f : Bool) (x y : ℕ) → x * 2 % 2 ^ 32 ≡ y * 2 % 2 ^ 32 → shifted f x ≡ shifted f y
    same_shifted true x y e = ap (λ (z : ℕ). bit_xor z polynomial) e
    same_shifted false x y e = e
bit_enters r false h = ap (λ (x : ℕ). step x false) (xor_zero_r r)

-- and so the n bits of a word enter as if they were added to the top bits, with zeros after them
pub word_enters : (n k r w : ℕ) → n + k ≡ 32 → r < 2 ^ 32 → run r (word_bits n w) ≡ run (bit_xor r (w % 2 ^ n * 2 ^ k)) (word_bits n 0)
unfolding run word_bits
word_enters zero k r w h hr =
    let e : w % 1 ≡ 0 = omega arith in
    sym (ap (λ (x : ℕ). bit_xor r (x * 2 ^ k)) e ∙ ap (bit_xor r) (zero-mul (2 ^ k)) ∙ xor_zero_r r)
word_enters (suc n) k r w h hr =
    word_enters n (k + 1) (step r b) w (omega arith) (shifted_below (unlike (leb (2 ^ 31) r) b) r)
    ∙ ap (λ (x : ℕ). run x (word_bits n 0)) (sym first)
  where
    b : Bool
    b = eqb (w / 2 ^ n % 2) 1

    low : ℕ
    low = w % 2 ^ n * 2 ^ k

    whole : n + k ≡ 31
    whole = omega arith

    low_below : low < 2 ^ 31
    low_below = subst (λ (x : ℕ). low < 2 ^ x) whole (shl_below (w % 2 ^ n) n k (mod_below w (2 ^ n) (pow_pos n)))

    parts : w % 2 ^ suc n * 2 ^ k ≡ bit_xor (digit b * 2 ^ 31) low
    parts =
        ap (λ (x : ℕ). w % 2 ^ x * 2 ^ k) (sym (one-add n))
        ∙ ap (λ (x : ℕ). x * 2 ^ k) (mod-pow-add w 1 n)
        ∙ add-mul (w / 2 ^ n % 2 * 2 ^ n) (w % 2 ^ n) (2 ^ k)
        ∙ ap (λ (x : ℕ). x + low) (mul_assoc (w / 2 ^ n % 2) (2 ^ n) (2 ^ k) ∙ ap₂ (λ (x y : ℕ). x * y) (sym (digit_is (w / 2 ^ n % 2) (omega arith))) (sym (pow-add 2 n k) ∙ ap (λ (x : ℕ). 2 ^ x) whole))
        ∙ sym (xor_shifted (digit b) 31 low low_below)

    up_one : low * 2 ≡ w % 2 ^ n * 2 ^ (k + 1)
    up_one = mul_assoc (w % 2 ^ n) (2 ^ k) 2 ∙ ap (λ (x : ℕ). w % 2 ^ n * x) (sym (pow-add 2 k 1))

    zero_bit : eqb (0 / 2 ^ n % 2) 1 ≡ false
    zero_bit = ap (λ (x : ℕ). eqb (x % 2) 1) (zero-div (2 ^ n))

    first : step (bit_xor r (w % 2 ^ suc n * 2 ^ k)) (eqb (0 / 2 ^ n % 2) 1) ≡ bit_xor (step r b) (w % 2 ^ n * 2 ^ (k + 1))
    first =
        ap₂ step (ap (bit_xor r) parts ∙ sym (xor_assoc r (digit b * 2 ^ 31) low)) zero_bit
        ∙ low_step (bit_xor r (digit b * 2 ^ 31)) low false low_below
        ∙ ap₂ bit_xor (bit_enters r b hr) up_one
