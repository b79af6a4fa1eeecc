-- The same bits take two registers that differ to two that differ.
use Rattle.std.proofs.Common.{◌≡◌, ℕ, ◌*◌, ◌%◌, ◌^◌, ◌<◌, Bool, true, false, leb, List, [], ◌∷◌, sym, refl, ap, ◌∙◌, arith}
use lib.Bits.{bit_xor, xor_mod, xor_assoc, xor_self, xor_zero_r}
use Rattle.std.proofs.lemmas.Bool.{leb-true, leb-false}
use Rattle.crc.specs.Register.{polynomial, unlike, shifted, step, run}
use Rattle.crc.proofs.Runs.{shifted_below}

pub xor_cancel : (x y z : ℕ) → bit_xor x z ≡ bit_xor y z → x ≡ y
xor_cancel x y z e =
    sym (back x) ∙ ap (λ (w : ℕ). bit_xor w z) e ∙ back y
  where
    back : (w : ℕ) → bit_xor (bit_xor w z) z ≡ w
    back w = xor_assoc w z z ∙ ap (bit_xor w) (xor_self z) ∙ xor_zero_r w

-- the polynomial is odd, so the lowest bit of the register says what was fed back
odd_true : (r : ℕ) → shifted true r % 2 ≡ 1
odd_true r = let e : r * 2 % 2 ^ 32 % 2 ≡ 0 = omega arith in xor_mod (r * 2 % 2 ^ 32) polynomial 1 ∙ ap (λ (x : ℕ). bit_xor x 1) e

odd_false : (r : ℕ) → shifted false r % 2 ≡ 0
odd_false r = omega arith

up_low : (r : ℕ) → r * 2 % 2 ^ 32 ≡ r % 2 ^ 31 * 2
up_low r = omega arith

same_up : (r s : ℕ) → r * 2 % 2 ^ 32 ≡ s * 2 % 2 ^ 32 → r % 2 ^ 31 ≡ s % 2 ^ 31
same_up r s e = half (r % 2 ^ 31) (s % 2 ^ 31) (sym (up_low r) ∙ e ∙ up_low s)
  where
    half : (x y : ℕ) → x * 2 ≡ y * 2 → x ≡ y
    half x y h = omega arith

same_shifted : (f g : Bool) (r s : ℕ) → shifted f r ≡ shifted g s → (f ≡ g) × (r % 2 ^ 31 ≡ s % 2 ^ 31)
same_shifted true true r s e = (refl, same_up r s (xor_cancel (r * 2 % 2 ^ 32) (s * 2 % 2 ^ 32) polynomial e))
same_shifted true false r s e = absurd (omega (arith, odd_true r, odd_false s, ap (λ (x : ℕ). x % 2) e))
same_shifted false true r s e = absurd (omega (arith, odd_false r, odd_true s, ap (λ (x : ℕ). x % 2) e))
same_shifted false false r s e = (refl, same_up r s e)

unlike_cancel : (a b c : Bool) → unlike a c ≡ unlike b c → a ≡ b
unlike_cancel true true c e = refl
unlike_cancel true false true e = sym e
unlike_cancel true false false e = e
unlike_cancel false true true e = sym e
unlike_cancel false true false e = e
unlike_cancel false false c e = refl

same_register : (t u : Bool) (r s : ℕ) → leb (2 ^ 31) r ≡ t → leb (2 ^ 31) s ≡ u → t ≡ u → r < 2 ^ 32 → s < 2 ^ 32 → r % 2 ^ 31 ≡ s % 2 ^ 31 → r ≡ s
same_register true u r s p q e hr hs l = omega (arith, leb-true (2 ^ 31) r p, leb-true (2 ^ 31) s (q ∙ sym e))
same_register false u r s p q e hr hs l = omega (arith, leb-false (2 ^ 31) r p, leb-false (2 ^ 31) s (q ∙ sym e))

step_cancel : (r s : ℕ) (b : Bool) → r < 2 ^ 32 → s < 2 ^ 32 → step r b ≡ step s b → r ≡ s
step_cancel r s b hr hs e =
    let p = same_shifted (unlike (leb (2 ^ 31) r) b) (unlike (leb (2 ^ 31) s) b) r s e in
    same_register (leb (2 ^ 31) r) (leb (2 ^ 31) s) r s refl refl (unlike_cancel (leb (2 ^ 31) r) (leb (2 ^ 31) s) b p.0) hr hs p.1

pub run_cancel : (bits : List Bool) (r s : ℕ) → r < 2 ^ 32 → s < 2 ^ 32 → run r bits ≡ run s bits → r ≡ s
unfolding run
run_cancel [] r s hr hs e = e
run_cancel (b ∷ bits) r s hr hs e =
    step_cancel r s b hr hs (run_cancel bits (step r b) (step s b) (shifted_below (unlike (leb (2 ^ 31) r) b) r) (shifted_below (unlike (leb (2 ^ 31) s) b) s) e)
