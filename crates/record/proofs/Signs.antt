-- Flags as bits, and two's complement, there and back.
use Rattle.std.proofs.Common.{◌≡◌, ℕ, ◌-◌, ◌*◌, ◌^◌, ◌<◌, ◌≤◌, Bool, true, ℤ, pos, negsuc, arith}
use Rattle.std.proofs.Math.Nat.{pow-le-pow_right}
use Rattle.std.proofs.lemmas.Bool.Decides.{nat_tests}
use Rattle.std.proofs.lemmas.Int.{to_z-of_z}
use Rattle.std.proofs.lemmas.Nat.{pow_below}
use Rattle.record.specs.Layout.{twos, signed, bit, is_one}
use Rattle.record.specs.Rules.{fits_signed}

pub one_of_bit : (f : Bool) → is_one (bit f) ≡ f
one_of_bit f = grind (arith, nat_tests)

pub bit_small : (f : Bool) → bit f < 2
bit_small f = grind (arith, nat_tests)

pub bit_of_one : (x : ℕ) → x < 2 → bit (is_one x) ≡ x
bit_of_one x h = grind (arith, nat_tests)

-- what the code casts there and back is the same
pub ruleset casts = (to_z-of_z)

-- a number of so many bits is positive as an i16 too
pub power_small : (k : ℕ) → k < 15 → 2 ^ k < 32768
power_small k h = pow_below k 15 h

pub half_le : (w : ℕ) → 2 ^ (w - 1) ≤ 2 ^ w
half_le w = pow-le-pow_right (omega arith) (omega arith)

pub ruleset powers = (power_small, half_le)

-- a width of at least one bit: half of its numbers are negative
module _ (w : ℕ) (halves : 2 ^ w ≡ 2 * 2 ^ (w - 1)) where
  pub twos_small : (z : ℤ) → fits_signed w z ≡ true → twos w z < 2 ^ w
  twos_small (pos n) h = grind (arith, nat_tests)
  twos_small (negsuc n) h = grind (arith, nat_tests)

  pub signed_of_twos : (z : ℤ) → fits_signed w z ≡ true → signed w (twos w z) ≡ z
  signed_of_twos (pos n) h = grind (arith, nat_tests)
  signed_of_twos (negsuc n) h = grind (arith, nat_tests)

  pub twos_of_signed : (x : ℕ) → x < 2 ^ w → twos w (signed w x) ≡ x
  twos_of_signed x h = grind (arith, nat_tests)

  pub signed_fits : (x : ℕ) → x < 2 ^ w → fits_signed w (signed w x) ≡ true
  signed_fits x h = grind (arith, nat_tests)
