-- A byte by the table, and a row by two, take the register where their bits do.
use Rattle.std.proofs.Common.{◌≡◌, ℕ, zero, suc, ◌+◌, ◌*◌, ◌/◌, ◌%◌, ◌^◌, ◌<◌, false, eqb, length, get_or, sym, refl, ap, ◌∙◌, ap₂, add-zero, mod-eq_of_lt, arith}
use native.Mathlib.Nat.{zero-div}
use lib.Bits.{bit_xor, xor_block, xor_shifted, xor_zero_r, xor_comm}
use Rattle.std.proofs.lemmas.Nat.{shr_split}
use Rattle.std.proofs.lemmas.List.FromFn.{get_or-map-range_with_len}
use Rattle.crc.specs.Register.{step, run, word_bits}
use Rattle.crc.specs.Table.{fed_back, zeros, feedbacks, fed_byte, fed_row}
use Rattle.crc.proofs.Runs.{run-++, run_below, length_word}
use Rattle.crc.proofs.Words.{low_run, word_enters, row_bytes}

-- a byte by the table
top_byte : (r w : ℕ) → bit_xor r (w * 2 ^ 24) ≡ bit_xor (bit_xor (r / 2 ^ 24) w * 2 ^ 24) (r % 2 ^ 24)
top_byte r w =
    ap₂ bit_xor (sym (shr_split r 24)) (sym (add-zero (w * 2 ^ 24)))
    ∙ xor_block 24 (r / 2 ^ 24) w (r % 2 ^ 24) 0 (omega arith) (omega arith)
    ∙ ap (λ (x : ℕ). bit_xor (r / 2 ^ 24) w * 2 ^ 24 + x) (xor_zero_r (r % 2 ^ 24))
    ∙ sym (xor_shifted (bit_xor (r / 2 ^ 24) w) 24 (r % 2 ^ 24) (omega arith))

low_eight : (r low : ℕ) → low < 2 ^ 24 → run (bit_xor r low) (word_bits 8 0) ≡ bit_xor (run r (word_bits 8 0)) (low * 2 ^ 8)
low_eight r low h =
    let n = length_word 8 0 in
    let e : low * 2 ^ length (word_bits 8 0) ≡ low * 2 ^ 8 = ap (λ (x : ℕ). low * 2 ^ x) n in
    low_run (word_bits 8 0) r low (omega (arith, e)) ∙ ap (bit_xor (run r (word_bits 8 0))) e

pub byte_enters : (r w : ℕ) → r < 2 ^ 32 → w < 2 ^ 8 → run r (word_bits 8 w) ≡ fed_byte r w
byte_enters r w hr hw =
    let low : r % 2 ^ 24 * 2 ^ 8 ≡ r * 2 ^ 8 % 2 ^ 32 = omega arith in
    word_enters 8 24 r w refl hr
    ∙ ap (λ (x : ℕ). run (bit_xor r (x * 2 ^ 24)) (word_bits 8 0)) (mod-eq_of_lt hw)
    ∙ ap (λ (x : ℕ). run x (word_bits 8 0)) (top_byte r w)
    ∙ low_eight (bit_xor (r / 2 ^ 24) w * 2 ^ 24) (r % 2 ^ 24) (omega arith)
    ∙ xor_comm (fed_back (bit_xor (r / 2 ^ 24) w)) (r % 2 ^ 24 * 2 ^ 8)
    ∙ ap (λ (x : ℕ). bit_xor x (fed_back (bit_xor (r / 2 ^ 24) w))) low

-- the entries of the table
zeros_run : (n r : ℕ) → zeros n r ≡ run r (word_bits n 0)
unfolding run word_bits
zeros_run zero r = refl
zeros_run (suc n) r =
    zeros_run n (step r false) ∙ ap (λ (x : ℕ). run (step r (eqb (x % 2) 1)) (word_bits n 0)) (sym (zero-div (2 ^ n)))

pub feedback_at : (top : ℕ) → top < 256 → get_or feedbacks top 0 ≡ fed_back top
feedback_at top h = get_or-map-range_with_len (λ x. zeros 8 (x * 2 ^ 24)) 0 256 top top 0 h (omega arith) ∙ zeros_run 8 (top * 2 ^ 24)

-- a row by two bytes
pub row_enters : (r w : ℕ) → r < 2 ^ 32 → w < 2 ^ 16 → run r (word_bits 16 w) ≡ fed_row r w
row_enters r w hr hw =
    let high = byte_enters r (w / 2 ^ 8) hr (omega arith) in
    ap (run r) (row_bytes w) ∙ run-++ r (word_bits 8 (w / 2 ^ 8)) (word_bits 8 (w % 2 ^ 8))
    ∙ ap (λ (x : ℕ). run x (word_bits 8 (w % 2 ^ 8))) high
    ∙ byte_enters (fed_byte r (w / 2 ^ 8)) (w % 2 ^ 8) (rw (sym high) (run_below (word_bits 8 (w / 2 ^ 8)) r hr)) (omega arith)
