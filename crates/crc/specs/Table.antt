-- How a byte enters the register at once: the register moves up by eight bits, and what its top byte and the new byte feed back together is added from a table.
use Rattle.std.specs.Prelude.{ℕ, zero, suc, ◌*◌, ◌/◌, ◌%◌, ◌^◌, false, List, map, bit_xor}
use Rattle.std.specs.List.{range_with_len}
use Rattle.crc.specs.Register.{step, run, word_bits}

-- what a byte at the top of an empty register leaves in it after eight zeros
abbrev pub fed_back : ℕ → ℕ
fed_back top = run (top * 2 ^ 24) (word_bits 8 0)

-- the same by steps that compute, and of every byte
abbrev pub zeros : ℕ → ℕ → ℕ
zeros zero r = r
zeros (suc n) r = zeros n (step r false)

abbrev pub feedbacks : List ℕ
feedbacks = map (λ top. zeros 8 (top * 2 ^ 24)) (range_with_len 0 256)

abbrev pub fed_byte : ℕ → ℕ → ℕ
fed_byte r byte = bit_xor (r * 2 ^ 8 % 2 ^ 32) (fed_back (bit_xor (r / 2 ^ 24) byte))

-- a row is two bytes, the high one first
abbrev pub fed_row : ℕ → ℕ → ℕ
fed_row r row = fed_byte (fed_byte r (row / 2 ^ 8)) (row % 2 ^ 8)
