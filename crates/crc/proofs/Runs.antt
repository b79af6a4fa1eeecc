-- Runs of the register, and the bits of words.
use Rattle.std.proofs.Common.{◌≡◌, ℕ, zero, suc, ◌+◌, ◌*◌, ◌%◌, ◌^◌, ◌<◌, ◌≤◌, Bool, true, false, leb, List, [], ◌∷◌, ◌++◌, length, get_or, drop, sym, refl, ap, ◌∙◌, append_assoc, arith}
use lib.Bits.{xor_lt}
use Rattle.std.proofs.lemmas.List.{drop_more}
use Rattle.std.proofs.Math.ListN.{drop_of_length-le}
use Rattle.crc.specs.Register.{polynomial, unlike, shifted, step, run, start, check_of, word_bits, bits_of, bits_more}

pub run_none : (r : ℕ) → run r [] ≡ r
unfolding run
run_none r = refl

pub run_more : (r : ℕ) (b : Bool) (bits : List Bool) → run r (b ∷ bits) ≡ run (step r b) bits
unfolding run
run_more r b bits = refl

pub run-++ : (r : ℕ) (xs ys : List Bool) → run r (xs ++ ys) ≡ run (run r xs) ys
unfolding run
run-++ r [] ys = refl
run-++ r (b ∷ xs) ys = run-++ (step r b) xs ys

pub bits-++ : (n : ℕ) (xs ys : List ℕ) → bits_of n (xs ++ ys) ≡ bits_of n xs ++ bits_of n ys
unfolding bits_of
bits-++ n [] ys = refl
bits-++ n (w ∷ xs) ys = ap (λ l. word_bits n w ++ l) (bits-++ n xs ys) ∙ sym (append_assoc (word_bits n w) (bits_of n xs) (bits_of n ys))

pub length_word : (n w : ℕ) → length (word_bits n w) ≡ n
unfolding word_bits
length_word zero w = refl
length_word (suc n) w = ap suc (length_word n w)

-- the register over words, word by word
pub words_none : (n r : ℕ) → run r (bits_of n []) ≡ r
unfolding run bits_of
words_none n r = refl

pub words_more : (n r w : ℕ) (words : List ℕ) → run r (bits_of n (w ∷ words)) ≡ run (run r (word_bits n w)) (bits_of n words)
words_more n r w words = rw (bits_more n w words) (run-++ r (word_bits n w) (bits_of n words))

-- In a loop over symbols: one symbol on, and at the end. The two facts are the laws of a symbol.
module _ {A : Type 0} (bits : A → List Bool) (all : List A → List Bool) where
  pub one_on : ((x : A) (xs : List A) → all (x ∷ xs) ≡ bits x ++ all xs) → (r s : ℕ) (xs : List A) (i : ℕ) (x : A) → i < length xs → x ≡ get_or xs i x → s ≡ run r (bits x) → run s (all (drop (i + 1) xs)) ≡ run r (all (drop i xs))
  one_on more r s xs i x h e f =
      ap (λ (y : ℕ). run y (all (drop (i + 1) xs))) f
      ∙ sym (run-++ r (bits x) (all (drop (i + 1) xs)))
      ∙ ap (run r) (sym (more x (drop (i + 1) xs)) ∙ ap (λ y. all (y ∷ drop (i + 1) xs)) e ∙ ap all (sym (drop_more xs i x h)))

  pub at_the_end : all [] ≡ [] → (r : ℕ) (xs : List A) (i : ℕ) → length xs ≤ i → r ≡ run r (all (drop i xs))
  at_the_end none r xs i h = sym (run_none r) ∙ ap (run r) (sym none ∙ ap all (sym (drop_of_length-le xs h)))

-- the register stays within its 32 bits
pub shifted_below : (f : Bool) (r : ℕ) → shifted f r < 2 ^ 32
shifted_below true r = xor_lt 32 (r * 2 % 2 ^ 32) polynomial (omega arith) (omega arith)
shifted_below false r = omega arith

pub run_below : (bits : List Bool) (r : ℕ) → r < 2 ^ 32 → run r bits < 2 ^ 32
unfolding run
run_below [] r h = h
run_below (b ∷ bits) r h = run_below bits (step r b) (shifted_below (unlike (leb (2 ^ 31) r) b) r)

pub check_below : (bits : List Bool) → check_of bits < 2 ^ 32
check_below bits = run_below bits start (omega arith)
