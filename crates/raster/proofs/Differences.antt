-- Counting differing words, one step at a time.
use Rattle.std.proofs.Common.{◌≡◌, ℕ, zero, suc, ◌+◌, ◌*◌, ◌≤◌, Bool, true, false, cond, eqb, sym, refl, add-one, add-mul, arith}
use Rattle.raster.specs.Difference.{differing_words, differing}

pub words_none : (a b : ℕ → ℕ) → differing_words a b 0 ≡ 0
unfolding differing_words
words_none a b = refl

pub words_more : (a b : ℕ → ℕ) (n : ℕ) → differing_words a b (n + 1) ≡ differing_words a b n + cond (eqb (a n) (b n)) 0 1
unfolding differing_words
words_more a b n = rw (add-one n)

pub rows_none : (at at' : ℕ → ℕ → ℕ) (words : ℕ) → differing at at' 0 words ≡ 0
unfolding differing
rows_none at at' words = refl

pub rows_more : (at at' : ℕ → ℕ → ℕ) (n words : ℕ) → differing at at' (n + 1) words ≡ differing at at' n words + differing_words (at n) (at' n) words
unfolding differing
rows_more at at' n words = rw (add-one n)

-- no more words differ than there are
cond_small : (b : Bool) → cond b 0 1 ≤ 1
cond_small true = omega arith
cond_small false = omega arith

pub words_at_most : (a b : ℕ → ℕ) (n : ℕ) → differing_words a b n ≤ n
words_at_most a b zero = rw (words_none a b) (omega arith)
words_at_most a b (suc n) = let h = words_at_most a b n in let c = cond_small (eqb (a n) (b n)) in rw (sym (add-one n), words_more a b n) (omega arith)

pub rows_at_most : (at at' : ℕ → ℕ → ℕ) (n words : ℕ) → differing at at' n words ≤ n * words
rows_at_most at at' zero words = rw (rows_none at at' words) (omega arith)
rows_at_most at at' (suc n) words =
    let h = rows_at_most at at' n words in
    let w = words_at_most (at n) (at' n) words in
    rw (sym (add-one n), rows_more at at' n words, add-mul n 1 words) (omega arith)
