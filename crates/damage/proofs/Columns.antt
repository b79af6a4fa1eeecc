-- What the words of a macroblock and the rows that it carries depend on. A word belongs to the macroblock in column c if its place is in
-- the 32 from 32c on, that is, j / 32 is c.
use Rattle.std.proofs.Common.{◌≡◌, ℕ, ◌+◌, ◌-◌, ◌*◌, ◌/◌, ◌%◌, ◌<◌, true, false, eqb, List, get_or, Ok, Err, Result, sym, refl, ◌∙◌, ap₂, arith}
use Rattle.std.proofs.lemmas.Bool.{ne_eqb, cond-false}
use Rattle.std.proofs.lemmas.Bool.Decides.{nat_tests}
use Rattle.fault.specs.declared.Fault.{Fault}
use Rattle.record.specs.declared.record.Block.{Block}
use Rattle.column.specs.Scramble.{scrambled}
use Rattle.column.specs.Column.{carrying, bit_at, embedded, carried_rows}
use Rattle.column.proofs.Spelled.{spelled_like, carried_row_lem, carried_length, carried_is}
use Rattle.block.specs.Code.{rows_of}
use Rattle.inserter.specs.Place.{placed_at}
use Rattle.damage.specs.Chain.{painted}
use Rattle.damage.proofs.Pieces.{cond_rel}

-- a word that carries is one of the first 16 rows, in the column, at an even place
pub carrying_column : (c i j : ℕ) → carrying c i j ≡ true → j / 32 ≡ c
carrying_column c i j e = grind (arith, nat_tests)

pub carrying_even : (c i j : ℕ) → carrying c i j ≡ true → j % 2 ≡ 0
carrying_even c i j e = grind (arith, nat_tests)

pub idle_elsewhere : (c i j : ℕ) → (j / 32 ≡ c → ⊥) → carrying c i j ≡ false
idle_elsewhere c i j h = grind (arith, nat_tests)

-- words that are alike in the column carry the same rows
pub carried_alike : (a b : ℕ → ℕ → ℕ) (c : ℕ) → ((i j : ℕ) → i < 16 → j / 32 ≡ c → a i j ≡ b i j) → carried_rows a c ≡ carried_rows b c
carried_alike a b c h =
    carried_is a c (carried_rows b c) (carried_length b c)
    (λ i hi. spelled_like (b i) (a i) (32 * c) 16 (λ j l m. h i j hi (omega arith)) ∙ sym (carried_row_lem b c i hi))

-- a place and a paint change no word of another column
pub embedded_elsewhere : (at : ℕ → ℕ → ℕ) (c : ℕ) (block : List ℕ) (i j : ℕ) → (j / 32 ≡ c → ⊥) → embedded at c block i j ≡ at i j
embedded_elsewhere at c block i j h = cond-false (carrying c i j) _ (at i j) (idle_elsewhere c i j h)

pub placed_elsewhere : (r : Result Block Fault) (at : ℕ → ℕ → ℕ) (d i j : ℕ) → (j / 32 ≡ d → ⊥) → placed_at r at d i j ≡ at i j
placed_elsewhere (Ok b) at d i j h = embedded_elsewhere at d (rows_of b) i j h
placed_elsewhere (Err f) at d i j h = refl

pub painted_elsewhere : (at : ℕ → ℕ → ℕ) (c : ℕ) (left : ℕ → ℕ → ℕ) (i j : ℕ) → (j / 32 ≡ c → ⊥) → painted at c left i j ≡ at i j
painted_elsewhere at c left i j h = cond-false (eqb (j / 32) c) _ (at i j) (ne_eqb (j / 32) c h)

-- embedding and painting alike, on words that are alike where they are read
pub embedded_alike : (a b : ℕ → ℕ → ℕ) (c : ℕ) (block : List ℕ) (i j : ℕ) → a i j ≡ b i j → (carrying c i j ≡ true → a i (j + 1) ≡ b i (j + 1)) →
    embedded a c block i j ≡ embedded b c block i j
embedded_alike a b c block i j here next =
    cond_rel (λ x y. x ≡ y) (carrying c i j) _ (a i j) _ (b i j)
    (λ t. ap₂ (λ (x y : ℕ). x / 2 * 2 + scrambled x y (bit_at (get_or block i 0) ((j - 32 * c) / 2))) here (next t))
    (λ _. here)

pub painted_alike : (a b : ℕ → ℕ → ℕ) (c : ℕ) (x y : ℕ → ℕ → ℕ) (i j : ℕ) → a i j ≡ b i j → ((i j : ℕ) → j < 32 → x i j ≡ y i j) → painted a c x i j ≡ painted b c y i j
painted_alike a b c x y i j here same = cond_rel (λ x y. x ≡ y) (eqb (j / 32) c) _ (a i j) _ (b i j) (λ _. same i (j % 32) (omega arith)) (λ _. here)
