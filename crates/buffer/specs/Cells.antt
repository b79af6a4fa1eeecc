-- Words in cells of memory, counted along the rows.
use Rattle.std.specs.Prelude.{◌≡◌, ℕ, ◌+◌, ◌*◌, ◌≤◌, Bool, cond, List, length, slice_index_or, slice_set, refl}
use Rattle.std.proofs.Common.{◌∙◌}
use Rattle.raster.specs.Meaning.{inside}

-- the word at row i and place j, in rows of w
abbrev pub word_at : {A : Type 0} → (List A → ℕ → ℕ) → List A → ℕ → ℕ → ℕ → ℕ
word_at word m w i j = word m (i * w + j)

-- memory after a set: one cell written, if the word lies inside
abbrev pub memory_after : {A : Type 0} → (ℕ → ℕ) → (List A → ℕ → Bool → A) → List A → ℕ → ℕ → ℕ → ℕ → Bool → List A
memory_after home written m rows w row place bit =
    let n = row * w + place in
    cond (inside rows w row place) (slice_set m (home n) (written m n bit)) m

-- From m to m' nothing above bit 0 of a word differs, and none of the cells from n on.
pub record Kept {A : Type 0} (above : List A → ℕ → ℕ) (n : ℕ) (m m' : List A) : Type 0 where
  pub long : length m' ≡ length m
  pub upper : (k : ℕ) → above m' k ≡ above m k
  pub past : (i : ℕ) (d : A) → n ≤ i → slice_index_or m' i d ≡ slice_index_or m i d

pub kept_still : {A : Type 0} (above : List A → ℕ → ℕ) (n : ℕ) (m : List A) → Kept above n m m
kept_still above n m = record { long = refl; upper = λ k. refl; past = λ i d h. refl }

pub kept_onward : {A : Type 0} {above : List A → ℕ → ℕ} {n : ℕ} {m m' m'' : List A} → Kept above n m m' → Kept above n m' m'' → Kept above n m m''
kept_onward p q = record { long = q.long ∙ p.long; upper = λ k. q.upper k ∙ p.upper k; past = λ i d h. q.past i d h ∙ p.past i d h }
