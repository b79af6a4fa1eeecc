-- How many macroblocks carry each element, and what is left of an element when macroblocks are lost.
use Rattle.std.specs.Prelude.{◌≡◌, ℕ, zero, suc, ◌+◌, ◌<◌, ◌≤◌, Bool, true, false, ◌&&◌, ◌||◌, List, [], ◌∷◌, length, ◌==◌}
use Rattle.format.specs.declared.table.Format.{Format}
use Rattle.format.specs.declared.table.Format.TheVariants.{Frame1080}
use Rattle.format.specs.Formats.{columns_of, stripes_of, carriers_of, in_format, position_of, reference_of, next_first, element_count, index_of}

abbrev pub one : Bool → ℕ
one true = 1
one false = 0

-- how many of the first n columns of a stripe pass the test
unfoldable pub in_stripe : (ℕ → Bool) → ℕ → ℕ
in_stripe test zero = 0
in_stripe test (suc n) = one (test n) + in_stripe test n

-- how many macroblocks of the first n stripes pass it
unfoldable pub in_stripes : (ℕ → ℕ → Bool) → ℕ → ℕ → ℕ
in_stripes test columns zero = 0
in_stripes test columns (suc n) = in_stripe (test n) columns + in_stripes test columns n

-- how many macroblocks of a format pass it; as the test is a set of macroblocks, how many of the set are in the format
abbrev pub count : Format → (ℕ → ℕ → Bool) → ℕ
count f test = in_stripes test (columns_of f) (stripes_of f)

-- the macroblocks that carry element i
abbrev pub carries : ℕ → ℕ → ℕ → Bool
carries i stripe column = index_of stripe column == i

-- in every format each element is carried by as many macroblocks as the table says, or more
abbrev pub EachCarried : Type 0
EachCarried = (f : Format) (i : ℕ) → i < element_count → carriers_of f ≤ count f (carries i)

-- and some element by just as many
abbrev pub SomeNoMore : Type 0
SomeNoMore = (f : Format) → (i : ℕ) × (i < element_count) × (count f (carries i) ≡ carriers_of f)

-- some macroblock of the format carries element i and is not lost
abbrev pub Left : Format → (ℕ → ℕ → Bool) → ℕ → Type 0
Left f lost i = (stripe : ℕ) × (column : ℕ) × (in_format f stripe column ≡ true) × (index_of stripe column ≡ i) × (lost stripe column ≡ false)

-- whichever macroblocks are lost, if they are fewer than the carriers, every element is left
abbrev pub LeftOfSets : Type 0
LeftOfSets = (f : Format) (lost : ℕ → ℕ → Bool) → count f lost < carriers_of f → (i : ℕ) → i < element_count → Left f lost i

-- the macroblocks, each a stripe and a column, that stand in a list
abbrev pub listed : List (ℕ × ℕ) → ℕ → ℕ → Bool
listed [] stripe column = false
listed (m ∷ ms) stripe column = (m.0 == stripe && m.1 == column) || listed ms stripe column

-- the same where a list names those lost, in any order and however often
abbrev pub LeftOfLists : Type 0
LeftOfLists = (f : Format) (lost : List (ℕ × ℕ)) → length lost < carriers_of f → (i : ℕ) → i < element_count → Left f (listed lost) i

-- some values; references and elements go on from 0 after their last
pub record Samples : Type 0 where
  pub last_element : index_of 1 89 ≡ 134
  pub element_after : index_of 1 90 ≡ 0
  pub fourth_stripe : index_of 3 0 ≡ 27
  pub last_macroblock : index_of 67 119 ≡ 83
  pub second_position : (f : Format) → position_of f 0 1 ≡ 1
  pub reference_after : (f : Format) → reference_of f 65520 0 1 ≡ 0
  pub picture_after : next_first Frame1080 60000 ≡ 2639
