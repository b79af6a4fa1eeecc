-- The words of a case, and what they spell.
use Rattle.std.specs.Prelude.{◌≡◌, ℕ, ◌^◌, List, [], ◌∷◌, ◌++◌, map, replicate, drop, length, nat_lt, nat_le, slice_index_or, Bool, cond, is_ok, IfOk, ◌&&◌, ◌==◌, true, ℤ, pos, Ok, Err, Result}
use Rattle.std.specs.Char.{is_digit}
use Rattle.std.specs.List.{list_all}
use Rattle.std.specs.Slice.Iter.{iter_rest}
use Rattle.std.specs.Str.Parse.{digits_value, signed_digits_value, without_leading_plus, without_leading_sign, starts_with_minus}
use Rattle.cases.specs.declared.words.Words.{Words}
use Rattle.cases.specs.Digits.{are_pairs, bytes_in}

-- the texts of the words that are left
abbrev pub left : Words → List (List ℕ)
left w = map (λ t. t.now) (iter_rest w.left)

-- what is read of a word is what `gives` allows
abbrev pub Reads : {T E F : Type 0} → (List ℕ → Result T E → Type 0) → List ℕ → Result T F → Type 0
Reads gives word (Ok v) = gives word (Ok v)
Reads {E = E} gives word (Err f) = (e : E) × gives word (Err e)

-- The number that a word has to be: in a radix and of so many bits at most, or a decimal one that 16 bits hold with its sign.
pub data Form : Type 0 where
  unsigned : ℕ → ℕ → Form
  signed : Form

-- a flag is 0 or 1
abbrev pub flag : Form
flag = unsigned 10 1

abbrev pub picture_forms : List Form
picture_forms = replicate 5 flag

abbrev pub vector_forms : List Form
vector_forms = replicate 8 signed

abbrev pub other_forms : List Form
other_forms = unsigned 10 8 ∷ flag ∷ unsigned 10 8 ∷ flag ∷ unsigned 10 8 ∷ unsigned 10 8 ∷ unsigned 10 8 ∷ unsigned 10 16 ∷ unsigned 10 8 ∷ []

abbrev pub record_forms : List Form
record_forms = replicate 6 flag ++ (vector_forms ++ other_forms)

abbrev pub block_forms : List Form
block_forms = picture_forms ++ (unsigned 10 16 ∷ unsigned 10 32 ∷ record_forms)

-- sixteen rows in hex
abbrev pub row_forms : List Form
row_forms = replicate 16 (unsigned 16 16)

-- one digit or more, and nothing else
abbrev pub is_numeral : ℕ → List ℕ → Bool
is_numeral radix digits = nat_lt 0 (length digits) && list_all (λ digit. is_digit digit radix) digits

-- whether a word is such a number: digits, after a plus or, where it may be negative, a minus; and not too large
abbrev pub is_number : Form → List ℕ → Bool
is_number (unsigned radix bits) word =
    is_numeral radix (without_leading_plus word) && nat_lt (digits_value radix (without_leading_plus word)) (2 ^ bits)
is_number signed word =
    is_numeral 10 (without_leading_sign word) && nat_le (digits_value 10 (without_leading_sign word)) (cond (starts_with_minus word) 32768 32767)

-- which number it is
abbrev pub number_in : Form → List ℕ → ℤ
number_in (unsigned radix bits) word = pos (digits_value radix (without_leading_plus word))
number_in signed word = signed_digits_value 10 word

-- the first word; where there is none, the empty one, which is no number
abbrev pub first : List (List ℕ) → List ℕ
first words = slice_index_or words 0 []

-- whether the first words are numbers of the forms, one after the other
unfoldable pub spelt : List Form → List (List ℕ) → Bool
spelt [] words = true
spelt (form ∷ forms) words = is_number form (first words) && spelt forms (drop 1 words)

-- which numbers they are
unfoldable pub numbers_in : List Form → List (List ℕ) → List ℤ
numbers_in [] words = []
numbers_in (form ∷ forms) words = number_in form (first words) ∷ numbers_in forms (drop 1 words)

-- the words after them
unfoldable pub words_after : List Form → List (List ℕ) → List (List ℕ)
words_after [] words = words
words_after (form ∷ forms) words = words_after forms (drop 1 words)

-- the first words spell the numbers, each in its form, and the rest is after them
pub record Spells (forms : List Form) (words : List (List ℕ)) (values : List ℤ) (others : List (List ℕ)) : Type 0 where
  pub spelt : spelt forms words ≡ true
  pub numbers : values ≡ numbers_in forms words
  pub rest : others ≡ words_after forms words

-- what is read of a word as a number: that number, if the word is one
abbrev pub ReadsNumber : {V E : Type 0} → Form → (V → ℤ) → List ℕ → Result V E → Type 0
ReadsNumber form number word r = (is_ok r ≡ is_number form word) × IfOk r (λ v. number v ≡ number_in form word)

-- whether they spell numbers and nothing is after them
abbrev pub spelt_whole : List Form → List (List ℕ) → Bool
spelt_whole forms words = spelt forms words && (length (words_after forms words) == 0)

-- whether there is one word of hex digits, two for each byte, or no word
abbrev pub are_bytes : List (List ℕ) → Bool
are_bytes words = nat_le (length words) 1 && are_pairs (first words)

-- which bytes they spell: none where there is no word
abbrev pub SpellsBytes : List (List ℕ) → List ℕ → Type 0
SpellsBytes words bytes = (are_bytes words ≡ true) × (bytes ≡ bytes_in (first words))
