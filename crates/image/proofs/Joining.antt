-- Joining undoes taking apart, and taking apart undoes joining.
use Rattle.std.proofs.Common.{◌≡◌, ℕ, ◌+◌, ◌-◌, ◌*◌, ◌/◌, ◌%◌, ◌^◌, ◌<◌, List, length, get_or, sym, ◌∙◌, subst, inl, inr, arith}
use Rattle.std.proofs.lemmas.List.FromFn.{length-map-range_with_len, get_or-map-range_with_len, fill_by_all}
use Rattle.std.proofs.lemmas.Nat.{mod_below}
use Rattle.std.proofs.lemmas.Bool.{cases_eq}
use Rattle.image.specs.Elements.{element_of, elements_of, byte_of, joined, Bytes, Elements, JoiningUndoes, TakingUndoes}
use Rattle.image.proofs.Spelled.{spelled_below, spelled_word}
use Rattle.image.proofs.Sealing.{word_back}

pub element_at_lem : (bytes : List ℕ) (i : ℕ) → i < 135 → get_or (elements_of bytes) i 0 ≡ element_of bytes i
unfolding elements_of
element_at_lem bytes i h = get_or-map-range_with_len (element_of bytes) 0 135 i i 0 h (omega arith)

pub elements_long : (bytes : List ℕ) → length (elements_of bytes) ≡ 135
unfolding elements_of
elements_long bytes = length-map-range_with_len (element_of bytes) 0 135

pub element_below : (bytes : List ℕ) (i : ℕ) → element_of bytes i < 2 ^ 32
unfolding element_of
element_below bytes i = spelled_below bytes (32 * i) 32

pub joined_at : (elements : List ℕ) (k : ℕ) → k < 540 → get_or (joined elements) k 0 ≡ byte_of elements k
unfolding joined
joined_at elements k h = get_or-map-range_with_len (byte_of elements) 0 540 k k 0 h (omega arith)

pub joined_long : (elements : List ℕ) → length (joined elements) ≡ 540
unfolding joined
joined_long elements = length-map-range_with_len (byte_of elements) 0 540

-- an element by its bytes, the high one first
pub element_bytes : (bytes : List ℕ) (i : ℕ) → ((k : ℕ) → k < 4 → get_or bytes (4 * i + k) 0 < 256) → element_of bytes i ≡ ((get_or bytes (4 * i) 0 * 256 + get_or bytes (4 * i + 1) 0) * 256 + get_or bytes (4 * i + 2) 0) * 256 + get_or bytes (4 * i + 3) 0
unfolding element_of
element_bytes bytes i small = let e : 32 * i ≡ 8 * (4 * i) = omega arith in rw e (spelled_word bytes (4 * i) small)

-- a byte of a word
high_0 : (a b c d : ℕ) → a < 256 → b < 256 → c < 256 → d < 256 → (((a * 256 + b) * 256 + c) * 256 + d) / 2 ^ 24 % 256 ≡ a
high_0 a b c d ha hb hc hd = omega arith

high_1 : (a b c d : ℕ) → a < 256 → b < 256 → c < 256 → d < 256 → (((a * 256 + b) * 256 + c) * 256 + d) / 2 ^ 16 % 256 ≡ b
high_1 a b c d ha hb hc hd = omega arith

high_2 : (a b c d : ℕ) → a < 256 → b < 256 → c < 256 → d < 256 → (((a * 256 + b) * 256 + c) * 256 + d) / 2 ^ 8 % 256 ≡ c
high_2 a b c d ha hb hc hd = omega arith

high_3 : (a b c d : ℕ) → a < 256 → b < 256 → c < 256 → d < 256 → (((a * 256 + b) * 256 + c) * 256 + d) / 1 % 256 ≡ d
high_3 a b c d ha hb hc hd = omega arith

-- four cases of k % 4
by_four : (P : ℕ → Type 0) → ((i : ℕ) → P (4 * i)) → ((i : ℕ) → P (4 * i + 1)) → ((i : ℕ) → P (4 * i + 2)) → ((i : ℕ) → P (4 * i + 3)) → (k : ℕ) → P k
by_four P p q r s k =
    elim (cases_eq (k % 4) 0) [
      | inl e ↦ let w : 4 * (k / 4) ≡ k = omega arith in subst P w (p (k / 4))
      | inr n ↦ elim (cases_eq (k % 4) 1) [
        | inl e ↦ let w : 4 * (k / 4) + 1 ≡ k = omega arith in subst P w (q (k / 4))
        | inr m ↦ elim (cases_eq (k % 4) 2) [
          | inl e ↦ let w : 4 * (k / 4) + 2 ≡ k = omega arith in subst P w (r (k / 4))
          | inr o ↦ let w : 4 * (k / 4) + 3 ≡ k = omega arith in subst P w (s (k / 4))
        ]
      ]
    ]

-- the bytes of joined elements, four by four
module _ (elements : List ℕ) (i : ℕ) where
  byte_0 : byte_of elements (4 * i) ≡ get_or elements i 0 / 2 ^ 24 % 256
  byte_0 = let q : 4 * i / 4 ≡ i = omega arith in let r : 4 * i % 4 ≡ 0 = omega arith in rw (q, r)

  byte_1 : byte_of elements (4 * i + 1) ≡ get_or elements i 0 / 2 ^ 16 % 256
  byte_1 = let q : (4 * i + 1) / 4 ≡ i = omega arith in let r : (4 * i + 1) % 4 ≡ 1 = omega arith in rw (q, r)

  byte_2 : byte_of elements (4 * i + 2) ≡ get_or elements i 0 / 2 ^ 8 % 256
  byte_2 = let q : (4 * i + 2) / 4 ≡ i = omega arith in let r : (4 * i + 2) % 4 ≡ 2 = omega arith in rw (q, r)

  byte_3 : byte_of elements (4 * i + 3) ≡ get_or elements i 0 / 1 % 256
  byte_3 = let q : (4 * i + 3) / 4 ≡ i = omega arith in let r : (4 * i + 3) % 4 ≡ 3 = omega arith in rw (q, r)

byte_below : (elements : List ℕ) (k : ℕ) → byte_of elements k < 256
byte_below elements k = mod_below (get_or elements (k / 4) 0 / 2 ^ (24 - 8 * (k % 4))) 256 (omega arith)

pub joined_bytes : (elements : List ℕ) → Bytes (joined elements)
joined_bytes elements = record { long = joined_long elements; narrow = λ k h. rw (joined_at elements k h) (byte_below elements k) }

pub elements_narrow : (bytes : List ℕ) → Elements (elements_of bytes)
elements_narrow bytes = record { long = elements_long bytes; narrow = λ i h. rw (element_at_lem bytes i h) (element_below bytes i) }

-- an image's bytes from its elements
module _ (bytes : List ℕ) (b : Bytes bytes) where
  small : (k : ℕ) → k < 540 → get_or bytes k 0 < 256
  small = b.narrow

  word : (i : ℕ) → i < 135 → get_or (elements_of bytes) i 0 ≡ ((get_or bytes (4 * i) 0 * 256 + get_or bytes (4 * i + 1) 0) * 256 + get_or bytes (4 * i + 2) 0) * 256 + get_or bytes (4 * i + 3) 0
  word i h = element_at_lem bytes i h ∙ element_bytes bytes i (λ k l. small (4 * i + k) (omega arith))

  byte_back : (k : ℕ) → k < 540 → byte_of (elements_of bytes) k ≡ get_or bytes k 0
  byte_back =
      by_four (λ k. k < 540 → byte_of (elements_of bytes) k ≡ get_or bytes k 0)
      (λ i h. byte_0 (elements_of bytes) i ∙ rw (word i (omega arith)) (high_0 _ _ _ _ (small (4 * i) (omega arith)) (small (4 * i + 1) (omega arith)) (small (4 * i + 2) (omega arith)) (small (4 * i + 3) (omega arith))))
      (λ i h. byte_1 (elements_of bytes) i ∙ rw (word i (omega arith)) (high_1 _ _ _ _ (small (4 * i) (omega arith)) (small (4 * i + 1) (omega arith)) (small (4 * i + 2) (omega arith)) (small (4 * i + 3) (omega arith))))
      (λ i h. byte_2 (elements_of bytes) i ∙ rw (word i (omega arith)) (high_2 _ _ _ _ (small (4 * i) (omega arith)) (small (4 * i + 1) (omega arith)) (small (4 * i + 2) (omega arith)) (small (4 * i + 3) (omega arith))))
      (λ i h. byte_3 (elements_of bytes) i ∙ rw (word i (omega arith)) (high_3 _ _ _ _ (small (4 * i) (omega arith)) (small (4 * i + 1) (omega arith)) (small (4 * i + 2) (omega arith)) (small (4 * i + 3) (omega arith))))

  pub joined_elements : joined (elements_of bytes) ≡ bytes
  unfolding joined
  joined_elements = sym (fill_by_all (byte_of (elements_of bytes)) bytes 540 0 b.long (λ k h. sym (byte_back k h)))

pub joining_undoes : JoiningUndoes
joining_undoes bytes b = (elements_narrow bytes, joined_elements bytes b)

-- elements from the image that they join to
module _ (elements : List ℕ) (e : Elements elements) where
  pub element_back : (i : ℕ) → i < 135 → element_of (joined elements) i ≡ get_or elements i 0
  element_back i h =
      let n = get_or elements i 0 in
      let one : n / 1 % 256 ≡ n % 256 = omega arith in
      element_bytes (joined elements) i (λ k l. (joined_bytes elements).narrow (4 * i + k) (omega arith))
      ∙ rw (joined_at elements (4 * i) (omega arith), joined_at elements (4 * i + 1) (omega arith), joined_at elements (4 * i + 2) (omega arith), joined_at elements (4 * i + 3) (omega arith)) (rw (byte_0 elements i, byte_1 elements i, byte_2 elements i, byte_3 elements i, one) (word_back n (e.narrow i h)))

  pub elements_joined : elements_of (joined elements) ≡ elements
  unfolding elements_of
  elements_joined = sym (fill_by_all (element_of (joined elements)) elements 135 0 e.long (λ i h. sym (element_back i h)))

pub taking_undoes : TakingUndoes
taking_undoes elements e = (joined_bytes elements, elements_joined elements e)
