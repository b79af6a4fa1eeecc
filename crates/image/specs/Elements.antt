-- The elements of an image: 135 words of 32 bits. Element i is bits 32i to 32i + 31 of the image.
use Rattle.std.specs.Prelude.{◌≡◌, ℕ, ◌-◌, ◌*◌, ◌/◌, ◌%◌, ◌^◌, ◌<◌, cond, List, map, length, Some, None, Option, nat_lt, slice_index}
use Rattle.std.specs.List.{range_with_len}
use Rattle.image.specs.Value.{spelled}

unfoldable pub element_of : List ℕ → ℕ → ℕ
element_of bytes i = spelled bytes (32 * i) 32

unfoldable pub elements_of : List ℕ → List ℕ
elements_of bytes = map (element_of bytes) (range_with_len 0 135)

-- the element of an index, if there is one
abbrev pub element_at : List ℕ → ℕ → Option ℕ
element_at bytes i = cond (nat_lt i 135) (Some (element_of bytes i)) None

-- byte k of what elements join to: of element k div 4, byte k mod 4, the high one first
abbrev pub byte_of : List ℕ → ℕ → ℕ
byte_of elements k = slice_index elements (k / 4) / 2 ^ (24 - 8 * (k % 4)) % 256

unfoldable pub joined : List ℕ → List ℕ
joined elements = map (byte_of elements) (range_with_len 0 540)

-- 540 bytes, and 135 words of 32 bits
pub record Bytes (bytes : List ℕ) : Type 0 where
  pub long : length bytes ≡ 540
  pub narrow : (i : ℕ) → i < 540 → slice_index bytes i < 256

pub record Elements (elements : List ℕ) : Type 0 where
  pub long : length elements ≡ 135
  pub narrow : (i : ℕ) → i < 135 → slice_index elements i < 2 ^ 32

-- joining undoes taking apart, and taking apart undoes joining
abbrev pub JoiningUndoes : Type 0
JoiningUndoes = (bytes : List ℕ) → Bytes bytes → Elements (elements_of bytes) × (joined (elements_of bytes) ≡ bytes)

abbrev pub TakingUndoes : Type 0
TakingUndoes = (elements : List ℕ) → Elements elements → Bytes (joined elements) × (elements_of (joined elements) ≡ elements)
