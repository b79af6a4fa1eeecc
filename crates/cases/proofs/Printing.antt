-- What is printed of numbers, one after the other.
use Rattle.std.proofs.Common.{◌≡◌, ℕ, List, ◌∷◌, ◌++◌, ℤ, pos, refl, codes}
use Rattle.std.specs.Fmt.{decimal, signed_decimal}
use Rattle.std.proofs.lemmas.Grind.{flat_map-append}
use Rattle.record.specs.declared.record.Block.{Block}
use Rattle.cases.specs.Numbers.{picture_numbers, flag_numbers, vector_numbers, other_numbers, record_numbers}
use Rattle.cases.specs.Text.{numbers_text, block_text}

numbers_text-append : (ms ns : List ℤ) → numbers_text (ms ++ ns) ≡ numbers_text ms ++ numbers_text ns
unfolding numbers_text
numbers_text-append ms ns = flat_map-append (λ n. 32 ∷ signed_decimal n) ms ns

numbers_text-two : (m n : ℕ) (ns : List ℤ) → numbers_text (pos m ∷ pos n ∷ ns) ≡ codes " " ++ (decimal m ++ (codes " " ++ (decimal n ++ numbers_text ns)))
unfolding numbers_text
numbers_text-two m n ns = refl

-- the text of a block, part by part
pub block_text_of : (b : Block) (pictures flags vectors others : List ℤ) → pictures ≡ picture_numbers b.picture → flags ≡ flag_numbers b.«record» → vectors ≡ vector_numbers b.«record» → others ≡ other_numbers b.«record» → codes "block" ++ (numbers_text pictures ++ (codes " " ++ (decimal b.reference ++ (codes " " ++ (decimal b.element ++ (numbers_text flags ++ (numbers_text vectors ++ numbers_text others))))))) ≡ block_text b
block_text_of b pictures flags vectors others p f v o =
    let r = b.«record» in
    let first = numbers_text-append (picture_numbers b.picture) (pos b.reference ∷ pos b.element ∷ record_numbers r) in
    let two = numbers_text-two b.reference b.element (record_numbers r) in
    let second = numbers_text-append (flag_numbers r) (vector_numbers r ++ other_numbers r) in
    let third = numbers_text-append (vector_numbers r) (other_numbers r) in
    cc (p, f, v, o, first, two, second, third)
