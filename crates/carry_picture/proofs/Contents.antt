-- What the blocks of the picture hold.
use Rattle.std.proofs.Common.{◌≡◌, ℕ, ◌+◌, ◌*◌, ◌/◌, ◌%◌, ◌<◌, true, List, Ok, refl, ap, ◌∙◌, ap₂, arith}
use Rattle.record.specs.declared.record.Record.{Record}
use Rattle.record.specs.declared.record.PictureFlags.{PictureFlags}
use Rattle.record.specs.Rules.{fits_widths, keeps_rules, checked}
use Rattle.format.specs.declared.table.Format.TheVariants.{Bench}
use Rattle.format.specs.Formats.{reference_of, index_of}
use Rattle.image.specs.Image.{Blank, is_frame}
use Rattle.image.specs.Table.{parameter_of}
use Rattle.image.specs.Elements.{element_of}
use Rattle.inserter.specs.Place.{flags_of}
use Rattle.carry_picture.specs.Content.{zero_record, blank, block_at}

-- the record of zeros is accepted
pub zeros_lawful : checked zero_record ≡ Ok tt
unfolding fits_widths keeps_rules
zeros_lawful = refl

-- a blank image is of a frame
pub blank_frame : (bytes : List ℕ) → Blank bytes → is_frame bytes ≡ true
unfolding parameter_of
blank_frame bytes b = let e = b 39 (omega arith) in rw e

-- in stripes of 45 columns, the position is the reference and the index
pub position_reference : (s c : ℕ) → s < 3 → c < 45 → 45 * s + c ≡ reference_of Bench 0 s c
position_reference s c hs hc = omega arith

pub position_index : (s c : ℕ) → s < 3 → c < 45 → 45 * s + c ≡ index_of s c
position_index s c hs hc =
    let none : s / 3 ≡ 0 = omega arith in
    let all : s % 3 ≡ s = omega arith in
    rw (none, all) (omega arith)

-- a block of these parts is the one that is wanted
pub block_made : (s c n : ℕ) (image : List ℕ) (p : PictureFlags) (e : ℕ) (r : Record) → s < 3 → c < 45 → n ≡ 45 * s + c → image ≡ blank → p ≡ flags_of image → e ≡ element_of image n → r ≡ zero_record → record { picture = p; reference = n; element = e; «record» = r } ≡ block_at s c
unfolding block_at
block_made s c n image p e r hs hc en ei ep ee er =
    let reference : n ≡ reference_of Bench 0 s c = en ∙ position_reference s c hs hc in
    let element : element_of image n ≡ element_of blank (index_of s c) = ap₂ element_of ei (en ∙ position_index s c hs hc) in
    let flags : flags_of image ≡ flags_of blank = ap flags_of ei in
    rw (ep ∙ flags, ee ∙ element, er, reference)
