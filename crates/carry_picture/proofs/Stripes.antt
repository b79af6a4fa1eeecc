-- Each block is placed, and what its column carries is read.
use Rattle.std.proofs.Common.{◌≡◌, ℕ, ◌<◌, true, ltb, List, Ok, Err, Result, sym, ap, ◌∙◌, arith}
use Rattle.std.proofs.lemmas.Bool.Decides.{nat_tests}
use Rattle.column.specs.Column.{carried_rows}
use Rattle.block.specs.Code.{decoded}
use Rattle.fault.specs.Refusing.{done}
use Rattle.record.specs.declared.record.Record.{Record}
use Rattle.record.specs.Rules.{checked}
use Rattle.format.specs.declared.table.Format.{Format}
use Rattle.format.specs.declared.table.Format.TheVariants.{Bench}
use Rattle.format.specs.Formats.{in_format}
use Rattle.image.specs.Image.{is_frame}
use Rattle.inserter.specs.Place.{block_for, placing}
use Rattle.extractor.specs.Reading.{reading}
use Rattle.carry_picture.specs.Content.{zero_record, blank, block_at}
use Rattle.carry_picture.proofs.Contents.{zeros_lawful}

-- each block of the bench picture is placed
module _ (f : Format) (first s c rows words : ℕ) (image : List ℕ) (r : Record) (ef : f ≡ Bench) (e₀ : first ≡ 0) (hs : s < 3) (hc : c < 45) (er : rows ≡ 16) (ew : words ≡ 1440) (ez : r ≡ zero_record) where
  pub places : is_frame image ≡ true → done (placing f first s c rows words image r) ≡ Ok tt
  places hf =
      let i : in_format Bench s c ≡ true = grind (arith, nat_tests) in
      let k : checked zero_record ≡ Ok tt = zeros_lawful in
      rw (ef, er, ew, ez, i, k, hf)

  pub block_is : image ≡ blank → block_for f first s c image r ≡ block_at s c
  unfolding block_at
  block_is ei = rw (ef, e₀, ei, ez)

-- reading is decoding what the column carries
pub reads_inside : (rows words c : ℕ) (at : ℕ → ℕ → ℕ) → rows ≡ 16 → words ≡ 1440 → c < 45 → reading 4 c rows words at ≡ decoded (carried_rows at c)
reads_inside rows words c at er ew h = let t : ltb c 45 ≡ true = grind (arith, nat_tests) in rw (er, ew, t)

-- an answer is one value
pub ok_same : {A B : Type 0} (r : Result A B) (x y : A) → r ≡ Ok x → r ≡ Ok y → x ≡ y
ok_same r x y p q = cc (p, q)
