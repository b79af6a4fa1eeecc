-- Reading undoes placing.
use Rattle.std.proofs.Common.{◌≡◌, ℕ, ◌+◌, ◌*◌, ◌<◌, ◌≤◌, true, eqb, ltb, List, get_or, is_ok, Ok, Err, Result, refl, ap, ◌∙◌, inl, inr, arith}
use Rattle.std.proofs.lemmas.List.{get_or_past}
use Rattle.std.proofs.lemmas.Bool.Decides.{nat_tests}
use Rattle.std.proofs.lemmas.Bool.{eq-eqb, cases_lt}
use Rattle.fault.specs.declared.Fault.{Fault}
use Rattle.crc.specs.Burst.{Rows}
use Rattle.column.specs.Column.{embedded, carried_rows}
use Rattle.column.proofs.Laws.{reads_back}
use Rattle.record.specs.declared.record.Record.{Record}
use Rattle.record.specs.declared.record.Block.{Block}
use Rattle.block.specs.Code.{rows_of, decoded}
use Rattle.block.proofs.Codes.{Sound, sound}
use Rattle.format.specs.declared.table.Format.{Format}
use Rattle.format.specs.declared.table.Format.TheVariants.{Frame1080, Field1080, Frame720, Bench}
use Rattle.format.specs.Formats.{number_of, accepted, columns_of, is_slab, in_format, reference_of, index_of, element_count}
use Rattle.image.proofs.Joining.{element_below}
use Rattle.inserter.specs.Place.{block_for, placing, placed_at}
use Rattle.inserter.proofs.Placings.{Accepted, accepted_parts}
use Rattle.extractor.specs.Reading.{reading}
use Rattle.extractor.specs.Gather.{settled, gathered, elements_after, sheet_after}
use Rattle.extractor.specs.Undoing.{ReadingUndoesPlacing}

-- numbers past the end count as 0
narrow_all : (rows : List ℕ) → Rows 16 rows → (i : ℕ) → get_or rows i 0 < 65536
narrow_all rows k i =
    elim (cases_lt i 16) [
      | inl h ↦ k.narrow i h
      | inr h ↦ let e = get_or_past rows i 0 (omega (arith, k.long)) in rw e (omega arith)
    ]

-- the slab shows the rows of a block that is sound
module _ (rows words column : ℕ) (at now : ℕ → ℕ → ℕ) (b : Block) (k : Sound b) (hr : rows ≡ 16) (hw : 32 * column + 32 ≤ words)
    (shown : (i j : ℕ) → i < rows → j < words → now i j ≡ embedded at column (rows_of b) i j) where
  pub block_carried : carried_rows now column ≡ rows_of b
  block_carried = reads_back at now rows words column (rows_of b) (omega arith) hw shown k.sixteen.long (narrow_all (rows_of b) k.sixteen)

  pub block_decoded : decoded (carried_rows now column) ≡ Ok b
  block_decoded = ap decoded block_carried ∙ k.back

-- the number of a format gives it back
pub number_accepted : (f : Format) → accepted (number_of f) ≡ Ok f
number_accepted Frame1080 = refl
number_accepted Field1080 = refl
number_accepted Frame720 = refl
number_accepted Bench = refl

module _ (f : Format) (first stripe column rows words : ℕ) (image : List ℕ) (r : Record) (at now : ℕ → ℕ → ℕ)
    (a : Accepted f first stripe column rows words image r (block_for f first stripe column image r))
    (shown : (i j : ℕ) → i < rows → j < words → now i j ≡ embedded at column (rows_of (block_for f first stripe column image r)) i j) where
  abbrev b : Block
  b = block_for f first stripe column image r

  is_sound : Sound b
  is_sound = sound b a.kept (omega arith) (element_below image (index_of stripe column))

  wide : (rows ≡ 16) × (words ≡ 32 * columns_of f) × (column < columns_of f)
  wide =
      let s : is_slab f rows words ≡ true = a.slab in
      let i : in_format f stripe column ≡ true = a.inside in
      (grind (arith, nat_tests), grind (arith, nat_tests), grind (arith, nat_tests))

  carried_block : decoded (carried_rows now column) ≡ Ok b
  carried_block = block_decoded rows words column at now b is_sound wide.0 (omega (arith, wide.1, wide.2)) shown

  column_in : ltb column (columns_of f) ≡ true
  column_in = let h = wide.2 in grind (arith, nat_tests)

  read_back : reading (number_of f) column rows words now ≡ Ok b
  read_back = rw (number_accepted f, a.slab, column_in, carried_block)

  gathered_back : gathered (record { format = f; first = first }) stripe column rows words now element_count (columns_of f) ≡ Ok b
  gathered_back =
      let t : eqb (columns_of f) (columns_of f) ≡ true = eq-eqb (columns_of f) (columns_of f) refl in
      let e : eqb (reference_of f first stripe column) (reference_of f first stripe column) ≡ true = eq-eqb _ _ refl in
      rw (t, a.slab, a.inside, carried_block, a.frame, e)

pub reading_undoes_placing : ReadingUndoesPlacing
reading_undoes_placing f first stripe column rows words image r at now p =
    let b = block_for f first stripe column image r in
    let got : gathered (record { format = f; first = first }) stripe column rows words now element_count (columns_of f) ≡ Ok b = both.1 in
    (both.0, got, λ slots. ap (λ (x : Result Block Fault). settled x slots (elements_after stripe column slots)) got, λ sheet. ap (λ (x : Result Block Fault). settled x sheet (sheet_after column sheet)) got)
  where
    go : (x : Result Block Fault) → placing f first stripe column rows words image r ≡ x → is_ok x ≡ true → ((i j : ℕ) → i < rows → j < words → now i j ≡ placed_at x at column i j) → (reading (number_of f) column rows words now ≡ Ok (block_for f first stripe column image r)) × (gathered (record { format = f; first = first }) stripe column rows words now element_count (columns_of f) ≡ Ok (block_for f first stripe column image r))
    go (Err fault) e h s = absurd (let z : ◌≡◌ {A = ℕ} 0 1 = cc in omega arith)
    go (Ok x) e h s =
        let a = accepted_parts f first stripe column rows words image r x e in
        let c : Accepted f first stripe column rows words image r (block_for f first stripe column image r) = record { slab = a.slab; inside = a.inside; kept = a.kept; frame = a.frame; is = refl } in
        let t : (i j : ℕ) → i < rows → j < words → now i j ≡ embedded at column (rows_of (block_for f first stripe column image r)) i j = λ i j hi hj. s i j hi hj ∙ ap (λ (y : Block). embedded at column (rows_of y) i j) a.is in
        (read_back f first stripe column rows words image r at now c t, gathered_back f first stripe column rows words image r at now c t)

    both : (reading (number_of f) column rows words now ≡ Ok (block_for f first stripe column image r)) × (gathered (record { format = f; first = first }) stripe column rows words now element_count (columns_of f) ≡ Ok (block_for f first stripe column image r))
    both = go (placing f first stripe column rows words image r) refl p.accepted p.shown
