-- What is found in well-formed rows joins to these rows again.
use Rattle.std.proofs.Common.{◌≡◌, ℕ, ◌+◌, ◌*◌, ◌%◌, ◌^◌, ◌<◌, true, List, [], ◌∷◌, length, get_or, sym, refl, ap, ◌∙◌, arith}
use Rattle.std.specs.List.{AllByRecursion}
use Rattle.std.proofs.lemmas.Nat.{mod-pow-add}
use Rattle.std.proofs.lemmas.List.FromFn.{fill_by_all}
use Rattle.std.proofs.ByRecursion.{All-get_or}
use Rattle.record.specs.Layout.{Part, cut, width, part_width, found, joined, layout, rows_with, reserved_clear}
use Rattle.record.proofs.Fields.{Cleared, cleared}

-- the bits of a row at each part, joined, are the row
abbrev cuts : List Part → ℕ → ℕ
cuts [] row = 0
cuts (p ∷ ps) row = cut p ps row * 2 ^ width ps + cuts ps row

cuts_joined : (ps : List Part) (row : ℕ) → cuts ps row ≡ row % 2 ^ width ps
cuts_joined [] row = omega arith
cuts_joined (p ∷ ps) row = ap (λ rest. cut p ps row * 2 ^ width ps + rest) (cuts_joined ps row) ∙ sym (mod-pow-add row (part_width p) (width ps))

module _ (rows : List ℕ) (count : length rows ≡ 14) (narrow : AllByRecursion (λ row. row < 2 ^ 16) rows) (reserved : reserved_clear rows ≡ true) where
  small : (i : ℕ) → i < 14 → get_or rows i 0 < 2 ^ 16
  small i h = All-get_or (λ row. row < 2 ^ 16) rows i 0 (omega arith) narrow

  -- row i, from its parts
  by_cuts : (i : ℕ) → i < 14 → width (get_or layout i []) ≡ 16 → cuts (get_or layout i []) (get_or rows i 0) ≡ get_or rows i 0
  by_cuts i h wide = cuts_joined (get_or layout i []) (get_or rows i 0) ∙ rw wide (omega (arith, small i h))

  abbrev Rejoined : ℕ → Type 0
  Rejoined i = joined (found rows) (get_or layout i []) ≡ get_or rows i 0

  clear : Cleared rows
  clear = cleared rows reserved

  row_0 : Rejoined 0
  row_0 = by_cuts 0 (omega arith) refl

  row_1 : Rejoined 1
  row_1 = by_cuts 1 (omega arith) refl

  row_2 : Rejoined 2
  row_2 = omega (arith, small 2 (omega arith))

  row_3 : Rejoined 3
  row_3 = omega (arith, small 3 (omega arith))

  row_4 : Rejoined 4
  row_4 = by_cuts 4 (omega arith) refl

  row_5 : Rejoined 5
  row_5 = by_cuts 5 (omega arith) refl

  row_6 : Rejoined 6
  row_6 = omega (arith, by_cuts 6 (omega arith) refl, clear)

  row_7 : Rejoined 7
  row_7 = omega (arith, by_cuts 7 (omega arith) refl, clear)

  row_8 : Rejoined 8
  row_8 = omega (arith, by_cuts 8 (omega arith) refl, clear)

  row_9 : Rejoined 9
  row_9 = omega (arith, by_cuts 9 (omega arith) refl)

  row_10 : Rejoined 10
  row_10 = omega (arith, by_cuts 10 (omega arith) refl, clear)

  row_11 : Rejoined 11
  row_11 = omega (arith, by_cuts 11 (omega arith) refl, clear)

  row_12 : Rejoined 12
  row_12 = omega (arith, by_cuts 12 (omega arith) refl, clear)

  row_13 : Rejoined 13
  row_13 = omega (arith, by_cuts 13 (omega arith) refl, clear)

  pub rejoined : rows_with (found rows) ≡ rows
  rejoined =
      (λ i. row_0 i ∷ row_1 i ∷ row_2 i ∷ row_3 i ∷ row_4 i ∷ row_5 i ∷ row_6 i ∷ row_7 i ∷ row_8 i ∷ row_9 i ∷ row_10 i ∷ row_11 i ∷ row_12 i ∷ row_13 i ∷ [])
      ∙ sym (fill_by_all (λ k. get_or rows k 0) rows 14 0 count (λ k _. refl))
