-- The words of a line, as a run of `split` gives them.
use Rattle.std.proofs.Common.{◌≡◌, ℕ, ◌<◌, List, [], map, length, sym, subst, arith, true, Bor, Some, None, Option}
use Rattle.std.specs.Prelude.{slice_index_or, IfSome}
use Rattle.std.specs.Iterator.Runs.{Run, AllItems}
use Rattle.std.specs.Str.Iter.{LacksByte, IsSplitnRun, CutsAtEveryByte}
use Rattle.std.specs.Option.{option_map}
use Rattle.std.proofs.lemmas.List.{get_or-map, length-map}
use Rattle.cases.specs.Lines.{IsCut}

of_some : {A : Type 0} (P : A → Type 0) (o : Option A) (x : A) → IfSome o P → option_map (λ y. y) o ≡ Some x → P x
of_some P (Some y) x holds is = let same : y ≡ x = cc is in subst P same holds
of_some P None x holds is = absurd (cc is)

pub pieces_apart : {S : Type 0} {steps : S → Option (Bor (List ℕ)) → S → Type 0} (p : Run steps) (c k : ℕ) (d : Bor (List ℕ)) → AllItems p (λ x. LacksByte c x.now) → k < length (map (λ x. x.now) p.items) → LacksByte c (slice_index_or (map (λ x. x.now) p.items) k [])
pieces_apart p c k d lacks inside =
    let within : k < length p.items = omega (arith, length-map p.items (λ x. x.now)) in
    let there : k < p.len = omega (arith, p.long) in
    subst (LacksByte c) (sym (get_or-map (λ x. x.now) p.items k d [] within))
    (of_some (λ x. LacksByte c x.now) (p.at k) (slice_index_or p.items k d) (lacks k) (p.reads k d there))

-- a run to the end cuts the line into its words
pub cut_of : {S : Type 0} {steps : S → Option (Bor (List ℕ)) → S → Type 0} (p : Run steps) (line : List ℕ) (d : Bor (List ℕ)) → p.whole ≡ true → 0 < p.len → IsSplitnRun p line 32 × CutsAtEveryByte p line 32 → IsCut line (map (λ x. x.now) p.items)
cut_of p line d whole some pieces = record {
  some = omega (arith, p.long, length-map p.items (λ x. x.now), some);
  apart = λ k inside. pieces_apart p 32 k d pieces.1.0 inside;
  joined = pieces.0.2 whole;
}
