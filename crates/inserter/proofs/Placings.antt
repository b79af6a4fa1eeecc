-- What an accepted place says of its block.
use Rattle.std.proofs.Common.{◌≡◌, ℕ, ◌+◌, ◌*◌, ◌<◌, ◌≤◌, Bool, true, false, not, eqb, leb, List, IfOk, Ok, Err, Result, sym, refl, ap, ◌∙◌, arith}
use Rattle.std.proofs.lemmas.Bool.Decides.{nat_tests}
use Rattle.fault.specs.declared.Fault.{Fault}
use Rattle.fault.specs.declared.Fault.TheVariants.{SlabExtent, NotInFormat, FrameOrField}
use Rattle.fault.specs.Refusing.{refuse, then}
use Rattle.column.specs.Column.{within, carried_rows}
use Rattle.record.specs.declared.record.Record.{Record}
use Rattle.record.specs.declared.record.Block.{Block}
use Rattle.record.specs.Rules.{checked}
use Rattle.block.specs.Code.{rows_of, decoded}
use Rattle.block.specs.Slab.{writable, readable}
use Rattle.block.proofs.Codes.{not-false}
use Rattle.format.specs.declared.table.Format.{Format}
use Rattle.format.specs.Formats.{columns_of, frame_of, is_slab, in_format}
use Rattle.image.specs.Image.{is_frame}
use Rattle.inserter.specs.Place.{agrees, block_for, placing, Ready}

-- what was refused, and what was gone on with
pub passed_ok : {A : Type 0} (test : Bool) (fault : Fault) (rest : Result A Fault) (x : A) → refuse test fault rest ≡ Ok x → (test ≡ false) × (rest ≡ Ok x)
passed_ok true fault rest x e = absurd (let z : ◌≡◌ {A = ℕ} 0 1 = cc in omega arith)
passed_ok false fault rest x e = (refl, e)

pub went_on : {A B : Type 0} (r : Result A Fault) (next : A → Result B Fault) (y : B) → then r next ≡ Ok y → (x : A) × (r ≡ Ok x) × (next x ≡ Ok y)
went_on (Ok x) next y e = (x, refl, e)
went_on (Err fault) next y e = absurd (let z : ◌≡◌ {A = ℕ} 0 1 = cc in omega arith)

-- a place that is accepted
pub record Accepted (f : Format) (first stripe column rows words : ℕ) (image : List ℕ) (r : Record) (b : Block) : Type 0 where
  pub slab : is_slab f rows words ≡ true
  pub inside : in_format f stripe column ≡ true
  pub kept : checked r ≡ Ok tt
  pub frame : agrees (is_frame image) (frame_of f) ≡ true
  pub is : b ≡ block_for f first stripe column image r

module _ (f : Format) (first stripe column rows words : ℕ) (image : List ℕ) (r : Record) where
  pub accepted_parts : (b : Block) → placing f first stripe column rows words image r ≡ Ok b → Accepted f first stripe column rows words image r b
  accepted_parts b e =
      let s = passed_ok (not (is_slab f rows words)) SlabExtent _ b e in
      let i = passed_ok (not (in_format f stripe column)) NotInFormat _ b s.1 in
      let k = went_on (checked r) _ b i.1 in
      let a = passed_ok (not (agrees (is_frame image) (frame_of f))) FrameOrField (Ok (block_for f first stripe column image r)) b k.2 in
      record {
        slab = not-false _ s.0;
        inside = not-false _ i.0;
        kept = k.1 ∙ refl;
        frame = not-false _ a.0;
        is = let h = a.1 in sym cc;
      }

  -- its column lies inside the slab
  pub inside_slab : {A : Type 0} (b : Block) → Accepted f first stripe column rows words image r b → (x : A) → within rows words column x ≡ Ok x
  inside_slab b a x =
      let s : is_slab f rows words ≡ true = a.slab in
      let i : in_format f stripe column ≡ true = a.inside in
      let long : words ≡ 32 * columns_of f = grind (arith, nat_tests) in
      let near : column < columns_of f = grind (arith, nat_tests) in
      let e : eqb rows 16 ≡ true = grind (arith, nat_tests) in
      let l : leb (32 * column + 32) words ≡ true = grind (arith, nat_tests) in
      rw (e, l)

  -- it is written, its reference is lawful, and what is read is what the column carries
  pub written : (b : Block) → Accepted f first stripe column rows words image r b → writable rows words column b ≡ Ok (rows_of b)
  written b a =
      let k : checked b.«record» ≡ Ok tt = ap (λ x. checked x.«record») a.is ∙ a.kept in
      rw (inside_slab {A = Unit {0}} b a tt, k)

  pub lawful : (b : Block) → Accepted f first stripe column rows words image r b → b.reference ≤ 65520
  lawful b a = rw a.is (omega arith)

  pub read_as : (b : Block) → Accepted f first stripe column rows words image r b → (at : ℕ → ℕ → ℕ) → readable rows words column at ≡ decoded (carried_rows at column)
  read_as b a at = rw (inside_slab b a (carried_rows at column))

  pub of_accepted : (x : Result Block Fault) → x ≡ placing f first stripe column rows words image r → IfOk x (Ready f first stripe column rows words image r)
  of_accepted (Err fault) e = tt
  of_accepted (Ok b) e =
      let a = accepted_parts b (sym e) in
      record { is = a.is; written = written b a; lawful = lawful b a; read = read_as b a }
