-- Encoding and decoding whole blocks.
use Rattle.std.proofs.Common.{◌≡◌, ℕ, ◌^◌, ◌<◌, ◌≤◌, Bool, true, false, List, length, take, is_ok, IfOk, Ok, Err, Decides, Result, sym, refl, ap, ◌∙◌, subst, inl, inr, arith}
use lib.Seq.{take-append_seam}
use Rattle.std.proofs.lemmas.Bool.Decides.{nat_tests}
use Rattle.std.proofs.lemmas.Bool.{cases_Bool}
pub use Rattle.std.proofs.lemmas.Bool.{not-false}
use Rattle.std.proofs.ByRecursion.{All-from_get_or, All-get_or}
use Rattle.fault.specs.declared.Fault.{Fault}
use Rattle.fault.specs.declared.Fault.TheVariants.{ReferenceRange}
use Rattle.fault.specs.Refusing.{refuse, then}
use Rattle.crc.specs.Burst.{Rows, CheckFits, with_check}
use Rattle.crc.proofs.Bursts.{fitting_decides, burst_never_passes, checked_fits}
use Rattle.crc.proofs.Laws.{first_rows, checked_from_fits}
use Rattle.record.specs.declared.record.Block.{Block}
use Rattle.record.specs.Layout.{data_rows, block_of, has_sync, reserved_clear}
use Rattle.record.specs.Rules.{fits_widths, keeps_rules, checked}
use Rattle.record.specs.Laws.{Formed}
use Rattle.record.proofs.Undoing.{encoding_undoes, decoding_undoes}
use Rattle.block.specs.Code.{rows_of, encoded, block_in, decoded, WellFormed, NoneNear, OnlyThese}

-- a test that refuses was passed
pub passed : {A : Type 0} (test : Bool) (fault : Fault) (rest : Result A Fault) → is_ok (refuse test fault rest) ≡ true → (test ≡ false) × (is_ok rest ≡ true)
passed true fault rest e = cc
passed false fault rest e = (refl, e)

-- what is accepted is well formed, and the answer is the block that the rows spell
module _ (rows : List ℕ) where
  formed_if_accepted : is_ok (decoded rows) ≡ true → WellFormed rows
  formed_if_accepted e = let d = fitting_decides rows in grind (arith, nat_tests)

  pub accepted_if_formed : WellFormed rows → decoded rows ≡ Ok (block_in rows)
  accepted_if_formed w = let d = fitting_decides rows in grind (arith, nat_tests)

  pub accepts : Decides (is_ok (decoded rows)) (WellFormed rows)
  accepts = (formed_if_accepted, λ w. rw (accepted_if_formed w))

-- 14 narrow rows, as the record's laws want them
data_formed : (rows : List ℕ) → Rows 16 rows → WellFormed rows → Formed (take 14 rows)
data_formed rows k w =
    let f = first_rows rows k in
    record { count = f.long; narrow = All-from_get_or (λ row. row < 2 ^ 16) (take 14 rows) 0 (λ i h. f.narrow i (omega (arith, f.long))); sync = w.sync; reserved = w.reserved }

-- what a record's check says of it
pub checked_ok : (b : Block) → checked b.«record» ≡ Ok tt → (fits_widths b.«record» ≡ true) × (keeps_rules b.«record» ≡ true)
checked_ok b e = (grind (arith, nat_tests), grind (arith, nat_tests))

checked_kept : (b : Block) → fits_widths b.«record» ≡ true → keeps_rules b.«record» ≡ true → checked b.«record» ≡ Ok tt
checked_kept b f k = rw (f, k)

-- encoding undoes decoding
pub encoded_back : (rows : List ℕ) → Rows 16 rows → WellFormed rows → encoded (block_in rows) ≡ Ok rows
encoded_back rows k w =
    let u = encoding_undoes (take 14 rows) (data_formed rows k w) in
    let e = checked_from_fits rows k w.check in
    ap (λ r. then r (λ _. Ok (rows_of (block_in rows)))) (checked_kept (block_in rows) u.0.widths w.rules) ∙ ap (λ d. Ok (with_check d)) u.1 ∙ ap Ok (sym e)

-- decoding what was encoded
module _ (b : Block) (f : Formed (data_rows b)) (u : block_of (data_rows b) ≡ b) (k : keeps_rules b.«record» ≡ true) where
  long : length (data_rows b) ≡ 14
  long = f.count

  data_back : take 14 (rows_of b) ≡ data_rows b
  data_back = ap (λ m. take m (rows_of b)) (sym long) ∙ take-append_seam (data_rows b) _

  whole : Rows 16 (rows_of b) × CheckFits (rows_of b)
  whole = checked_fits (data_rows b) (record { long = long; narrow = λ i hi. All-get_or (λ row. row < 2 ^ 16) (data_rows b) i 0 (omega (arith, long)) f.narrow })

  block_back : block_in (rows_of b) ≡ b
  block_back = ap block_of data_back ∙ u

  well_formed : b.reference ≤ 65520 → WellFormed (rows_of b)
  well_formed h = record {
    sync = ap has_sync data_back ∙ f.sync;
    check = whole.1;
    reserved = ap reserved_clear data_back ∙ f.reserved;
    reference = subst (λ x. x.reference ≤ 65520) (sym block_back) h;
    rules = ap (λ x. keeps_rules x.«record») block_back ∙ k;
  }

  pub decoded_back : b.reference ≤ 65520 → decoded (rows_of b) ≡ Ok b
  decoded_back h = accepted_if_formed (rows_of b) (well_formed h) ∙ ap Ok block_back

  pub decoded_above : 65520 < b.reference → decoded (rows_of b) ≡ Err ReferenceRange
  decoded_above h =
      let s = ap has_sync data_back ∙ f.sync in
      let c = (fitting_decides (rows_of b)).1 whole.1 in
      let r = ap reserved_clear data_back ∙ f.reserved in
      let e = ap (λ x. x.reference) block_back in
      grind (arith, nat_tests)

-- a block whose record is accepted and whose numbers fit: its rows are well formed, and decoding gives it back
pub record Sound (b : Block) : Type 0 where
  pub sixteen : Rows 16 (rows_of b)
  pub formed : WellFormed (rows_of b)
  pub back : decoded (rows_of b) ≡ Ok b

pub sound : (b : Block) → checked b.«record» ≡ Ok tt → b.reference ≤ 65520 → b.element < 2 ^ 32 → Sound b
sound b e r n =
    let k = checked_ok b e in
    let u = decoding_undoes b (record { widths = k.0; reference = omega arith; element = n }) in
    record {
      sixteen = (whole b u.0 u.1 k.1).0;
      formed = well_formed b u.0 u.1 k.1 r;
      back = decoded_back b u.0 u.1 k.1 r;
    }

-- rows near those that fit are refused
near : (rows : List ℕ) → Rows 16 rows → CheckFits rows → NoneNear rows
near rows k c others n ko hn a d =
    elim (cases_Bool (is_ok (decoded others))) [
      | inl t ↦ absurd (burst_never_passes rows k c others n ko hn a d ((accepts others).0 t).check)
      | inr f ↦ f
    ]

-- the burst law, and that no other rows spell the block
module _ (rows : List ℕ) (k : Rows 16 rows) (w : WellFormed rows) where
  pub none_near : NoneNear rows
  none_near = near rows k w.check

  pub only_these : OnlyThese rows (block_in rows)
  only_these others ko e =
      let wo : WellFormed others = (accepts others).0 (ap is_ok e) in
      let same : block_in others ≡ block_in rows = cc (accepted_if_formed others wo, e) in
      let two : Ok rows ≡ Ok others = sym (encoded_back rows k w) ∙ ap encoded (sym same) ∙ encoded_back others ko wo in
      sym cc

-- what holds of well-formed rows holds of what is accepted
pub of_accepted : (rows : List ℕ) (r : Result Block Fault) → r ≡ decoded rows → (P : Block → Type 0) → (WellFormed rows → P (block_in rows)) → IfOk r P
of_accepted rows (Err fault) e P h = tt
of_accepted rows (Ok b) e P h =
    let w : WellFormed rows = (accepts rows).0 (ap is_ok (sym e)) in
    let same : block_in rows ≡ b = cc (accepted_if_formed rows w, e) in
    subst P same (h w)

checked_if_encoded : (b : Block) (rows : List ℕ) → Ok rows ≡ encoded b → checked b.«record» ≡ Ok tt
checked_if_encoded b rows e = grind (arith, nat_tests)

encoded_case : (b : Block) (r : Result (List ℕ) Fault) → r ≡ encoded b → IfOk r (λ _. Formed (data_rows b) × (block_of (data_rows b) ≡ b)) → (P : List ℕ → Type 0) → (Formed (data_rows b) → block_of (data_rows b) ≡ b → keeps_rules b.«record» ≡ true → P (rows_of b)) → IfOk r P
encoded_case b (Err fault) e s P h = tt
encoded_case b (Ok rows) e s P h =
    let k : checked b.«record» ≡ Ok tt = checked_if_encoded b rows e in
    let same : rows ≡ rows_of b = cc (e, ap (λ x. then x (λ _. Ok (rows_of b))) k) in
    subst P (sym same) (h s.0 s.1 (checked_ok b k).1)

-- what is encoded, by the rows that its record's crate promises
module _ (b : Block) (r : Result (List ℕ) Fault) (e : r ≡ encoded b) (spelt : IfOk r (λ _. Formed (data_rows b) × (block_of (data_rows b) ≡ b))) where
  of_encoded : (P : List ℕ → Type 0) → (Formed (data_rows b) → block_of (data_rows b) ≡ b → keeps_rules b.«record» ≡ true → P (rows_of b)) → IfOk r P
  of_encoded P h = encoded_case b r e spelt P h

  pub encoded_decodes : b.reference ≤ 65520 → IfOk r (λ rows. decoded rows ≡ Ok b)
  encoded_decodes n = of_encoded (λ rows. decoded rows ≡ Ok b) (λ f u k. decoded_back b f u k n)

  pub encoded_above : 65520 < b.reference → IfOk r (λ rows. decoded rows ≡ Err ReferenceRange)
  encoded_above n = of_encoded (λ rows. decoded rows ≡ Err ReferenceRange) (λ f u k. decoded_above b f u k n)

  pub encoded_near : IfOk r NoneNear
  encoded_near = of_encoded NoneNear (λ f u k. near (rows_of b) (whole b f u k).0 (whole b f u k).1)
