-- One column more.
use Rattle.std.proofs.Common.{◌≡◌, ℕ, zero, suc, ◌+◌, ◌≤◌, cond, List, length, Ok, Err, Result, refl, add-one, arith, length-set}
use Rattle.std.proofs.lemmas.Bool.Decides.{nat_tests}
use Rattle.fault.specs.declared.Fault.{Fault}
use Rattle.record.specs.declared.record.Record.{Record}
use Rattle.record.specs.declared.record.Block.{Block}
use Rattle.slots.specs.declared.slot.Slot.{Slot}
use Rattle.extractor.specs.Gather.{settled, elements_after, sheet_after}
use Rattle.tally.specs.declared.kind.Kind.{Kind}
use Rattle.tally.specs.declared.kind.Kind.TheVariants.{Good, Foreign, Bad}
use Rattle.tally.specs.declared.kind.Tally.{Tally}
use Rattle.tally.specs.Kinds.{kind_of, same_kind}
use Rattle.tally.specs.Stripe.{count_of, tallied, elements_offered, records_offered}

module _ (answers : ℕ → Result Block Fault) where
  pub count_none : (k : Kind) → count_of k answers 0 ≡ 0
  unfolding count_of
  count_none k = refl

  pub count_more : (k : Kind) (n : ℕ) → count_of k answers (n + 1) ≡ count_of k answers n + cond (same_kind (kind_of (answers n)) k) 1 0
  unfolding count_of
  count_more k n = rw (add-one n)

  pub count_below : (k : Kind) (n : ℕ) → count_of k answers n ≤ n
  count_below k zero = rw (count_none k) (omega arith)
  count_below k (suc n) =
      let h = count_below k n in
      let one : cond (same_kind (kind_of (answers n)) k) 1 0 ≤ 1 = grind (arith, nat_tests) in
      rw (← add-one n, count_more k n) (omega arith)

  pub elements_none : (stripe : ℕ) (slots : List (Slot ℕ)) → elements_offered answers stripe 0 slots ≡ slots
  unfolding elements_offered
  elements_none stripe slots = refl

  pub elements_more : (stripe n : ℕ) (slots : List (Slot ℕ)) → elements_offered answers stripe (n + 1) slots ≡ settled (answers n) (elements_offered answers stripe n slots) (elements_after stripe n (elements_offered answers stripe n slots))
  unfolding elements_offered
  elements_more stripe n slots = rw (add-one n)

  pub records_none : (sheet : List (Slot Record)) → records_offered answers 0 sheet ≡ sheet
  unfolding records_offered
  records_none sheet = refl

  pub records_more : (n : ℕ) (sheet : List (Slot Record)) → records_offered answers (n + 1) sheet ≡ settled (answers n) (records_offered answers n sheet) (sheet_after n (records_offered answers n sheet))
  unfolding records_offered
  records_more n sheet = rw (add-one n)

-- a gather leaves as many slots as there were
pub elements_length : (r : Result Block Fault) (stripe column : ℕ) (slots : List (Slot ℕ)) → length (settled r slots (elements_after stripe column slots)) ≡ length slots
elements_length (Ok b) stripe column slots = length-set slots _ _
elements_length (Err fault) stripe column slots = refl

pub records_length : (r : Result Block Fault) (column : ℕ) (sheet : List (Slot Record)) → length (settled r sheet (sheet_after column sheet)) ≡ length sheet
records_length (Ok b) column sheet = length-set sheet _ _
records_length (Err fault) column sheet = refl

-- the three counts, before the first column and after one more
module _ (answers : ℕ → Result Block Fault) where
  pub tallied_none : tallied answers 0 ≡ record { good = 0; foreign = 0; bad = 0 }
  tallied_none = rw (count_none answers Good, count_none answers Foreign, count_none answers Bad)

  pub tallied_more : (n : ℕ) (t : Tally) (r : Result Block Fault) (k : Kind) → t ≡ tallied answers n → r ≡ answers n → k ≡ kind_of r → record { good = t.good + cond (same_kind k Good) 1 0; foreign = t.foreign + cond (same_kind k Foreign) 1 0; bad = t.bad + cond (same_kind k Bad) 1 0 } ≡ tallied answers (n + 1)
  tallied_more n t r k et er ek = rw (ek, er, et, count_more answers Good n, count_more answers Foreign n, count_more answers Bad n)
