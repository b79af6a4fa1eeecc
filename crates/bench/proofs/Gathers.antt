-- A slab is gathered as its memory shows it.
use Rattle.std.proofs.Common.{◌≡◌, ℕ, zero, suc, ◌≤◌, List, length, Result, refl, ◌∙◌}
use Rattle.fault.specs.declared.Fault.{Fault}
use Rattle.raster.specs.declared.extent.Extent.{Extent}
use Rattle.buffer.specs.Packed.{packed_at}
use Rattle.record.specs.declared.record.Record.{Record}
use Rattle.record.specs.declared.record.Block.{Block}
use Rattle.slots.specs.declared.slot.Slot.{Slot}
use Rattle.extractor.specs.declared.gathering.Gathering.{Gathering}
use Rattle.extractor.specs.Gather.{gathered}
use Rattle.tally.specs.Stripe.{tallied, elements_offered, records_offered}
use Rattle.tally.specs.declared.kind.Kind.TheVariants.{Good}
use Rattle.tally.proofs.Stripes.{count_below, elements_length}
use Rattle.bench.specs.Gather.{answers_in, tally_in, table_after, sheet_after}

-- what a gather answers of each column of a packed slab
abbrev pub answers : Gathering → ℕ → Extent → List ℕ → ℕ → ℕ → ℕ → Result Block Fault
answers g stripe e m slots sheet column = gathered g stripe column e.rows e.words (packed_at m e.words) slots sheet

module _
    (stripe : ℕ) (g g' : Gathering) (slots slots' : ℕ) (e e' : Extent) (m m' : List ℕ) (n n' : ℕ)
    (pg : g ≡ g') (pt : slots ≡ slots') (pe : e ≡ e') (pm : m ≡ m') (pn : n ≡ n') where
  pub tally_as : tallied (answers g stripe e m slots n) n ≡ tallied (answers g' stripe e' m' slots' n') n'
  tally_as = rw (pg, pt, pe, pm, pn)

  pub elements_as : (table : List (Slot ℕ)) → elements_offered (answers g stripe e m slots n) stripe n table ≡ elements_offered (answers g' stripe e' m' slots' n') stripe n' table
  elements_as table = rw (pg, pt, pe, pm, pn)

  pub records_as : (sheet sheet' : List (Slot Record)) → sheet ≡ sheet' → records_offered (answers g stripe e m slots n) n sheet ≡ records_offered (answers g' stripe e' m' slots' n') n' sheet'
  records_as sheet sheet' ps = rw (pg, pt, pe, pm, pn, ps)

-- a stripe leaves as many slots as there were
pub length_offered : (said : ℕ → Result Block Fault) (stripe n : ℕ) (table : List (Slot ℕ)) → length (elements_offered said stripe n table) ≡ length table
unfolding elements_offered
length_offered said stripe zero table = refl
length_offered said stripe (suc n) table = elements_length (said n) stripe n (elements_offered said stripe n table) ∙ length_offered said stripe n table

-- no more gathers of a stripe are accepted than its sheet has slots
pub few_good : (g : Gathering) (stripe : ℕ) (memory : List ℕ) (slots sheet : ℕ) → (tally_in g stripe memory slots sheet).good ≤ sheet
unfolding tally_in
few_good g stripe memory slots sheet = count_below (answers_in g stripe memory slots sheet) Good sheet

-- the table and the sheet after the first n stripes
abbrev pub tables : Gathering → (ℕ → List ℕ) → ℕ → List (Slot ℕ) → ℕ → List (Slot ℕ)
tables g memory sheet table zero = table
tables g memory sheet table (suc n) = table_after g n (memory n) sheet (tables g memory sheet table n)

abbrev pub sheets : Gathering → (ℕ → List ℕ) → ℕ → List (Slot Record) → ℕ → List (Slot Record)
sheets g memory slots sheet zero = sheet
sheets g memory slots sheet (suc n) = sheet_after g n (memory n) slots (sheets g memory slots sheet n)
