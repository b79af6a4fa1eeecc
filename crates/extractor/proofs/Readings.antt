-- What reading accepts, and that it refuses short bursts.
use Rattle.std.proofs.Common.{◌≡◌, ℕ, ◌<◌, Bool, true, false, not, ltb, is_ok, Ok, Err, Decides, Result, refl, arith}
use Rattle.std.proofs.lemmas.Bool.Decides.{nat_tests}
use Rattle.fault.specs.declared.Fault.{Fault}
use Rattle.fault.specs.declared.Fault.TheVariants.{SlabExtent, NotInFormat}
use Rattle.fault.specs.Refusing.{refuse, then}
use Rattle.crc.specs.Burst.{Rows}
use Rattle.column.specs.Column.{carried_rows}
use Rattle.column.proofs.Spelled.{spelled_pow, carried_row_lem, carried_length}
use Rattle.block.specs.Code.{decoded, WellFormed}
use Rattle.block.proofs.Codes.{passed, not-false, accepts, accepted_if_formed, none_near}
use Rattle.format.specs.declared.table.Format.{Format}
use Rattle.format.specs.Formats.{accepted, columns_of, is_slab}
use Rattle.extractor.specs.Reading.{reading_in, reading, Readable, BurstIn}

-- a column carries 16 rows of 16 bits
pub carried_rows_lem : (at : ℕ → ℕ → ℕ) (column : ℕ) → Rows 16 (carried_rows at column)
carried_rows_lem at column = record {
  long = carried_length at column;
  narrow = λ i h. rw (carried_row_lem at column i h) (spelled_pow (at i) _ 16);
}

-- rows near those of a well-formed block are not decoded
pub near_refused : (at : ℕ → ℕ → ℕ) (column : ℕ) → BurstIn (carried_rows at column) → is_ok (decoded (carried_rows at column)) ≡ false
near_refused at column b = none_near b.sent b.sixteen b.formed (carried_rows at column) b.first (carried_rows_lem at column) b.near b.alike b.differs

-- what is refused later is refused
pub refused_on : {A : Type 0} (test : Bool) (fault : Fault) (rest : Result A Fault) → is_ok rest ≡ false → is_ok (refuse test fault rest) ≡ false
refused_on true fault rest e = refl
refused_on false fault rest e = e

module _ (column rows words : ℕ) (at : ℕ → ℕ → ℕ) where
  in_parts : (f : Format) → is_ok (reading_in f column rows words at) ≡ true → (is_slab f rows words ≡ true) × (column < columns_of f) × WellFormed (carried_rows at column)
  in_parts f e =
      let s = passed (not (is_slab f rows words)) _ _ e in
      let c = passed (not (ltb column (columns_of f))) _ _ s.1 in
      let h = not-false _ c.0 in
      (not-false _ s.0, grind (arith, nat_tests), (accepts (carried_rows at column)).0 c.1)

  in_accepted : (f : Format) → is_slab f rows words ≡ true → column < columns_of f → WellFormed (carried_rows at column) → is_ok (reading_in f column rows words at) ≡ true
  in_accepted f s h w =
      let c : ltb column (columns_of f) ≡ true = grind (arith, nat_tests) in
      rw (s, c, accepted_if_formed (carried_rows at column) w)

  in_burst : (f : Format) → BurstIn (carried_rows at column) → is_ok (reading_in f column rows words at) ≡ false
  in_burst f b =
      refused_on (not (is_slab f rows words)) SlabExtent
      (refuse (not (ltb column (columns_of f))) NotInFormat (decoded (carried_rows at column)))
      (refused_on (not (ltb column (columns_of f))) NotInFormat (decoded (carried_rows at column)) (near_refused at column b))

  -- by what the number gave
  readable : (number : ℕ) (a : Result Format Fault) → accepted number ≡ a → is_ok (then a (λ f. reading_in f column rows words at)) ≡ true → Readable number column rows words at
  readable number (Err fault) e h = absurd (let z : ◌≡◌ {A = ℕ} 0 1 = cc in omega arith)
  readable number (Ok f) e h =
      let p = in_parts f h in
      record { format = f; numbered = e; slab = p.0; column_there = p.1; formed = p.2 }

  burst : (a : Result Format Fault) → BurstIn (carried_rows at column) → is_ok (then a (λ f. reading_in f column rows words at)) ≡ false
  burst (Err fault) b = refl
  burst (Ok f) b = in_burst f b

  pub reading_accepts : (number : ℕ) → Decides (is_ok (reading number column rows words at)) (Readable number column rows words at)
  reading_accepts number = (readable number (accepted number) refl, λ k. rw k.numbered (in_accepted k.format k.slab k.column_there k.formed))

  pub reading_burst : (number : ℕ) → BurstIn (carried_rows at column) → is_ok (reading number column rows words at) ≡ false
  reading_burst number b = burst (accepted number) b
