-- That a gather refuses short bursts.
use Rattle.std.proofs.Common.{◌≡◌, ℕ, false, is_ok, Ok, Err, Result, refl}
use Rattle.fault.specs.declared.Fault.{Fault}
use Rattle.fault.specs.Refusing.{then}
use Rattle.column.specs.Column.{carried_rows}
use Rattle.block.specs.Code.{decoded}
use Rattle.extractor.specs.declared.gathering.Gathering.{Gathering}
use Rattle.extractor.specs.Reading.{BurstIn}
use Rattle.extractor.specs.Gather.{admitted, expected, gathered}
use Rattle.extractor.proofs.Readings.{near_refused}

-- nothing goes on from what is refused
then_refused : {A B : Type 0} (r : Result A Fault) (next : A → Result B Fault) → is_ok r ≡ false → is_ok (then r next) ≡ false
then_refused (Ok x) next e = cc
then_refused (Err fault) next e = refl

-- nor to what refuses all
then_refuses : {A B : Type 0} (r : Result A Fault) (next : A → Result B Fault) → ((x : A) → is_ok (next x) ≡ false) → is_ok (then r next) ≡ false
then_refuses (Ok x) next e = e x
then_refuses (Err fault) next e = refl

pub gathered_burst : (g : Gathering) (stripe column rows words : ℕ) (at : ℕ → ℕ → ℕ) (slots sheet : ℕ) → BurstIn (carried_rows at column) → is_ok (gathered g stripe column rows words at slots sheet) ≡ false
gathered_burst g stripe column rows words at slots sheet b =
    then_refuses (admitted g stripe column rows words slots sheet) (λ _. then (decoded (carried_rows at column)) (expected g stripe column))
    (λ _. then_refused (decoded (carried_rows at column)) (expected g stripe column) (near_refused at column b))
