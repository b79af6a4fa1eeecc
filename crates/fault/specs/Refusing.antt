-- What a refusal does to an answer.
use Rattle.std.specs.Prelude.{Bool, cond, Ok, Err, Result}
use Rattle.fault.specs.declared.Fault.{Fault}

-- refuse if the test holds, else go on
abbrev pub refuse : {A : Type 0} → Bool → Fault → Result A Fault → Result A Fault
refuse test fault rest = cond test (Err fault) rest

-- go on with what was accepted
abbrev pub then : {A B : Type 0} → Result A Fault → (A → Result B Fault) → Result B Fault
then (Ok x) next = next x
then (Err fault) next = Err fault

-- done, where what was accepted is no part of the answer
abbrev pub done : {A : Type 0} → Result A Fault → Result (Unit {0}) Fault
done r = then r (λ _. Ok tt)
