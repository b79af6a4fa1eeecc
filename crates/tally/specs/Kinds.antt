-- What came of gathering a macroblock: good is an acceptance, foreign the refusal 19, bad any other refusal.
use Rattle.std.specs.Prelude.{◌≡◌, ℕ, Bool, true, false, cond, List, [], ◌∷◌, length, Ok, Err, Result, ◌==◌, slice_index_or}
use Rattle.fault.specs.declared.Fault.{Fault}
use Rattle.fault.specs.Table.{number_of}
use Rattle.record.specs.declared.record.Block.{Block}
use Rattle.tally.specs.declared.kind.Kind.{Kind}
use Rattle.tally.specs.declared.kind.Kind.TheVariants.{Good, Foreign, Bad}

-- all of them
abbrev pub kinds : List Kind
kinds = Good ∷ Foreign ∷ Bad ∷ []

abbrev pub place_of : Kind → ℕ
place_of Good = 0
place_of Foreign = 1
place_of Bad = 2

-- there are three, and each stands at its place
pub record Listed : Type 0 where
  pub three : length kinds ≡ 3
  pub each : (k : Kind) → slice_index_or kinds (place_of k) Good ≡ k

abbrev pub kind_of : Result Block Fault → Kind
kind_of (Ok b) = Good
kind_of (Err fault) = cond (number_of fault == 19) Foreign Bad

abbrev pub same_kind : Kind → Kind → Bool
same_kind Good Good = true
same_kind Good Foreign = false
same_kind Good Bad = false
same_kind Foreign Good = false
same_kind Foreign Foreign = true
same_kind Foreign Bad = false
same_kind Bad Good = false
same_kind Bad Foreign = false
same_kind Bad Bad = true
