-- Why a case ends early.
use Rattle.std.specs.Prelude.{◌≡◌, ⊤, Bool, false}
use Rattle.cases.specs.declared.stop.Stop.{Stop}
use Rattle.cases.specs.declared.stop.Stop.TheVariants.{Refused, Broken, NoMemory}

-- The words of a case were not read: what they had to be, they are not, or there was no memory. No call was made, so none refused.
abbrev pub Unread : Bool → Stop → Type 0
Unread spelt (Refused fault) = ⊥
Unread spelt (Broken error) = spelt ≡ false
Unread spelt NoMemory = ⊤
