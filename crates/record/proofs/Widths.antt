-- The test of a record's widths, component by component.
use Rattle.std.proofs.Common.{◌≡◌, true, rules}
use Rattle.record.specs.declared.record.Record.{Record}
use Rattle.record.specs.Rules.{fits_widths, Within}

-- what the code may use once the record has passed
pub within : (r : Record) → fits_widths r ≡ true → Within r
unfolding fits_widths
within r h = search rules

-- and back: what is within each width passes
pub passes : (r : Record) → Within r → fits_widths r ≡ true
unfolding fits_widths
passes r h = search rules
