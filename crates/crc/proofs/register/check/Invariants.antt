-- The register over the symbols that are left ends at the check.
use Rattle.std.proofs.Common.{◌≡◌, drop}
use Rattle.crc.specs.Register.{run, check_of}
use Rattle.crc.proofs.register.check.Given as goal

abbrev pub invariant-loop-symbol : goal.invariant-loop-symbol
invariant-loop-symbol g l = run l.register (g.S.Symbol.all_bits (drop l.symbol-index l.message)) ≡ check_of (g.S.Symbol.all_bits l.message)
