use Rattle.std.proofs.Common.{◌∙◌, rules}
use Rattle.crc.proofs.Runs.{one_on, at_the_end}
use Rattle.crc.proofs.register.check.Goals as goal

pub loop-symbol-preserved : goal.loop-symbol-preserved
loop-symbol-preserved g c =
    one_on g.S.Symbol.bits g.S.Symbol.all_bits g.met.S.Symbol.more c.loop-symbol.register c.enter-register.result c.args.message.now c.loop-symbol.symbol-index c.symbol-item.result (search rules) c.symbol-item.is c.enter-register.ensures ∙ c.loop-symbol.invariant

pub returns : goal.returns
returns g c =
    at_the_end g.S.Symbol.bits g.S.Symbol.all_bits g.met.S.Symbol.none c.loop-symbol.register c.args.message.now c.loop-symbol.symbol-index (search rules) ∙ c.loop-symbol.invariant
