-- The checker computes it.
use Rattle.std.proofs.Common.{refl, ◌∙◌}
use Rattle.crc.specs.Register.{run, word_bits, bits_of}
use Rattle.crc.proofs.register.known_check.Goals as goal

pub returns-clause-known : goal.returns-clause-known
unfolding run word_bits bits_of
returns-clause-known c = c.of_digits.ensures ∙ refl
