use Rattle.std.proofs.Common.{◌≡◌, ◌%◌, ◌∙◌, ap, subst, sym, true, false, rules, length, refl, arith}
use Rattle.cases.specs.Digits.{are_pairs, bytes_in}
use Rattle.cases.proofs.Pairs.{bytes_of_all, hex_of_all, not_pairs_at}
use Rattle.cases.proofs.digits.bytes_of.Goals as goal

pub returns-clause-value : goal.returns-clause-value
returns-clause-value c =
    c.loop-pair.invariant.spelled
    ∙ bytes_of_all c.as_bytes.result.now _ _ c.loop-pair-test.false c.as_chunks.ensures.front
    ∙ ap bytes_in c.as_bytes.ensures.value

pub returns-clause-pairs : goal.returns-clause-pairs
returns-clause-pairs c =
    let none : length c.as_chunks.result.1.now ≡ 0 = ap length (c.in_ok-none_left.ensures.0 refl) in
    let even : length c.as_bytes.result.now % 2 ≡ 0 = sym c.as_chunks.ensures.back_len ∙ none in
    let hex = hex_of_all c.as_bytes.result.now _ _ c.loop-pair-test.false c.as_chunks.ensures.front even c.loop-pair.invariant.hex in
    subst (λ text. are_pairs text ≡ true) c.as_bytes.ensures.value (grind (arith, even, hex))

pub returns-in_err-byte_of-clause-stop : goal.returns-in_err-byte_of-clause-stop
returns-in_err-byte_of-clause-stop c =
    let failing = not_pairs_at c.as_bytes.result.now _ _ _ c.as_chunks.ensures.front c.loop-pair-test.true (sym c.in_err-byte_of.ensures.digits) in
    let none = subst (λ text. are_pairs text ≡ false) c.as_bytes.ensures.value failing in
    search rules
