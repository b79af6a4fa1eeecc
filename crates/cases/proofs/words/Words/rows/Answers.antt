use Rattle.std.proofs.Common.{◌∙◌, ◌++◌, take, arith, sym, ap, map, pos, take_all, append-nil}
use Rattle.cases.specs.Words.{left}
use Rattle.cases.proofs.Spelling.{rows_spelt, rows_numbers, rows_after, rows_whole}
use Rattle.cases.proofs.words.Words.rows.Goals as goal

pub loop-row-preserved : goal.loop-row-preserved
loop-row-preserved c =
    let before = c.loop-row.invariant in
    let row = c.in_ok-row.ensures in
    record {
      spelt = before.spelt ∙ rows_spelt _ _ _ c.loop-row-test.true row.accepts row.rest;
      numbers = before.numbers ∙ rows_numbers _ _ _ _ _ c.loop-row-test.true (omega arith) row.number row.rest;
      after = before.after ∙ rows_after _ _ _ c.loop-row-test.true row.rest;
    }

pub returns-in_err-end-clause-accepts : goal.returns-in_err-end-clause-accepts
returns-in_err-end-clause-accepts c =
    let whole = rows_whole _ (left c.loop-row.self) c.loop-row-test.false in
    let before = c.loop-row.invariant in
    grind (arith, whole, before)

pub returns-clause-accepts : goal.returns-clause-accepts
returns-clause-accepts c =
    let whole = rows_whole _ (left c.loop-row.self) c.loop-row-test.false in
    grind (arith, whole)

pub returns-clause-rows : goal.returns-clause-rows
returns-clause-rows c =
    let whole = rows_whole _ (left c.loop-row.self) c.loop-row-test.false in
    sym (c.loop-row.invariant.numbers ∙ ap (λ ns. map pos (take c.loop-row.row-index c.loop-row.row-items) ++ ns) whole.1 ∙ append-nil _ ∙ ap (map pos) (take_all _ _ (omega arith)))
