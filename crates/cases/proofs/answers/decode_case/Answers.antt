use Rattle.std.proofs.Common.{rules, map, pos}
use Rattle.cases.specs.Words.{left, row_forms}
use Rattle.cases.proofs.Spelling.{spells_whole}
use Rattle.cases.proofs.answers.decode_case.Goals as goal

pub returns-in_err-decode : goal.returns-in_err-decode
returns-in_err-decode c =
    let held = spells_whole row_forms (left c.args.case.now) (map pos c.in_ok-rows.rows) c.in_ok-rows.ensures.accepts c.in_ok-rows.ensures.rows in
    search rules
