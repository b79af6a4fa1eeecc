use Rattle.std.proofs.Common.{◌≡◌, ◌-◌, ◌++◌, map, replicate, take, pos}
use Rattle.cases.specs.Words.{spelt, numbers_in, words_after, left, row_forms, unsigned}
use Rattle.cases.proofs.words.Words.rows.Given as goal

-- the words that are left are to spell the rows that are to come
abbrev pub invariant-loop-row : goal.invariant-loop-row
invariant-loop-row l =
    let forms = replicate (16 - l.row-index) (unsigned 16 16) in
    record {
      spelt : spelt row_forms (left l.fn.self) ≡ spelt forms (left l.self);
      numbers : numbers_in row_forms (left l.fn.self) ≡ map pos (take l.row-index l.row-items) ++ numbers_in forms (left l.self);
      after : words_after row_forms (left l.fn.self) ≡ words_after forms (left l.self);
    }
