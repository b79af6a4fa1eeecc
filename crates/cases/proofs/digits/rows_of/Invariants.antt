use Rattle.std.proofs.Common.{◌≡◌, ◌+◌, ◌*◌, ◌++◌, length, take}
use Rattle.std.specs.List.{list_all}
use Rattle.std.specs.Str.Iter.{bytes_rest}
use Rattle.cases.specs.Digits.{is_hex, rows_in}
use Rattle.cases.proofs.digits.rows_of.Given as goal

-- four digits were taken for each row so far, and they spell it
abbrev pub invariant-loop-row : goal.invariant-loop-row
invariant-loop-row l = record {
  rows : rows_in l.fn.text ≡ take l.row-index l.row-items ++ rows_in (bytes_rest l.digits);
  taken : length l.fn.text ≡ 4 * l.row-index + length (bytes_rest l.digits);
  hex : list_all is_hex l.fn.text ≡ list_all is_hex (bytes_rest l.digits);
}
