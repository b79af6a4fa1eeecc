use Rattle.std.proofs.Common.{◌≡◌, true, map, take}
use Rattle.std.specs.List.{list_all}
use Rattle.cases.specs.Digits.{byte_in, hex_pair}
use Rattle.cases.proofs.digits.bytes_of.Given as goal

-- a byte for each pair so far, both digits of which are hex
abbrev pub invariant-loop-pair : goal.invariant-loop-pair
invariant-loop-pair l = record {
  spelled : l.bytes.items ≡ map byte_in (take l.pair-index l.pairs);
  hex : list_all hex_pair (take l.pair-index l.pairs) ≡ true;
}
