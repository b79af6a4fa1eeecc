-- The flags so far, joined.
use Rattle.std.proofs.Common.{◌≡◌, ◌+◌, ◌*◌, ◌^◌, ◌<◌, take, fold}
use Rattle.record.specs.Layout.{bit}
use Rattle.record.proofs.encode.joined.Given as goal

abbrev pub invariant-loop-flag : goal.invariant-loop-flag
invariant-loop-flag g l =
    record { value : l.number ≡ fold (λ number flag. number * 2 + bit flag) 0 (take l.flag-index l.fn.flags); small : l.number < 2 ^ l.flag-index }
