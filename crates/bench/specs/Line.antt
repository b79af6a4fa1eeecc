-- The line that is printed of a stripe, and what it says.
use Rattle.std.specs.Prelude.{ℕ, List, ◌++◌, codes, decimal}
use Rattle.raster.specs.Difference.{differing}
use Rattle.buffer.specs.Packed.{packed_at}
use Rattle.bench.specs.declared.line.StripeLine.{StripeLine}

abbrev pub line_text : StripeLine → List ℕ
line_text l = codes "stripe " ++ (decimal l.stripe ++ (codes " moved " ++ (decimal l.moved ++ (codes " read " ++ decimal l.read))))

-- the line of a stripe, from the bytes of its slab before and after: all its 45 macroblocks are read
abbrev pub line_of : ℕ → List ℕ → List ℕ → StripeLine
line_of stripe before after = record { stripe = stripe; moved = differing (packed_at before 1440) (packed_at after 1440) 16 1440; read = 45 }
