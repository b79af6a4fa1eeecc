-- Where all are read, every column counts.
use Rattle.std.proofs.Common.{ℕ, Ok, ap, ◌∙◌}
use Rattle.raster.specs.Difference.{differing}
use Rattle.buffer.specs.Packed.{packed_at}
use Rattle.bench.proofs.Stripes.{count_all}
use Rattle.bench.proofs.carry.stripe_line.Goals as goal

pub returns-clause-all : goal.returns-clause-all
returns-clause-all g c = λ all.
    let at = packed_at c.args.after.now.bytes.items 1440 in
    let moved = differing (packed_at c.args.before.now.bytes.items 1440) at 16 1440 in
    c.counted.ensures.answer ∙ ap (λ (n : ℕ). Ok (record { stripe = c.args.stripe.number; moved = moved; read = n })) (count_all g.C.Reader.block at c.args.stripe.number 45 all)
