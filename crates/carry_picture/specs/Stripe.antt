-- The slab of a stripe of the picture, once records are placed on its macroblocks.
use Rattle.std.specs.Prelude.{ℕ, List}
use Rattle.buffer.specs.Packed.{packed_at}
use Rattle.bench.specs.Stripe.{Laden}
use Rattle.carry_picture.specs.Content.{block_at}

-- from the first to the second bytes, all macroblocks of the stripe got their blocks, and nothing else moved
abbrev pub LadenSlab : ℕ → List ℕ → List ℕ → Type 0
LadenSlab stripe before after = Laden block_at stripe 1440 45 (packed_at before 1440) (packed_at after 1440)
