-- Each block is written in its column, and what the column carries is read.
use Rattle.std.proofs.Common.{◌≡◌, ℕ, ◌<◌, Ok, ap, arith}
use Rattle.std.proofs.lemmas.Bool.Decides.{nat_tests}
use Rattle.column.specs.Column.{within, carried_rows}
use Rattle.block.specs.Code.{decoded}
use Rattle.fault.specs.Refusing.{done}
use Rattle.block.specs.Slab.{readable, writable}
use Rattle.carry.specs.Content.{block_at, position}
use Rattle.carry.proofs.Contents.{written_at}

-- a slab of 45 columns holds the column, so reading it is decoding what it carries
pub read_inside : (rows words c : ℕ) (at : ℕ → ℕ → ℕ) → rows ≡ 16 → words ≡ 1440 → c < 45 → readable rows words c at ≡ decoded (carried_rows at c)
read_inside rows words c at er ew h =
    let t : within rows words c (carried_rows at c) ≡ Ok (carried_rows at c) = grind (arith, nat_tests) in rw t

-- each block of the bench picture is written
pub writes : (rows words s c : ℕ) → rows ≡ 16 → words ≡ 1440 → s < 3 → c < 45 → done (writable rows words c (block_at (position s c))) ≡ Ok tt
writes rows words s c er ew hs hc =
    let t : within {A = Unit {0}} rows words c tt ≡ Ok tt = grind (arith, nat_tests) in
    rw t (ap done (written_at (position s c) (omega arith)))
