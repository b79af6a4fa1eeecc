-- A slab of the bench picture.
use Rattle.std.specs.Prelude.{ℕ, ◌-◌, List, ◌++◌, length, take, replicate, min}
use Rattle.raster.specs.declared.extent.Extent.{Extent}
use Rattle.raster.specs.Difference.{differing}
use Rattle.buffer.specs.Packed.{packed_at}
use Rattle.buffer.specs.Size.{granted, bytes_of}

-- 16 rows of 1,440 words
abbrev pub slab_extent : Extent
slab_extent = record { rows = 16; words = 1440 }

-- the extent of the slab in packed memory: no rows and no words, if it has another number of bytes than a slab needs
abbrev pub extent_in : List ℕ → Extent
extent_in memory = granted slab_extent (bytes_of slab_extent) (length memory)

-- a slab of standard input: bytes that are missing count as 0
abbrev pub padded : ℕ → List ℕ → List ℕ
padded n bytes = take n bytes ++ replicate (n - length bytes) 0

-- how many words differ between the slabs in two memories
abbrev pub moved_in : List ℕ → List ℕ → ℕ
moved_in before after =
    let a = extent_in before in
    let b = extent_in after in
    differing (packed_at before a.words) (packed_at after b.words) (min a.rows b.rows) (min a.words b.words)
