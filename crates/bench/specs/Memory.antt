-- The memory of the three slabs.
use Rattle.std.specs.Prelude.{ℕ, List, [], map, slice_index_or}
use Rattle.bench.specs.declared.slabs.Slab.{Slab}
use Rattle.bench.specs.declared.slabs.Slabs.{Slabs}

-- the bytes of each slab
abbrev pub memories : List Slab → List (List ℕ)
memories slabs = map (λ (s : Slab). s.bytes.items) slabs

-- the bytes of a stripe's slab
abbrev pub memory_in : List Slab → ℕ → List ℕ
memory_in slabs stripe = slice_index_or (memories slabs) stripe []

abbrev pub memory : Slabs → ℕ → List ℕ
memory slabs = memory_in slabs.stripes
