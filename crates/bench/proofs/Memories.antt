-- The memories of slabs, one of which is set.
use Rattle.std.proofs.Common.{◌≡◌, ℕ, ◌<◌, List, [], length, slice_index_or, slice_set, ap, ◌∙◌, ◌≢◌}
use Rattle.std.proofs.lemmas.List.{length-set, map-set, get_or-map, get_or-set_same, get_or-set_other}
use Rattle.bench.specs.declared.slabs.Slab.{Slab}
use Rattle.bench.specs.Memory.{memories}

abbrev bytes_of : Slab → List ℕ
bytes_of slab = slab.bytes.items

-- the bytes of a slab that is there
pub memory_at : (slabs : List Slab) (k : ℕ) (d : Slab) → k < length slabs → slice_index_or (memories slabs) k [] ≡ (slice_index_or slabs k d).bytes.items
memory_at slabs k d h = get_or-map bytes_of slabs k d [] h

pub memory_set : (slabs : List Slab) (n : ℕ) (x : Slab) → n < length slabs → slice_index_or (memories (slice_set slabs n x)) n [] ≡ x.bytes.items
memory_set slabs n x h = memory_at (slice_set slabs n x) n x (rw (length-set slabs n x) h) ∙ ap bytes_of (get_or-set_same slabs n x x h)

pub memory_beside : (slabs : List Slab) (n k : ℕ) (x : Slab) → k ≢ n → slice_index_or (memories (slice_set slabs n x)) k [] ≡ slice_index_or (memories slabs) k []
memory_beside slabs n k x d = ap (λ m. slice_index_or m k []) (map-set bytes_of slabs n x) ∙ get_or-set_other (memories slabs) n k x.bytes.items [] d
