-- Which sizes a buffer may have.
use Rattle.std.specs.Prelude.{ℕ, ◌*◌, ◌/◌, ◌%◌, Bool, cond, ◌&&◌, Ok, Err, Result, ◌==◌, nat_le}
use Rattle.fault.specs.declared.Fault.{Fault}
use Rattle.fault.specs.declared.Fault.TheVariants.{Size}
use Rattle.raster.specs.declared.extent.Extent.{Extent}

-- 1 to 1,088 rows of 4 to 3,840 words, the words a multiple of 4
abbrev pub lawful : Extent → Bool
lawful e = nat_le 1 e.rows && nat_le e.rows 1088 && nat_le 4 e.words && nat_le e.words 3840 && e.words % 4 == 0

-- the sixteen-bit cells that a word buffer needs, and the bytes that a packed buffer needs
abbrev pub cells_of : Extent → ℕ
cells_of e = e.rows * e.words

abbrev pub bytes_of : Extent → ℕ
bytes_of e = e.rows * (e.words / 4) * 5

-- the size check: memory of length n, where n₀ is needed
abbrev pub fits : Extent → ℕ → ℕ → Bool
fits e n₀ n = lawful e && n == n₀

abbrev pub sized : Extent → ℕ → ℕ → Result (Unit {0}) Fault
sized e n₀ n = cond (fits e n₀ n) (Ok tt) (Err Size)

-- the extent that a buffer then has
abbrev pub granted : Extent → ℕ → ℕ → Extent
granted e n₀ n = cond (fits e n₀ n) e (record { rows = 0; words = 0 })
