-- Rows from the last to the first.
use Rattle.std.specs.Prelude.{ℕ, ◌-◌}

abbrev pub mirrored : ℕ → ℕ → ℕ
mirrored rows row = rows - 1 - row
