-- Hashes of numbers.
use Rattle.std.specs.Prelude.{ℕ, ◌+◌, ◌*◌, ◌/◌, ◌%◌, ◌^◌}

-- one number of what was mixed before and one more
unfoldable pub mixed_with : ℕ → ℕ → ℕ
mixed_with before number = ((before * 11400714819323198485) % 2 ^ 64 + number) % 2 ^ 64

-- a hash of what was mixed: the upper half of it, mixed once more
unfoldable pub folded : ℕ → ℕ
folded mixed = mixed_with mixed 0 / 2 ^ 32
