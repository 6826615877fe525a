-- Laws of the sample module.
use Rattle.std.specs.Prelude.{◌≡◌, ℕ, ◌+◌, ◌*◌, length}
use Rattle.sx_sample.specs.Samples.{sample_tokens}

-- its body has five tokens for each name, and one more
abbrev pub TokensAreCounted : Type 0
TokensAreCounted = (n : ℕ) → length (sample_tokens n) ≡ 5 * n + 1
