-- Counts, which stay at the greatest u64 once they stand there.
use Rattle.std.specs.Prelude.{◌≡◌, ℕ, ◌+◌, ◌^◌, ◌-◌, ◌<◌, ◌≤◌, min}

-- the count rose, or it stood at the greatest u64
abbrev pub Rose : ℕ → ℕ → Type 0
Rose before after = before < 2 ^ 64 - 1 → before < after

-- the count rose where this holds, and else it stays
pub record RoseWhere (Holds : Type 0) (before after : ℕ) : Type 0 where
  pub least : before ≤ after
  pub rose : Holds → Rose before after
  pub kept : (Holds → ⊥) → after ≡ before

-- one more, where a u64 can hold it
abbrev pub next : ℕ → ℕ
next n = min (n + 1) (2 ^ 64 - 1)

-- the count rose by one where this holds, and else it stays
pub record Counts (Holds : Type 0) (before after : ℕ) : Type 0 where
  pub counted : Holds → after ≡ next before
  pub kept : (Holds → ⊥) → after ≡ before
