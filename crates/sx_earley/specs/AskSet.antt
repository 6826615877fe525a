-- What is asked for, found by its hash.
use Rattle.std.specs.Prelude.{◌≡◌, ◌≤◌, ◌⊎◌, ◌↔◌, ℕ, List, Option, Some, None, IfSome, Contains}
use Rattle.sx_grammar.specs.Grammar.{Production}
use Rattle.sx_slots.specs.Mixed.{mixed_with, folded}
use Rattle.sx_earley.specs.declared.ask.Ask.{Ask}
use Rattle.sx_earley.specs.Chart.{IsOfSort}

-- the hash of what is asked for at any level
abbrev pub ask_hash : Ask → ℕ
ask_hash ask = folded (mixed_with ask.sort ask.place)

-- they ask for the same sort at the same place
abbrev pub IsBeside : Ask → Ask → Type 0
IsBeside x y = (x.place ≡ y.place) × (x.sort ≡ y.sort)

-- the level is no lower than the other, if there is one
abbrev pub IsLevelReached : Option ℕ → ℕ → Type 0
IsLevelReached None level = ⊥
IsLevelReached (Some least) level = least ≤ level

-- the next level reaches what the one before, or the other, if it is beside, reaches
abbrev pub IsLeastWithOther : Ask → Option ℕ → Ask → Option ℕ → Type 0
IsLeastWithOther ask least other next = (level : ℕ) → IsLevelReached next level
    ↔ (IsLevelReached least level ⊎ (IsBeside other ask × (other.least ≤ level)))

-- the least level asked for there, if there is one
pub record IsLeastLevel (asks : List Ask) (ask : Ask) (least : Option ℕ) : Type 0 where
  pub bound : (other : Ask) → Contains asks other → IsBeside other ask →
      IsLevelReached least other.least
  pub some : IfSome least (λ m.
      (other : Ask) × Contains asks other × IsBeside other ask × (other.least ≡ m))

-- the level is asked for, and was not before
abbrev pub IsNewLevel : Ask → Option ℕ → ℕ → Type 0
IsNewLevel ask before level = (ask.least ≤ level) × (IsLevelReached before level → ⊥)

-- the production is of the sort and at least of the level, if there is one
abbrev pub IsOfSortFrom : Option Production → ℕ → Option ℕ → Type 0
IsOfSortFrom p sort None = ⊥
IsOfSortFrom p sort (Some least) = IsOfSort p sort least
