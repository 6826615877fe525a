-- What is found of the order of sorts.
use Rattle.std.specs.Prelude.{ℕ, ◌<◌}
use Rattle.sx_grammar.specs.declared.sort_ranks.SortOrder.{SortOrder}
use Rattle.sx_grammar.specs.declared.sort_ranks.SortOrder.TheVariants.{Ranked, Cyclic}
use Rattle.sx_grammar.specs.Grammar.{Grammar}
use Rattle.sx_grammar.specs.Cyclic.{IsCyclic}
use Rattle.sx_grammar.specs.Order.{AreRanks}

-- the sorts are ranked, or this is the first of them that derives itself
abbrev pub IsSortOrder : Grammar → ℕ → SortOrder → Type 0
IsSortOrder g sorts (Ranked ranks) = AreRanks g ranks.items
IsSortOrder g sorts (Cyclic sort) = (sort < sorts) × IsCyclic g sort ×
    ((other : ℕ) → other < sort → ¬ (IsCyclic g other))
