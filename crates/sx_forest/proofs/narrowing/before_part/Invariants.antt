use Rattle.std.proofs.Common.{◌≡◌, ◌+◌, ◌-◌, ◌<◌, ℕ}
use Rattle.sx_grammar.specs.Tally.{no_way}
use Rattle.sx_earley.specs.Shown.{plain}
use Rattle.sx_forest.specs.declared.entry.Maker.{Maker}
use Rattle.sx_forest.specs.Tallies.{ways_at}
use Rattle.sx_forest.specs.Rows.{FitsPart, IsIn}
use Rattle.sx_forest.specs.Reached.{HasReach, reaches_at}
use Rattle.sx_forest.proofs.narrowing.before_part.Given as goal

abbrev pub invariant-loop-number : goal.invariant-loop-number
invariant-loop-number l = (n : ℕ) (m : Maker) (p : ℕ) → n < l.number → (ways_at l.next.ways n ≡ no_way → ⊥) →
    HasReach (reaches_at l.table.starts.lists.items (l.next.end - (n + 1))) m p → FitsPart (plain l.grammar) m l.sort l.least → IsIn l.grown p
