use Rattle.std.proofs.Common.{ℕ, ◌<◌}
use Rattle.sx_grammar.specs.Grammar.{Grammar}
use Rattle.sx_grammar.specs.Cyclic.{IsCyclic}
use Rattle.sx_grammar.specs.Cycles.{AreStepsOf}
use Rattle.sx_grammar.proofs.cycle.first_cyclic.Given as goal

abbrev pub invariant-loop-sort : goal.invariant-loop-sort
invariant-loop-sort l = (g : Grammar) → AreStepsOf g l.steps → (other : ℕ) → other < l.sort → ¬ (IsCyclic g other)
