use Rattle.sx_grammar.specs.Cycles.{AreStepRules}
use Rattle.sx_grammar.proofs.sort_ranks.step_rules.Given as goal

abbrev pub invariant-loop-head : goal.invariant-loop-head
invariant-loop-head l = AreStepRules l.steps l.head l.rules.items
