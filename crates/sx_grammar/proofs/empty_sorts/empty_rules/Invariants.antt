use Rattle.sx_grammar.specs.Cycles.{AreRulesOf}
use Rattle.sx_grammar.proofs.empty_sorts.empty_rules.Given as goal

abbrev pub invariant-loop-production : goal.invariant-loop-production
invariant-loop-production l = AreRulesOf l.productions l.production-index l.rules.items
