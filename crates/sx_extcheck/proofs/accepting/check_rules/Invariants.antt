use Rattle.sx_extcheck.specs.CheckView.{check_with}
use Rattle.sx_extcheck.proofs.Fronts.{FrontAt}
use Rattle.sx_extcheck.proofs.accepting.check_rules.Given as goal

abbrev pub invariant-loop-rule : goal.invariant-loop-rule
invariant-loop-rule g l = FrontAt (check_with l.fn.set l.fn.ext.plain l.fn.budgets) l.fn.ext.rules.items l.initial.steps l.steps l.flats.items l.rule-index
