use Rattle.std.proofs.Common.{subst}
use Rattle.sx_rules.specs.declared.rule_set.RuleSet.{RuleSet}
use Rattle.tests_uses.specs.Held.{IsHypothesisHeld}
use Rattle.tests_uses.proofs.opened.tell_open.Goals as goal

pub tell-requires-clause-held : goal.tell-requires-clause-held
tell-requires-clause-held g c = subst (λ (b : RuleSet). IsHypothesisHeld b c.args.given.now) c.base_rules.ensures (c.is_held.ensures c.if-is_held.true)
