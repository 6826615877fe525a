use Rattle.std.proofs.Common.{refl, ◌∙◌}
use Rattle.sx_grammar.proofs.Ranking.{step_rule_more}
use Rattle.sx_grammar.proofs.sort_ranks.step_rules.Goals as goal

pub loop-head-preserved : goal.loop-head-preserved
loop-head-preserved c = step_rule_more c.args.steps.now c.loop-head.head c.loop-head.rules.items _ _ c.loop-head.invariant c.in_ok-push.ensures.items refl (c.in_ok-needs.ensures.items ∙ c.list.ensures)
