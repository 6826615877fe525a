use Rattle.std.proofs.Common.{◌++◌}
use Rattle.sx_check.specs.CheckText.{shown_set, rule_lines}
use Rattle.sx_check.proofs.RuleLines.{one_rule}
use Rattle.sx_check.proofs.rule_lines.put_rules.Goals as goal

pub loop-i-preserved : goal.loop-i-preserved
loop-i-preserved c =
    one_rule (shown_set c.args.set.now) c.args.first c.args.count c.loop-i.i c.loop-i.into.items c.put_rule.new.into.items (c.args.into.now.items ++ rule_lines (shown_set c.args.set.now) c.args.first c.args.count)
    c.loop-i-test.true c.in_ok-put_rule.ensures c.loop-i.invariant
