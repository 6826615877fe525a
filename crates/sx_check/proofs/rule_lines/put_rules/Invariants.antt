use Rattle.std.proofs.Common.{◌≡◌, ◌++◌, ◌+◌, ◌-◌}
use Rattle.sx_check.specs.CheckText.{shown_set, rule_lines}
use Rattle.sx_check.proofs.rule_lines.put_rules.Given as goal

abbrev pub invariant-loop-i : goal.invariant-loop-i
invariant-loop-i l = l.into.items ++ rule_lines (shown_set l.set) (l.first + l.i) (l.count - l.i) ≡ l.initial.into.items ++ rule_lines (shown_set l.set) l.first l.count
