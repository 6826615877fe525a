use Rattle.std.proofs.Common.{◌≡◌, map, take}
use Rattle.sx_accepting.proofs.told_rules.rule_names.Given as goal

abbrev pub invariant-loop-ext : goal.invariant-loop-ext
invariant-loop-ext l = l.names.items ≡ map (λ e. e.rule.name) (take l.ext-index l.rules)
