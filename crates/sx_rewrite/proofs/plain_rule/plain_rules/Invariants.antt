use Rattle.std.proofs.Common.{◌≡◌, map, take}
use Rattle.sx_rules.specs.Views.{named}
use Rattle.sx_plain.specs.Views.{table_of}
use Rattle.sx_rewrite.specs.PlainRules.{plain_named}
use Rattle.sx_rewrite.proofs.plain_rule.plain_rules.Given as goal

abbrev pub invariant-loop-ext : goal.invariant-loop-ext
invariant-loop-ext l = map named l.plain.items ≡ map (λ e. plain_named (table_of l.table) (named e.rule)) (take l.ext-index l.rules)
