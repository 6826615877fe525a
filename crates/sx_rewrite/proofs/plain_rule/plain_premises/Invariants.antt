use Rattle.std.proofs.Common.{◌≡◌, map, take}
use Rattle.sx_rules.specs.Views.{premise}
use Rattle.sx_plain.specs.Views.{table_of}
use Rattle.sx_rewrite.specs.PlainRules.{image_premise}
use Rattle.sx_rewrite.proofs.plain_rule.plain_premises.Given as goal

abbrev pub invariant-loop-premise : goal.invariant-loop-premise
invariant-loop-premise l = map premise l.plain.items ≡ map (image_premise (table_of l.table)) (map premise (take l.premise-index l.premises))
