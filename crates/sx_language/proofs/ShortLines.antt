-- Lines that are short.
use Rattle.std.proofs.Common.{◌≤◌, List, [], ◌∷◌, length, map}
use Rattle.std.specs.List.{AllByRecursion}
use Rattle.sx_outline.specs.declared.rule_lines.RuleLine.{RuleLine}
use Rattle.sx_outline.specs.Stages.{numbered_rule_line}

pub short_lines : (ls : List RuleLine) → AllByRecursion (λ l. length l.text ≤ 262144) (map numbered_rule_line ls) → AllByRecursion (λ l. length l.text ≤ 262144) ls
short_lines [] all = tt
short_lines (l ∷ ls) all = (all.0, short_lines ls all.1)
