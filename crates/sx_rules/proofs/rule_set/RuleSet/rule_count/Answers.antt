use Rattle.std.proofs.Common.{arith}
use Rattle.std.proofs.lemmas.List.{length-map}
use Rattle.sx_rules.specs.Views.{named, rule}
use Rattle.sx_rules.proofs.rule_set.RuleSet.rule_count.Goals as goal

pub overflow_cast-result : goal.overflow_cast-result
overflow_cast-result c =
    let few = c.facts.ensures.good.0 in
    let same = length-map c.args.self.now.rules.items named in
    let l = c.len.ensures in
    omega (arith, few, same, l)

pub returns : goal.returns
returns c =
    let same = length-map c.args.self.now.rules.items rule in
    let l = c.len.ensures in
    omega (arith, same, l)
