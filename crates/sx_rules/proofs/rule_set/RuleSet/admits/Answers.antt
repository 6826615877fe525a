use Rattle.std.proofs.Common.{◌++◌, ◌≤◌, ◌+◌, ◌∙◌, ap, List, ℕ, length, map, arith}
use Rattle.sx_term.specs.Shapes.{shapes}
use Rattle.sx_rules.specs.Views.{forms, named}
use Rattle.sx_rules.specs.Sets.{shapes_in, forms_in, rules_in}
use Rattle.sx_rules.proofs.AdmitLaws.{few_all, admitted_as}
use Rattle.sx_rules.proofs.Facts.{kept_good}
use Rattle.sx_rules.proofs.SetLaws.{nothing_more}
use Rattle.sx_rules.proofs.rule_set.RuleSet.admits.Goals as goal

pub returns : goal.returns
returns c =
    let self = c.args.self.now in
    let few : length self.rules.items + length c.args.more.now ≤ 4096 = omega arith in
    admitted_as (shapes_in self) c.requires.begins.0 (forms_in self) self.rules.items (map named c.args.more.now)
    (kept_good (shapes_in self) (forms_in self) (rules_in self) self.good) (few_all self.rules.items c.args.more.now few)
    (shapes c.args.all.now) (forms c.deref.result.now) (self.names ++ c.new-names.result) c.requires.begins.1 (ap forms c.deref.ensures.value)
    (ap (λ (names : List (List ℕ)). self.names ++ names) c.new-names.ensures ∙ nothing_more self.names ∙ self.named)
    c.check_rules-checked.result c.check_rules-checked.ensures.checked
