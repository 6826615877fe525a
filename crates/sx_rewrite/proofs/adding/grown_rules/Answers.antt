use Rattle.std.proofs.Common.{◌++◌, List, sym, subst}
use Rattle.sx_term.specs.Shapes.{shapes}
use Rattle.sx_rules.specs.Rules.{Rule}
use Rattle.sx_rules.specs.Deep.{RulesAreShallow}
use Rattle.sx_rules.specs.Good.{IsRuleSet}
use Rattle.sx_rules.specs.Sets.{forms_in, rules_in}
use Rattle.sx_rules.specs.Views.{NamedRule}
use Rattle.sx_rewrite.proofs.ExtRules.{bare-as}
use Rattle.sx_rewrite.proofs.adding.grown_rules.Goals as goal

pub with_more-requires : goal.with_more-requires
with_more-requires c = record {
  shallow = subst (λ (rs : List Rule). RulesAreShallow rs) (sym (bare-as c.in_ok-more.more.items c.args.rules.items c.in_ok-more.ensures)) c.requires.shallow;
  good = subst (λ (rs : List NamedRule). IsRuleSet (shapes c.args.all.now) (forms_in c.args.set.now) (rules_in c.args.set.now ++ rs)) (sym c.in_ok-more.ensures) c.requires.good;
}
