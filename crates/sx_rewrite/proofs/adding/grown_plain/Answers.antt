use Rattle.std.proofs.Common.{◌++◌, List, sym, subst}
use Rattle.sx_term.specs.Shapes.{shapes}
use Rattle.sx_rules.specs.Good.{IsRuleSet}
use Rattle.sx_rules.specs.Sets.{forms_in, rules_in}
use Rattle.sx_rules.specs.Views.{NamedRule}
use Rattle.sx_plain.specs.Views.{table_of}
use Rattle.sx_rewrite.proofs.PlainGood.{exts-shallow}
use Rattle.sx_rewrite.proofs.adding.grown_plain.Goals as goal

pub with_more-requires : goal.with_more-requires
with_more-requires c = record {
  shallow = exts-shallow (table_of c.args.plain.now) c.in_ok-more.more.items c.args.rules.now c.in_ok-more.ensures c.requires.images;
  good = subst (λ (rs : List NamedRule). IsRuleSet (shapes c.args.all.now) (forms_in c.args.set.now) (rules_in c.args.set.now ++ rs)) (sym c.in_ok-more.ensures) c.requires.good;
}
