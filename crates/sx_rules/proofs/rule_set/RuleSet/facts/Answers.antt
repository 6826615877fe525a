use Rattle.sx_rules.specs.Sets.{shapes_in, forms_in, rules_in, bare_rules_in}
use Rattle.sx_rules.proofs.Facts.{kept_good, kept_moded, kept_sorted, kept_shallow, kept_distinct}
use Rattle.sx_rules.proofs.rule_set.RuleSet.facts.Goals as goal

pub returns-clause-good : goal.returns-clause-good
returns-clause-good c = kept_good (shapes_in c.args.self.now) (forms_in c.args.self.now) (rules_in c.args.self.now) c.args.self.now.good

pub returns-clause-moded : goal.returns-clause-moded
returns-clause-moded c = kept_moded (shapes_in c.args.self.now) (forms_in c.args.self.now) c.args.self.now.rules.items c.args.self.now.good

pub returns-clause-sorted : goal.returns-clause-sorted
returns-clause-sorted c = kept_sorted (shapes_in c.args.self.now) (forms_in c.args.self.now) c.args.self.now.rules.items c.args.self.now.good

pub returns-clause-shallow : goal.returns-clause-shallow
returns-clause-shallow c = kept_shallow (bare_rules_in c.args.self.now) c.args.self.now.shallow

pub returns-clause-distinct : goal.returns-clause-distinct
returns-clause-distinct c = kept_distinct (shapes_in c.args.self.now) (forms_in c.args.self.now) c.args.self.now.rules.items c.args.self.now.good
