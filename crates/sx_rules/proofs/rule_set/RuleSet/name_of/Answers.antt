use Rattle.std.proofs.Common.{◌≡◌, ℕ, List, subst, ◌∙◌}
use Rattle.std.specs.Prelude.{IfOk}
use Rattle.sx_rules.specs.Sets.{rules_in}
use Rattle.sx_rules.proofs.NameLaws.{unnamed, named_at}
use Rattle.std.proofs.lemmas.Result.{IfOk-weaker}
use Rattle.sx_rules.specs.Views.{named, rule_name}
use Rattle.sx_rules.proofs.rule_set.RuleSet.name_of.Goals as goal

pub returns-in-None : goal.returns-in-None
returns-in-None c =
    subst (λ (bytes : List ℕ). IfOk c.of_str.result (λ name. name ≡ bytes)) (unnamed (rules_in c.args.self.now) c.args.number c.in-None.ensures) c.of_str.ensures

pub returns-in-Some : goal.returns-in-Some
returns-in-Some c =
    let rules = rules_in c.args.self.now in
    IfOk-weaker c.copy.result (λ (t : List ℕ). t ≡ c.in-Some.rule.now.name) (λ (t : List ℕ). t ≡ rule_name rules c.args.number)
    (λ t is. is ∙ named_at rules c.args.number (named c.in-Some.rule.now) c.in-Some.ensures) c.copy.ensures
