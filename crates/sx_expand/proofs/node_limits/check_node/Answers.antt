use Rattle.std.proofs.Common.{Option, Some, None, sym, subst}
use Rattle.sx_rules.specs.ProofView.{proof}
use Rattle.sx_rules.specs.declared.rule_set.RuleSet.{RuleSet}
use Rattle.sx_rules.specs.Derivations.{Proof}
use Rattle.sx_rules.specs.Sets.{bare_rules_in}
use Rattle.sx_rewrite.specs.Lowering.{own_terms}
use Rattle.sx_rewrite.specs.Puts.{Answers}
use Rattle.sx_rewrite.specs.Rewriting.{first_over}
use Rattle.sx_expand.proofs.node_limits.check_node.Goals as goal

pub returns-in-Some : goal.returns-in-Some
returns-in-Some c = λ more h.
    subst (λ (o : Option Proof). Answers (first_over (own_terms (bare_rules_in c.args.set.now.base) o c.args.rule more)) (λ x. Unit {0}) c.check_certificate.result) (sym c.in-Some.ensures.value)
    (subst (λ (s : RuleSet). Answers (first_over (own_terms (bare_rules_in s) (Some (proof c.in-Some.certificate.now)) c.args.rule more)) (λ x. Unit {0}) c.check_certificate.result) c.base_rules.ensures (c.check_certificate.ensures more h))

pub returns-in-None : goal.returns-in-None
returns-in-None c = λ more h.
    subst (λ (o : Option Proof). Answers (first_over (own_terms (bare_rules_in c.args.set.now.base) o c.args.rule more)) (λ x. Unit {0}) c.check_base_node.result) (sym c.in-None.ensures.value)
    (subst (λ (s : RuleSet). Answers (first_over (own_terms (bare_rules_in s) None c.args.rule more)) (λ x. Unit {0}) c.check_base_node.result) c.base_rules-in-None.ensures (c.check_base_node.ensures more h))
