use Rattle.std.proofs.Common.{sym, subst}
use Rattle.std.specs.Prelude.{slice_get}
use Rattle.sx_rules.specs.Sets.{bare_rules_in}
use Rattle.sx_rewrite.specs.Rewriting.{first_over}
use Rattle.sx_rewrite.specs.Measured.{node_terms}
use Rattle.sx_rewrite.specs.Puts.{Tells, Answers}
use Rattle.sx_rewrite.proofs.Puts.{node-left}
use Rattle.sx_rewrite.proofs.Instanced.{err_is}
use Rattle.sx_expand.proofs.NodeTerms.{conclusion-answers}
use Rattle.sx_expand.proofs.node_limits.check_base_node.Goals as goal

pub returns-in_err-check_measures : goal.returns-in_err-check_measures
returns-in_err-check_measures c = λ more h.
    let rule = slice_get (bare_rules_in c.args.base.now) c.args.rule in
    err_is (Answers (first_over (node_terms rule more)) (λ x. Unit {0})) c.from_residual.result _ c.from_residual.ensures.1
    (λ e same. subst (Tells (first_over (node_terms rule more))) (sym same) (node-left rule more _ (c.in_err-check_measures.ensures more h)))

pub returns : goal.returns
returns c = λ more h.
    conclusion-answers (slice_get (bare_rules_in c.args.base.now) c.args.rule) more (c.in_ok-check_measures.ensures more h).0 c.check_conclusion.result (c.check_conclusion.ensures more h)
