use Rattle.std.proofs.Common.{List, Option, ◌≡◌, map, sym, subst, ◌∙◌}
use Rattle.std.specs.Prelude.{slice_get}
use Rattle.sx_term.specs.Term.{tree}
use Rattle.sx_term.specs.Tree.{Tree}
use Rattle.sx_rules.specs.Rules.{Rule}
use Rattle.sx_term.specs.Instances.{instance, bound_by}
use Rattle.sx_rules.specs.Sets.{bare_rules_in}
use Rattle.sx_plain.specs.declared.measure.Measure.{Measure}
use Rattle.sx_rewrite.specs.Rewriting.{RewriteRefusal, first_over}
use Rattle.sx_rewrite.specs.Measured.{node_terms}
use Rattle.sx_rewrite.specs.Puts.{AreMeasuresOf, Tells, Answers}
use Rattle.sx_rewrite.proofs.Puts.{node-left, node-right}
use Rattle.sx_rewrite.proofs.Instanced.{err_is}
use Rattle.sx_rewrite.proofs.node_instance.node_instance.Goals as goal
use Rattle.sx_rewrite.proofs.node_instance.node_instance.Goals.{Start}

-- the rule of the node
abbrev rule_of_node : Start → Option Rule
rule_of_node c = slice_get (bare_rules_in c.args.base.now) c.args.rule

-- what the node binds, with what is put
abbrev binds_under : Start → List Tree → List Tree
binds_under c more = map (instance (bound_by more)) (map tree c.args.binds.now)

pub returns-in_err-made : goal.returns-in_err-made
returns-in_err-made c = λ more p.
    let binds = binds_under (goal.at.returns-in_err-made c).Start more in
    let rule = rule_of_node (goal.at.returns-in_err-made c).Start in
    let over = first_over (node_terms rule binds) in
    err_is (Answers over (λ x. map tree x.items ≡ binds)) c.from_residual.result _ c.from_residual.ensures.1
    (λ e same. subst (Tells over) (sym same) (node-left rule binds _ (c.in_err-made.ensures more p)))

pub returns-in_err-check_conclusion : goal.returns-in_err-check_conclusion
returns-in_err-check_conclusion c = λ more p.
    let binds = binds_under (goal.at.returns-in_err-check_conclusion c).Start more in
    let rule = rule_of_node (goal.at.returns-in_err-check_conclusion c).Start in
    let over = first_over (node_terms rule binds) in
    let made = c.in_ok-made.ensures more p in
    let measures = subst (λ (ms : List Measure). AreMeasuresOf binds ms) (sym c.deref.ensures.value) made.1.0 in
    err_is (Answers over (λ x. map tree x.items ≡ binds)) c.from_residual-in_err-check_conclusion.result _ c.from_residual-in_err-check_conclusion.ensures.1
    (λ e same. subst (Tells over) (sym same)
    (subst (λ (o : Option RewriteRefusal). Tells o c.in_err-check_conclusion.field-0.0) (sym (node-right rule binds made.0)) (c.in_err-check_conclusion.ensures binds measures)))

pub returns : goal.returns
returns c = λ more p.
    let binds = binds_under (goal.at.returns c).Start more in
    let rule = rule_of_node (goal.at.returns c).Start in
    let made = c.in_ok-made.ensures more p in
    let measures = subst (λ (ms : List Measure). AreMeasuresOf binds ms) (sym c.deref.ensures.value) made.1.0 in
    (node-right rule binds made.0 ∙ (c.in_ok-check_conclusion.ensures binds measures).0, made.1.1)
