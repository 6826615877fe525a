use Rattle.std.proofs.Common.{List, Option, ◌≡◌, map, sym, subst, ◌∙◌}
use Rattle.std.specs.Prelude.{slice_get}
use Rattle.sx_term.specs.Term.{tree}
use Rattle.sx_term.specs.Tree.{Tree}
use Rattle.sx_rules.specs.Rules.{Rule}
use Rattle.sx_rules.specs.Sets.{bare_rules_in}
use Rattle.sx_plain.specs.declared.measure.Measure.{Measure}
use Rattle.sx_rewrite.specs.Rewriting.{RewriteRefusal, first_over}
use Rattle.sx_rewrite.specs.Measured.{node_terms}
use Rattle.sx_rewrite.specs.Puts.{AreMeasuresOf, Tells, Answers}
use Rattle.sx_rewrite.proofs.Puts.{node-left, node-right}
use Rattle.sx_rewrite.proofs.Instanced.{err_is}
use Rattle.sx_rewrite.proofs.BasedTerms.{all-made}
use Rattle.sx_rewrite.proofs.basing.based.Goals as goal
use Rattle.sx_rewrite.proofs.basing.based.Goals.{Start, After-deref, After-deref-2}

-- the rule of the node
abbrev rule_of_node : Start → Option Rule
rule_of_node c = slice_get (bare_rules_in c.args.base.now) c.args.rule

-- the measures that are looked at first are those of what is put
measures_before : (c : After-deref) (more : List Tree) → AreMeasuresOf more c.args.puts.measures.items → AreMeasuresOf more c.deref.result.now
measures_before c more h = subst (λ (ms : List Measure). AreMeasuresOf more ms) (sym c.deref.ensures.value) h

-- and so are those for the conclusion
measures_later : (c : After-deref-2) (more : List Tree) → AreMeasuresOf more c.args.puts.measures.items → AreMeasuresOf more c.deref-2.result.now
measures_later c more h = subst (λ (ms : List Measure). AreMeasuresOf more ms) (sym c.deref-2.ensures.value) h

pub returns-in_err-check_measures : goal.returns-in_err-check_measures
returns-in_err-check_measures c = λ more p.
    let rule = rule_of_node (goal.at.returns-in_err-check_measures c).Start in
    let measures = measures_before (goal.at.returns-in_err-check_measures c).After-deref more p.0 in
    err_is (Answers (first_over (node_terms rule more)) (λ x. map tree x.items ≡ more)) c.from_residual.result _ c.from_residual.ensures.1
    (λ e same. subst (Tells (first_over (node_terms rule more))) (sym same) (node-left rule more _ (c.in_err-check_measures.ensures more measures)))

pub returns-in_err-check_conclusion : goal.returns-in_err-check_conclusion
returns-in_err-check_conclusion c = λ more p.
    let rule = rule_of_node (goal.at.returns-in_err-check_conclusion c).Start in
    let measures = measures_before (goal.at.returns-in_err-check_conclusion c).After-deref more p.0 in
    let later = measures_later (goal.at.returns-in_err-check_conclusion c).After-deref-2 more p.0 in
    let none = (c.in_ok-check_measures.ensures more measures).0 in
    err_is (Answers (first_over (node_terms rule more)) (λ x. map tree x.items ≡ more)) c.from_residual-in_err-check_conclusion.result _ c.from_residual-in_err-check_conclusion.ensures.1
    (λ e same. subst (Tells (first_over (node_terms rule more))) (sym same)
    (subst (λ (o : Option RewriteRefusal). Tells o c.in_err-check_conclusion.field-0.0) (sym (node-right rule more none)) (c.in_err-check_conclusion.ensures more later)))

pub returns : goal.returns
returns c = λ more p.
    let rule = rule_of_node (goal.at.returns c).Start in
    let measures = measures_before (goal.at.returns c).After-deref more p.0 in
    let later = measures_later (goal.at.returns c).After-deref-2 more p.0 in
    let none = (c.in_ok-check_measures.ensures more measures).0 in
    (node-right rule more none ∙ (c.in_ok-check_conclusion.ensures more later).0, all-made more (map tree c.args.puts.terms.items) p.1 none)
