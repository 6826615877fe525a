use Rattle.std.proofs.Common.{List, Option, map, ap, sym, subst, ◌∙◌}
use Rattle.sx_term.specs.declared.term.Term.{Term}
use Rattle.sx_term.specs.Tree.{Tree}
use Rattle.sx_term.specs.Term.{tree}
use Rattle.sx_term.specs.Instances.{instance, bound_by}
use Rattle.sx_rules.specs.Rules.{Rule}
use Rattle.sx_rewrite.specs.Rewriting.{first_over}
use Rattle.sx_rewrite.specs.Puts.{Answers}
use Rattle.sx_rewrite.specs.Put.{conclusion_terms}
use Rattle.sx_rewrite.proofs.Instanced.{all-shallow-are, bare-found, bare-none, conclusion-shallow}
use Rattle.sx_rewrite.proofs.node_instance.check_conclusion.Goals as goal

pub check_places-requires-clause-shallow : goal.check_places-requires-clause-shallow
check_places-requires-clause-shallow c =
    all-shallow-are _ _ c.deref.ensures.value (conclusion-shallow c.args.base.now.rules.items c.args.rule c.in-Some.found.now c.facts.ensures.shallow c.in-Some.ensures)

pub returns-in-Some : goal.returns-in-Some
returns-in-Some c = λ binds h.
    let found = bare-found c.args.base.now.rules.items c.args.rule c.in-Some.found.now c.in-Some.ensures in
    let same = ap (λ (xs : List Term). map (instance (bound_by binds)) (map tree xs)) c.deref.ensures.value ∙ sym (ap (λ (o : Option Rule). conclusion_terms o binds) found) in
    subst (λ (ts : List Tree). Answers (first_over ts) (λ x. Unit {0}) c.check_places.result) same (c.check_places.ensures binds h)

pub returns-in-None : goal.returns-in-None
returns-in-None c = λ binds h. (ap (λ (o : Option Rule). first_over (conclusion_terms o binds)) (bare-none c.args.base.now.rules.items c.args.rule c.in-None.ensures), tt)
