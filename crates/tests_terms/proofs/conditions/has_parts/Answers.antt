use Rattle.std.proofs.Common.{arith, ◌≡◌, ℕ, subst, true, false}
use Rattle.sx_term.specs.Term.{tree}
use Rattle.sx_term.specs.Instances.{Stands}
use Rattle.sx_plain.specs.Views.{table_of}
use Rattle.tests_terms.proofs.FitLaws.{no_parts, has_parts}
use Rattle.tests_terms.proofs.conditions.has_parts.Goals as goal

pub returns-in-None : goal.returns-in-None
returns-in-None c = λ _. no_parts _ _ c.in-None.ensures.value

pub returns-in-Some-checked_sub : goal.returns-in-Some-checked_sub
returns-in-Some-checked_sub c = λ h.
    has_parts _ (table_of c.args.table.now) _ c.args.kids.now _ c.facts.ensures c.in-Some.ensures.value
    (λ s. let q : false ≡ true = c.if-stands.ensures.1 s in cc)
    (λ m e. let l = c.in-Some-checked_sub.ensures.1 in subst (λ (v : ℕ). Stands v (tree c.in-Some.flat.now)) (let r : c.in-Some-checked_sub.last ≡ m = omega arith in r) (c.stands-in-Some-checked_sub.ensures.0 h))

pub returns-in-None-checked_sub : goal.returns-in-None-checked_sub
returns-in-None-checked_sub c = λ _.
    has_parts _ (table_of c.args.table.now) _ c.args.kids.now _ c.facts.ensures c.in-Some.ensures.value
    (λ s. let q : false ≡ true = c.if-stands.ensures.1 s in cc)
    (λ m e. absurd (c.in-None-checked_sub.ensures (omega arith)))
