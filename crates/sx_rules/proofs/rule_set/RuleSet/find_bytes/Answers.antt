use Rattle.std.proofs.Common.{ap, sym, subst, ◌∙◌, Contains, arith}
use Rattle.std.specs.Prelude.{slice_get}
use Rattle.sx_rules.specs.Good.{names_of}
use Rattle.sx_rules.specs.Sets.{shapes_in, forms_in}
use Rattle.sx_rules.proofs.Facts.{number_within}
use Rattle.sx_rules.proofs.NameLaws.{among_contains}
use Rattle.sx_rules.proofs.rule_set.RuleSet.find_bytes.Goals as goal

pub overflow_cast-result : goal.overflow_cast-result
overflow_cast-result c =
    let s = c.args.self.now in
    let few = number_within (shapes_in s) (forms_in s) s.rules.items c.in-Some.number c.args.name.now s.good (ap (λ names. slice_get names c.in-Some.number) (sym s.named) ∙ c.in-Some.ensures.exact) in
    omega (arith, few)

pub returns-in-None : goal.returns-in-None
returns-in-None c = λ h.
    let name = c.args.name.now in
    let s = c.args.self.now in
    c.in-None.ensures.exact (subst (λ names. Contains names name) (sym s.named) (among_contains (names_of s.rules.items) name h))
