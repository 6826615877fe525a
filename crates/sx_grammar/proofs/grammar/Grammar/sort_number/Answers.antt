use Rattle.std.proofs.Common.{ap, sym, ◌∙◌, Some, subst, Contains}
use Rattle.std.specs.Prelude.{slice_get}
use Rattle.sx_grammar.specs.Parts.{names}
use Rattle.sx_grammar.proofs.grammar.Grammar.sort_number.Goals as goal

pub returns-in-Some : goal.returns-in-Some
returns-in-Some c = ap (λ ns. slice_get ns c.in-Some.number) (ap (λ d. names d.parts) (sym c.self.view_is) ∙ sym c.self.invariant.has_sorts) ∙ c.in-Some.ensures.exact ∙ ap Some c.bytes.ensures.value

pub returns-in-None : goal.returns-in-None
returns-in-None c = λ has.
    c.in-None.ensures.exact (subst (λ ns. Contains ns c.bytes.result.now) (ap (λ d. names d.parts) (sym c.self.view_is) ∙ sym c.self.invariant.has_sorts) (subst (Contains (names c.args.self.now.parts)) (sym c.bytes.ensures.value) has))
