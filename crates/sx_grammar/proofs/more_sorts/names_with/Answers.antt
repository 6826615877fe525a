use Rattle.std.proofs.Common.{◌≡◌, ◌∙◌, ◌++◌, ◌∷◌, [], ap, sym, subst, Contains, Some}
use Rattle.std.specs.Prelude.{MatchOption, slice_get}
use Rattle.sx_term.specs.Cutting.{AreDistinct}
use Rattle.sx_grammar.proofs.FirstLaws.{new_here, distinct_push}
use Rattle.sx_grammar.proofs.Widening.{lacks_some}
use Rattle.sx_grammar.proofs.more_sorts.names_with.Goals as goal

pub returns-in-Ok : goal.returns-in-Ok
returns-in-Ok c =
    let names = c.args.known.now in
    let name = c.args.sort.now.name in
    let pushed = c.in-Ok.ensures ∙ ap (λ t. c.in_ok-names.names ++ t ∷ []) c.bytes-2.ensures.value ∙ ap (λ l. l ++ name ∷ []) c.in_ok-names.ensures in
    let exact = subst (λ t. MatchOption c.number.result (¬ (Contains names t)) (λ i. slice_get names i ≡ Some t)) c.bytes.ensures.value c.number.ensures.exact in
    let new = new_here name names c.number.result exact (sym c.is_some-else-is_some.ensures ∙ c.if-is_some-2.false) in
    (lacks_some c.args.sort.now.brackets (sym c.is_some.ensures ∙ c.if-is_some.false), pushed, λ apart. subst AreDistinct (sym pushed) (distinct_push names name apart new))
