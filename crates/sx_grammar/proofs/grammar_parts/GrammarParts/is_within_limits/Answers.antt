use Rattle.std.proofs.Common.{refl, ap, subst, ◌∙◌, true, ◌<◌, ◌^◌}
use Rattle.std.specs.List.{list_any}
use Rattle.sx_grammar.specs.High.{is_high}
use Rattle.sx_grammar.proofs.LimitLaws.{within_exactly}
use Rattle.sx_grammar.proofs.grammar_parts.GrammarParts.is_within_limits.Goals as goal

pub returns-then-few : goal.returns-then-few
returns-then-few c =
    let few = c.are_few-few.ensures.0 c.if-few.true in
    within_exactly c.args.self.now true c.are_high.result (λ _. (few.0, few.1, subst (λ n. n < 2 ^ 32) c.in_ok-count.ensures few.2)) (λ _. refl) (λ _. c.are_high.ensures ∙ ap (list_any is_high) c.deref.ensures.value)
