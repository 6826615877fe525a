use Rattle.std.proofs.Common.{refl, subst, Contains}
use Rattle.sx_grammar.specs.Parts.{parts}
use Rattle.sx_grammar.proofs.MakeLaws.{line_known, few_names, few_texts}
use Rattle.sx_grammar.proofs.make.productions_of.Goals as goal

pub number_productions-requires-clause-known : goal.number_productions-requires-clause-known
number_productions-requires-clause-known c =
    let p = parts c.args.from.now in
    λ r has. line_known p c.args.from.now.productions.items c.args.sorts.now c.args.literals.now c.requires.labels.0 refl c.requires.sorts c.requires.literals r (subst (λ l. Contains l r) c.deref.ensures.value has)

pub number_productions-requires-clause-few : goal.number_productions-requires-clause-few
number_productions-requires-clause-few c = few_names (parts c.args.from.now) c.args.sorts.now c.requires.sorts c.requires.limits.sorts

pub number_productions-requires-clause-few_literals : goal.number_productions-requires-clause-few_literals
number_productions-requires-clause-few_literals c = few_texts (parts c.args.from.now) c.args.literals.now c.requires.literals c.requires.limits.literals
