use Rattle.std.proofs.Common.{subst, Contains}
use Rattle.sx_grammar.specs.Parts.{parts}
use Rattle.sx_grammar.specs.Tables.{AreNumberedPairs}
use Rattle.sx_grammar.proofs.MakeLaws.{pair_known, few_texts}
use Rattle.sx_grammar.proofs.make.numbered_parts.Goals as goal

pub number_brackets-requires-clause-known : goal.number_brackets-requires-clause-known
number_brackets-requires-clause-known c =
    λ s has. pair_known (parts c.args.from.now) c.args.literals.now c.requires.literals s (subst (λ l. Contains l s) c.deref.ensures.value has)

pub number_brackets-requires-clause-few : goal.number_brackets-requires-clause-few
number_brackets-requires-clause-few c = few_texts (parts c.args.from.now) c.args.literals.now c.requires.literals c.requires.limits.literals

pub returns-in-Ok-clause-pairs : goal.returns-in-Ok-clause-pairs
returns-in-Ok-clause-pairs c =
    subst (λ ss. AreNumberedPairs c.args.literals.now ss c.in-Ok.brackets.items) c.deref.ensures.value c.in-Ok.ensures
