use Rattle.std.proofs.Common.{subst, ap, ◌∙◌}
use Rattle.sx_grammar.specs.Parts.{texts}
use Rattle.sx_grammar.specs.Made.{HasNone, IsBadLiteral}
use Rattle.sx_grammar.proofs.additions.have_good_literals.Goals as goal

pub returns-in-None : goal.returns-in-None
returns-in-None c = λ _. subst (HasNone IsBadLiteral) (ap texts c.deref.ensures.value ∙ c.in_ok-texts.ensures) c.in-None.ensures
