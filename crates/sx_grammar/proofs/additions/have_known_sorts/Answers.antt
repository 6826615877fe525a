use Rattle.std.proofs.Common.{subst, ap, ◌∙◌}
use Rattle.sx_grammar.specs.Parts.{texts}
use Rattle.sx_grammar.specs.Made.{HasNone, IsUnknownSort}
use Rattle.sx_grammar.proofs.additions.have_known_sorts.Goals as goal

pub returns-in-None : goal.returns-in-None
returns-in-None c = λ _. subst (HasNone (IsUnknownSort c.args.known.now)) (ap texts c.deref.ensures.value ∙ c.in_ok-named.ensures) c.in-None.ensures
