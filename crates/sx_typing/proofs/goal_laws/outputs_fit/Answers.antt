use Rattle.sx_typing.proofs.Lexemes.{outputs_have_lexemes}
use Rattle.sx_typing.proofs.SortedGoals.{outputs_are_sorted}
use Rattle.sx_typing.proofs.goal_laws.outputs_fit.Goals as goal

pub returns-clause-lexemes : goal.returns-clause-lexemes
returns-clause-lexemes c = outputs_have_lexemes

pub returns-clause-sorted : goal.returns-clause-sorted
returns-clause-sorted c = outputs_are_sorted
