use Rattle.sx_typing.proofs.MainGoals.{main_goals_fit, main_goals_have_lexemes}
use Rattle.sx_typing.proofs.MainGoals.{main_goals_are_shallow, parts_have_places}
use Rattle.sx_typing.proofs.goal_laws.main_goals_fit.Goals as goal

pub returns-clause-fit : goal.returns-clause-fit
returns-clause-fit c = main_goals_fit

pub returns-clause-lexemes : goal.returns-clause-lexemes
returns-clause-lexemes c = main_goals_have_lexemes

pub returns-clause-shallow : goal.returns-clause-shallow
returns-clause-shallow c = main_goals_are_shallow

pub returns-clause-places : goal.returns-clause-places
returns-clause-places c = parts_have_places
