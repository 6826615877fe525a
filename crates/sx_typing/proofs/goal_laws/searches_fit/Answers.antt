use Rattle.sx_typing.proofs.Finding.{found_outputs_fit, exhausted_goals_fit}
use Rattle.sx_typing.proofs.goal_laws.searches_fit.Goals as goal

pub returns-clause-found : goal.returns-clause-found
returns-clause-found c = found_outputs_fit

pub returns-clause-exhausted : goal.returns-clause-exhausted
returns-clause-exhausted c = exhausted_goals_fit
