use Rattle.sx_notation.proofs.RuleGrammars as lemmas
use Rattle.sx_notation.proofs.laws.sorted_goals_fit.Goals as goal

pub returns : goal.returns
returns c = lemmas.sorted_goals_fit
