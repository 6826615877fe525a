use Rattle.sx_notation.proofs.RuleGrammars.{productions_stay, forms_follow}
use Rattle.sx_notation.proofs.laws.rule_grammars_go_on.Goals as goal

pub returns-clause-stay : goal.returns-clause-stay
returns-clause-stay c = productions_stay

pub returns-clause-follow : goal.returns-clause-follow
returns-clause-follow c = forms_follow
