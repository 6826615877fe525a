use Rattle.std.proofs.Common.{sym, ◌∙◌}
use Rattle.sx_directives.proofs.row_reading.level_of.Goals as goal

pub returns-in-Some : goal.returns-in-Some
returns-in-Some c = sym c.in-Some.ensures.value

pub returns-in-None : goal.returns-in-None
returns-in-None c = λ level is. let clash = c.in-None.ensures.value ∙ is in cc
