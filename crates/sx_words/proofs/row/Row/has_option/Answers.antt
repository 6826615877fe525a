use Rattle.std.proofs.Common.{sym, ap}
use Rattle.sx_words.specs.Commands.{has_option}
use Rattle.sx_words.specs.View.{given_view}
use Rattle.sx_words.specs.declared.given.Given.{Given}
use Rattle.sx_words.proofs.row.Row.has_option.Goals as goal

pub returns-in-Core : goal.returns-in-Core
returns-in-Core c = ap (λ (o : Given). has_option c.args.self.now (given_view o)) (sym c.in-Core.is)
