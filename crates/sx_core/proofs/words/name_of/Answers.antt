use Rattle.std.proofs.Common.{sym, subst}
use Rattle.sx_core.specs.Words.{NoName}
use Rattle.sx_core.proofs.Wording.{no_text}
use Rattle.sx_core.proofs.words.name_of.Goals as goal

pub returns-in-Err : goal.returns-in-Err
returns-in-Err c = subst (NoName c.args.word.now) (sym c.text_error.ensures) (no_text c.args.word.now c.in-Err.e c.in-Err.ensures)
