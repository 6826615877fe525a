use Rattle.sx_core.proofs.Wording.{name_refused}
use Rattle.sx_core.proofs.words.read_name.Goals as goal

pub returns-in-Err : goal.returns-in-Err
returns-in-Err c = name_refused c.args.text.now c.in-Some.word.now c.in-Some.rest.now c.in-Err.e c.in-Some.ensures c.in-Err.ensures
