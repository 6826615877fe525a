use Rattle.sx_extcheck.specs.Searches.{search_of}
use Rattle.sx_extcheck.proofs.Found.{found-listed}
use Rattle.sx_extcheck.proofs.finding.find_list.Goals as goal

pub returns-in-Ok-clause-answer : goal.returns-in-Ok-clause-answer
returns-in-Ok-clause-answer g c =
    found-listed (search_of c.args.rules.now c.args.given.now c.args.goal.now) c.args.tries
    c.requires.shallow c.in-Ok.field-0 c.in-Ok.ensures.answer
