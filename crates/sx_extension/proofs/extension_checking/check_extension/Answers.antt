use Rattle.sx_extension.specs.Grounds.{ground}
use Rattle.sx_extension.proofs.Refusing.{unchecked, unbodied}
use Rattle.sx_extension.proofs.extension_checking.check_extension.Goals as goal

pub returns-in-Err-clause-refused : goal.returns-in-Err-clause-refused
returns-in-Err-clause-refused c = λ bytes h.
    unchecked (ground c.args.before.now) bytes c.args.prepared.now h c.args.texts.now
    c.requires.texts c.in-Err.error c.in-Err.ensures.refused

pub returns-in-Err-check_own_bodies-clause-refused :
    goal.returns-in-Err-check_own_bodies-clause-refused
returns-in-Err-check_own_bodies-clause-refused c = λ bytes h.
    unbodied (ground c.args.before.now) bytes c.args.prepared.now h c.args.texts.now
    c.requires.texts c.in-Ok.plain c.in-Ok.ensures.rules c.in-Ok.ensures.table
    c.in-Err-check_own_bodies.error c.in-Err-check_own_bodies.ensures.refused
