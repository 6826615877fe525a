use Rattle.sx_closure.specs.ReadModules.{modules_of}
use Rattle.sx_closure.proofs.Closing.{sought_good}
use Rattle.sx_closure.proofs.Walks.{modules_as}
use Rattle.sx_closure.proofs.closure_reading.read_sought.Goals as goal

pub returns-clause-step : goal.returns-clause-step
returns-clause-step g c = λ files told.
    modules_as c.args.sought.language modules_of c.args.root.header.name c.args.sought.file
    c.args.sought.roots.items files c.read_reached-modules.result c.requires.file c.requires.roots
    (c.read_reached-modules.ensures.step files told)

pub returns-clause-closure : goal.returns-clause-closure
returns-clause-closure g c =
    sought_good c.args.sought.language c.args.root.header.name c.args.sought.file
    c.args.sought.roots.items c.read_reached-modules.result c.requires.roots
    c.read_reached-modules.ensures.sound
