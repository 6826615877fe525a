use Rattle.sx_extension.specs.Grounds.{ground}
use Rattle.sx_extension.proofs.Refusing.{unprepared}
use Rattle.sx_extension.proofs.Stating.{all_stated, all_fit}
use Rattle.sx_extension.proofs.extension_reading.read_extension.Goals as goal

pub read_prepared-requires-clause-prepared : goal.read_prepared-requires-clause-prepared
read_prepared-requires-clause-prepared c = (c.args.bytes.now, c.in-Ok.ensures.prepared)

pub returns-in-Ok-clause-stated : goal.returns-in-Ok-clause-stated
returns-in-Ok-clause-stated c =
    all_stated (ground c.args.before.now) c.args.bytes.now c.read_prepared.result
    (c.read_prepared.ensures.read c.args.bytes.now c.in-Ok.ensures.prepared)

pub returns-in-Ok-clause-fits : goal.returns-in-Ok-clause-fits
returns-in-Ok-clause-fits c =
    all_fit (ground c.args.before.now) c.args.bytes.now c.read_prepared.result
    (c.read_prepared.ensures.read c.args.bytes.now c.in-Ok.ensures.prepared)

pub returns-in-Ok-clause-refused : goal.returns-in-Ok-clause-refused
returns-in-Ok-clause-refused c =
    c.read_prepared.ensures.refused c.args.bytes.now c.in-Ok.ensures.prepared

pub returns-in-Err-clause-refused : goal.returns-in-Err-clause-refused
returns-in-Err-clause-refused c =
    unprepared (ground c.args.before.now) c.args.bytes.now c.in-Err.error c.notation_error.result
    c.in-Err.ensures.refused c.notation_error.ensures
