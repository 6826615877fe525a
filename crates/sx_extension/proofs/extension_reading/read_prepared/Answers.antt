use Rattle.sx_extension.specs.Grounds.{ground}
use Rattle.sx_extension.proofs.Stating.{as_many_bodies, read_from}
use Rattle.sx_extension.proofs.extension_reading.read_prepared.Goals as goal

pub extension_of-requires : goal.extension_of-requires
extension_of-requires c =
    as_many_bodies (ground c.args.before.now) c.args.prepared c.in-Ok.checked c.in-Ok.ensures.read

pub returns-in-Ok-extension_of-clause-read : goal.returns-in-Ok-extension_of-clause-read
returns-in-Ok-extension_of-clause-read c = λ bytes h.
    read_from (ground c.args.before.now) c.args.prepared c.in-Ok.checked c.in-Ok.ensures.read
    c.requires.before c.in-Ok.ensures.checked bytes h c.in-Ok-extension_of.extension
    c.in-Ok-extension_of.ensures
