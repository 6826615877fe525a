use Rattle.sx_extension.specs.Grounds.{ground}
use Rattle.sx_extension.proofs.Refusing.{unread}
use Rattle.sx_extension.proofs.extension_reading.read_checked.Goals as goal

pub read_texts-requires : goal.read_texts-requires
read_texts-requires c = c.requires.prepared.1.can

pub returns-in-Err-clause-refused : goal.returns-in-Err-clause-refused
returns-in-Err-clause-refused c = λ bytes h.
    unread (ground c.args.before.now) bytes c.args.prepared.now h c.in-Err.error
    c.notation_error.result c.in-Err.ensures.refused c.notation_error.ensures
