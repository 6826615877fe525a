use Rattle.sx_outline.specs.Headers.{header}
use Rattle.sx_uses.proofs.Headers.{header_named, stated}
use Rattle.sx_uses.proofs.read_extension.state_extension.Goals as goal

pub returns-in-Ok-clause-named : goal.returns-in-Ok-clause-named
returns-in-Ok-clause-named c = header_named c.args.name.now c.deref.result.now (header c.in-Ok.header) c.in-Ok.ensures

pub returns-in-Ok-clause-stated : goal.returns-in-Ok-clause-stated
returns-in-Ok-clause-stated c = stated c.args.name.now c.args.bytes.items c.deref.result.now (header c.in-Ok.header) c.deref.ensures.value c.requires.short c.in-Ok.ensures
