use Rattle.std.proofs.Common.{◌+◌, drop}
use Rattle.sx_outline.specs.Fitting.{sorts_at}
use Rattle.sx_outline.proofs.RoleLaws.{first_here}
use Rattle.sx_outline.proofs.role_places.first_at.Goals as goal

pub returns-in-Some : goal.returns-in-Some
returns-in-Some c = (sorts_at c.args.role (drop (c.loop-i.i + 1) c.args.symbols.now), first_here c.args.symbols.now c.args.role c.loop-i.i c.index-symbols-i.result c.in-Some.sort.now c.loop-i-test.true c.index-symbols-i.is c.loop-i.invariant c.in-Some.ensures)
