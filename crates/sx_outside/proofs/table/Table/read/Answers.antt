use Rattle.std.proofs.Common.{sym, subst}
use Rattle.sx_outside.specs.Shelf.{IsOver}
use Rattle.sx_outside.proofs.table.Table.read.Goals as goal

pub returns-then-bytes-limit-clause-answer : goal.returns-then-bytes-limit-clause-answer
returns-then-bytes-limit-clause-answer c =
    (c.requires, subst (IsOver c.args.limit) (sym c.in-Some.ensures) c.if-bytes-limit.true)
