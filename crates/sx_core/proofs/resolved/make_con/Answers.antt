use Rattle.std.proofs.Common.{sym, ◌∙◌}
use Rattle.std.proofs.lemmas.Bool.{false≢true}
use Rattle.sx_core.specs.Rows.{con_row}
use Rattle.sx_core.specs.Resolving.{rows_in}
use Rattle.sx_core.proofs.ResolveLaws.{con_not}
use Rattle.sx_core.proofs.resolved.make_con.Goals as goal

pub returns-else-may_have : goal.returns-else-may_have
returns-else-may_have c =
    con_not (rows_in c.args.table.now) c.requires.distinct (con_row c.args.row.now) c.in-Some.sort c.in-Ok.kids.items c.in-Some.ensures (rw c.deref.ensures.value at c.in-Ok.ensures)
    (λ m. false≢true (sym c.if-may_have.false ∙ (rw c.deref-in-Ok.ensures.value at c.may_have.ensures).1 m))
