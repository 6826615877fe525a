use Rattle.std.proofs.Common.{sym, ◌∙◌}
use Rattle.std.proofs.lemmas.Bool.{false≢true}
use Rattle.sx_core.specs.Rows.{place_row}
use Rattle.sx_core.specs.Resolving.{rows_in}
use Rattle.sx_core.proofs.ResolveLaws.{place_not}
use Rattle.sx_core.proofs.resolved.make_place.Goals as goal

pub returns-else-may_stand : goal.returns-else-may_stand
returns-else-may_stand c = place_not (rows_in c.args.table.now) c.requires.distinct (place_row c.args.row.now) c.in-Some.sort c.in-Some.ensures (λ m. false≢true (sym c.if-may_stand.false ∙ c.may_stand.ensures.1 m))
