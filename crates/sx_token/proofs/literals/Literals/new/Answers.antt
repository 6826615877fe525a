use Rattle.std.proofs.Common.{sym, subst}
use Rattle.sx_term.specs.Cutting.{AreDistinct}
use Rattle.sx_token.specs.Table.{IsLiteralTable}
use Rattle.sx_token.proofs.literals.Literals.new.Goals as goal

pub invariant_of-result : goal.invariant_of-result
invariant_of-result c =
    let made = c.in_ok-make_table.ensures in
    let table = c.in_ok-make_table.field-0 in
    (subst AreDistinct (sym made.literals) c.requires.distinct, subst (λ literals. IsLiteralTable literals table) (sym made.literals) made.table)
