use Rattle.std.proofs.Common.{sym, subst}
use Rattle.sx_earley.specs.Showing.{IsStems}
use Rattle.sx_earley.proofs.stems.Stems.new.Goals as goal

pub invariant_of-result : goal.invariant_of-result
invariant_of-result c =
    let made = c.in_ok-stem_table.ensures in
    let table = c.in_ok-stem_table.field-0 in
    subst (λ metas. IsStems metas.stems.items table) (sym made.metas) made.stems
