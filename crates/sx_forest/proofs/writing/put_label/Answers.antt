use Rattle.std.proofs.Common.{ap, ◌∙◌, sym, ◌++◌}
use Rattle.sx_forest.proofs.Wording.{label_at}
use Rattle.sx_forest.proofs.writing.put_label.Goals as goal

pub returns-clause-ok : goal.returns-clause-ok
returns-clause-ok c =
    let at = label_at c.parts-parts.result.now c.args.grammar.now.parts c.args.label c.index-production.result.now c.parts-parts.ensures c.requires c.index-production.ensures in
    c.in_ok-extend_from_slice.ensures.items ∙ ap (λ x. c.args.into.now.items ++ x) (c.bytes.ensures.value ∙ sym at)
