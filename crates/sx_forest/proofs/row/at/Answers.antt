use Rattle.std.proofs.Common.{◌∙◌, sym}
use Rattle.sx_forest.proofs.RowWays.{none_after, way_there}
use Rattle.sx_forest.proofs.row.at.Goals as goal

pub returns : goal.returns
returns c =
    let row = c.args.row.now in
    c.numbered.ensures ∙ sym (way_there row c.args.place c.if-row-place.false)

pub returns-then-row-place : goal.returns-then-row-place
returns-then-row-place c = sym (none_after c.args.row.now c.args.place c.if-row-place.true)
