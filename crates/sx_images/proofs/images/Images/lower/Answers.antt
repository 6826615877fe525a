use Rattle.std.proofs.Common.{arith}
use Rattle.sx_plain.specs.Views.{table_of}
use Rattle.sx_arena.specs.Arena.{trees}
use Rattle.sx_images.proofs.Known.{measures_stay}
use Rattle.sx_images.proofs.images.Images.lower.Goals as goal

pub returns : goal.returns
returns c =
    let table = table_of c.args.table.now in
    let held = c.in_ok-made.ensures.image in
    let d = c.in_ok-measure.ensures.measure.depth in
    let s = c.in_ok-measure.ensures.measure.size in
    let f = c.if-measure-gt-MOST_DEPTH.false in
    let g = c.if-measure-gt-MOST_SIZE.false in (
      held,
      record {
        measures = measures_stay table (trees c.args.arena.now) (trees c.made.new.arena) c.measured.new.notes.items held.extends c.in_ok-measure.ensures.known;
        numbers = c.in_ok-made.ensures.known;
      },
      omega arith,
      omega arith,
    )
