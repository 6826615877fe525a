use Rattle.std.proofs.Common.{refl, arith}
use Rattle.sx_forest.proofs.Wider.{begun_kept}
use Rattle.sx_forest.proofs.row.begin_at.Goals as goal

pub returns : goal.returns
returns c = record {
  begins = (let long = c.in_ok-resize.ensures.len in let low = c.if-row-first.false in omega arith);
  kept = begun_kept c.args.row.now (record { end = c.args.row.now.end; ways = c.resize.new.self }) c.args.first _ c.if-row-first.false refl c.in_ok-resize.ensures.items;
}
