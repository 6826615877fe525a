use Rattle.std.proofs.Common.{◌≡◌, ◌≤◌, ◌+◌, drop}
use Rattle.sx_term.specs.Tree.{total_size}
use Rattle.sx_term.proofs.Kids.{trees}
use Rattle.sx_plain.specs.Uses.{noted_all, most_times}
use Rattle.sx_plain.proofs.make_entry.+note.Given as goal

abbrev pub invariant-loop-kid : goal.invariant-loop-kid
invariant-loop-kid l = record {
  so_far : noted_all (l.above + 1) (trees (drop l.kid-index l.kid-items)) l.uses.items ≡ noted_all (l.above + 1) (trees l.kid-items) l.fn.uses.items;
  few : most_times l.uses.items + total_size (trees (drop l.kid-index l.kid-items)) ≤ 1000000;
}
