use Rattle.std.proofs.Common.{◌≡◌, drop}
use Rattle.sx_term.proofs.Kids.{trees}
use Rattle.sx_plain.specs.Marks.{marked_all}
use Rattle.sx_plain.proofs.dropped.+mark.Given as goal

abbrev pub invariant-loop-kid : goal.invariant-loop-kid
invariant-loop-kid l = marked_all (trees (drop l.kid-index l.kid-items)) l.marks.items ≡ marked_all (trees l.kid-items) l.fn.marks.items
