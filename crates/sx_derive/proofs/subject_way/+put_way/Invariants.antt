use Rattle.std.proofs.Common.{◌≡◌, drop}
use Rattle.sx_term.specs.Tree.{depth_of}
use Rattle.sx_term.specs.Term.{tree}
use Rattle.sx_term.proofs.Kids.{trees}
use Rattle.sx_derive.specs.Stuck.{place_in_kids}
use Rattle.sx_derive.proofs.subject_way.+put_way.Given as goal

abbrev pub decreases-put_way : goal.decreases-put_way
decreases-put_way l = depth_of (tree l.term.now)

abbrev pub invariant-loop-i : goal.invariant-loop-i
invariant-loop-i l = (l.path.items ≡ l.fn.path.items) × (place_in_kids l.variable 0 (trees l.kids.items) ≡ place_in_kids l.variable l.i (trees (drop l.i l.kids.items)))
