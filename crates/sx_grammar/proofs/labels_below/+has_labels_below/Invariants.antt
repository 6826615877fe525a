use Rattle.std.proofs.Common.{◌↔◌, drop}
use Rattle.sx_term.specs.Tree.{depth_of}
use Rattle.sx_term.specs.Term.{tree}
use Rattle.sx_term.proofs.Kids.{trees}
use Rattle.sx_grammar.specs.Told.{HaveLabelsBelow}
use Rattle.sx_grammar.proofs.labels_below.+has_labels_below.Given as goal

abbrev pub decreases-has_labels_below : goal.decreases-has_labels_below
decreases-has_labels_below l = depth_of (tree l.term.now)

abbrev pub invariant-loop-kid : goal.invariant-loop-kid
invariant-loop-kid l = HaveLabelsBelow l.bound (trees (drop l.kid-index l.kid-items)) ↔ HaveLabelsBelow l.bound (trees l.kid-items)
