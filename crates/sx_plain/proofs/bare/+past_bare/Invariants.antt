use Rattle.sx_term.specs.Tree.{depth_of}
use Rattle.sx_term.specs.Term.{tree}
use Rattle.sx_plain.proofs.bare.+past_bare.Given as goal

abbrev pub decreases-past_bare : goal.decreases-past_bare
decreases-past_bare l = depth_of (tree l.term.now)
