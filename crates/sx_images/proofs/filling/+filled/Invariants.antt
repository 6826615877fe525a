use Rattle.sx_term.specs.Tree.{depth_of}
use Rattle.sx_term.specs.Term.{tree}
use Rattle.sx_arena.specs.Arena.{trees}
use Rattle.sx_images.proofs.KidsFilled.{Filling}
use Rattle.sx_images.proofs.filling.+filled.Given as goal

abbrev pub decreases-filled : goal.decreases-filled
decreases-filled l = depth_of (tree l.flat.now)

abbrev pub invariant-loop-kid : goal.invariant-loop-kid
invariant-loop-kid l = Filling (trees l.initial.arena) l.arena l.parts l.made.items l.kid-items l.kid-index
