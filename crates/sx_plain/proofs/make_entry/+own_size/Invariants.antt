use Rattle.std.proofs.Common.{◌≡◌, ◌+◌, drop}
use Rattle.sx_term.proofs.Kids.{trees}
use Rattle.sx_plain.specs.Uses.{own_sizes}
use Rattle.sx_plain.proofs.make_entry.+own_size.Given as goal

abbrev pub invariant-loop-kid : goal.invariant-loop-kid
invariant-loop-kid l = l.all + own_sizes (trees (drop l.kid-index l.kid-items)) ≡ own_sizes (trees l.kid-items) + 1
