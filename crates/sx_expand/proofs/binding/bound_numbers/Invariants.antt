use Rattle.sx_expand.proofs.NumbersBound.{BoundSoFar}
use Rattle.sx_expand.proofs.binding.bound_numbers.Given as goal

abbrev pub invariant-loop-v : goal.invariant-loop-v
invariant-loop-v l = BoundSoFar l.work l.count l.v l.numbers.items
