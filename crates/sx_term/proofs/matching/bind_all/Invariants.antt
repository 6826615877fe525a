use Rattle.std.proofs.Common.{◌≡◌, ◌++◌, take}
use Rattle.sx_term.specs.Bound.{bindings}
use Rattle.sx_term.specs.Candidates.{candidates}
use Rattle.sx_term.proofs.matching.bind_all.Given as goal

abbrev pub invariant-loop-candidate : goal.invariant-loop-candidate
invariant-loop-candidate l = bindings l.bound ≡ bindings l.fn.bound ++ candidates (take l.candidate-index l.parts)
