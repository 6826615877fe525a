use Rattle.std.proofs.Common.{◌≡◌, drop, None}
use Rattle.sx_term.specs.Bindings.{lookup}
use Rattle.sx_term.specs.Bound.{bindings}
use Rattle.sx_term.specs.Candidates.{candidates}
use Rattle.sx_term.proofs.matching.known.Given as goal

abbrev pub invariant-loop-candidate : goal.invariant-loop-candidate
invariant-loop-candidate l = record {
  unbound : lookup (bindings l.bound) l.variable ≡ None;
  same : lookup (candidates l.parts) l.variable ≡ lookup (candidates (drop l.candidate-index l.parts)) l.variable;
}
