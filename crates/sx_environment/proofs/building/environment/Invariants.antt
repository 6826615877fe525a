use Rattle.std.proofs.Common.{◌≤◌, take}
use Rattle.sx_term.specs.Term.{tree}
use Rattle.sx_term.specs.Tree.{depth_of}
use Rattle.sx_environment.specs.Environments.{IsEnvironment}
use Rattle.sx_environment.specs.SeenFrom.{interfaces_of, seen_from}
use Rattle.sx_environment.proofs.building.environment.Given as goal

abbrev pub invariant-loop-i : goal.invariant-loop-i
invariant-loop-i l = record {
  made : IsEnvironment (seen_from l.given) (interfaces_of (take l.i l.imports))
      (tree l.environment.term);
  shallow : depth_of (tree l.environment.term) ≤ 1000;
}
