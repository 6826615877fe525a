use Rattle.std.proofs.Common.{◌≡◌, ◌++◌, length}
use Rattle.sx_term.specs.Term.{tree}
use Rattle.sx_term.specs.Bound.{bindings}
use Rattle.sx_term.specs.Candidates.{candidates}
use Rattle.sx_term.specs.Matching.{AddsOnlyOf}
use Rattle.sx_term.proofs.Matches.{SameFrom}
use Rattle.sx_term.proofs.matching.+collect.Given as goal

abbrev pub invariant-loop-i : goal.invariant-loop-i
invariant-loop-i l = record {
  long : length l.kids.items ≡ length l.other_kids.items;
  same : SameFrom (bindings l.bound ++ candidates l.fn.parts.items) (bindings l.bound ++ candidates l.parts.items) l.kids.items l.other_kids.items l.i;
  adds : AddsOnlyOf (bindings l.bound ++ candidates l.fn.parts.items) (bindings l.bound ++ candidates l.parts.items) (tree l.pattern);
}
