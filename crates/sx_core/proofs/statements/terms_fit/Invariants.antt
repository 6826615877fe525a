use Rattle.std.proofs.Common.{◌≡◌, ◌↔◌, drop, length, []}
use Rattle.sx_term.proofs.Kids.{trees}
use Rattle.sx_term.specs.Sorts.{KidsHaveSorts}
use Rattle.sx_term.specs.Shapes.{shapes}
use Rattle.sx_core.proofs.statements.terms_fit.Given as goal

abbrev pub invariant-loop-i : goal.invariant-loop-i
invariant-loop-i l = record {
  long : length l.terms ≡ length l.sorts;
  same : KidsHaveSorts (shapes l.all) [] (trees (drop l.i l.terms)) (drop l.i l.sorts) ↔ KidsHaveSorts (shapes l.all) [] (trees l.terms) l.sorts;
}
