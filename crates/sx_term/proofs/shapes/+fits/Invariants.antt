use Rattle.std.proofs.Common.{◌≡◌, ◌↔◌, drop, length}
use Rattle.sx_term.proofs.Kids.{trees}
use Rattle.sx_term.specs.Sorts.{KidsHaveSorts}
use Rattle.sx_term.specs.Shapes.{shapes}
use Rattle.sx_term.proofs.shapes.+fits.Given as goal

abbrev pub invariant-kids_fit-loop-i : goal.invariant-kids_fit-loop-i
invariant-kids_fit-loop-i l = record {
  long : length l.terms ≡ length l.sorts;
  same : KidsHaveSorts (shapes l.all) l.vars (trees (drop l.i l.terms)) (drop l.i l.sorts) ↔ KidsHaveSorts (shapes l.all) l.vars (trees l.terms) l.sorts;
}
