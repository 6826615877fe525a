use Rattle.std.proofs.Common.{◌≡◌, ◌↔◌, drop, length}
use Rattle.sx_term.proofs.Kids.{trees}
use Rattle.sx_term.specs.Sorts.{KidsHaveSorts}
use Rattle.sx_term.specs.Shapes.{shapes}
use Rattle.sx_rules.proofs.RowLaws.{place_sorts}
use Rattle.sx_rules.proofs.fitting.row_fits.Given as goal

abbrev pub invariant-loop-i : goal.invariant-loop-i
invariant-loop-i l = record {
  long : length l.terms ≡ length l.places;
  same : KidsHaveSorts (shapes l.all) l.vars (trees (drop l.i l.terms)) (drop l.i (place_sorts l.places)) ↔ KidsHaveSorts (shapes l.all) l.vars (trees l.terms) (place_sorts l.places);
}
