use Rattle.std.proofs.Common.{◌-◌, ◌≤◌, drop}
use Rattle.sx_rules.specs.Derivations.{most_height}
use Rattle.sx_rules.specs.ProofView as view
use Rattle.tests_logic.proofs.shown.+is_shallow.Given as goal

abbrev pub invariant-loop-kid : goal.invariant-loop-kid
invariant-loop-kid l =
    most_height (view.boxed (drop l.kid-index l.kid-items)) ≤ l.levels - 1 →
    most_height (view.boxed l.kid-items) ≤ l.levels - 1
