use Rattle.sx_rules.specs.Rules.{Hypotheses}
use Rattle.sx_arena.specs.Views.{rules_of, set_modes}
use Rattle.sx_derive.specs.Ways.{subject_modes}
use Rattle.sx_derive.proofs.Sunk.{Sinking}
use Rattle.sx_derive.proofs.stuck_goal.stuck_below.Given as goal

abbrev pub invariant-loop-left : goal.invariant-loop-left
invariant-loop-left l = (hyps : Hypotheses) × Sinking (set_modes l.given.rules.now) (subject_modes l.given.rules.now) (rules_of l.given.rules.now) hyps l.bounds.budget l.bounds.levels l.initial.store l.given.facts.now l.given.pairs.now l.initial.here l.store l.left l.notes.items l.here

abbrev pub decreases-loop-left : goal.decreases-loop-left
decreases-loop-left l = l.left
