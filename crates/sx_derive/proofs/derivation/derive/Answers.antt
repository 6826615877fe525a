use Rattle.std.proofs.Common.{◌≡◌}
use Rattle.sx_rules.specs.Views.{goal as goal_of, hypotheses}
use Rattle.sx_arena.specs.Views.{rules_of, set_modes}
use Rattle.sx_derive.specs.Deriving.{answer_of}
use Rattle.sx_derive.specs.Search.{found}
use Rattle.sx_derive.specs.Ways.{subject_modes}
use Rattle.sx_derive.proofs.Told.{told_first, told_none}
use Rattle.sx_derive.proofs.derivation.derive.Goals as goal

pub returns-in-Ok-clause-first : goal.returns-in-Ok-clause-first
returns-in-Ok-clause-first g c =
    told_first (set_modes c.args.rules.now) (subject_modes c.args.rules.now) (rules_of c.args.rules.now) (hypotheses c.args.given.now) c.facts.ensures.moded (goal_of c.args.goal.now) _ c.args.budget c.answer.result (c.answer.ensures _ c.in-Ok.ensures.1)

pub returns-in-Ok-clause-none : goal.returns-in-Ok-clause-none
returns-in-Ok-clause-none g c =
    told_none (set_modes c.args.rules.now) (subject_modes c.args.rules.now) (rules_of c.args.rules.now) (hypotheses c.args.given.now) c.facts.ensures.moded (goal_of c.args.goal.now) _ c.args.budget (λ d e. e ≡ found (answer_of d)) c.answer.result (c.answer.ensures _ c.in-Ok.ensures.1)
