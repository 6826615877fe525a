use Rattle.std.proofs.Common.{subst}
use Rattle.sx_rules.specs.Views.{goal as goal_of, hypotheses}
use Rattle.sx_arena.specs.Views.{rules_of, set_modes}
use Rattle.sx_derive.specs.Search.{walk}
use Rattle.sx_derive.specs.Tasks.{IsEnding}
use Rattle.sx_derive.specs.Walk.{events}
use Rattle.sx_derive.proofs.Told.{exhausted_quiet}
use Rattle.sx_derive.proofs.outcome.outcome.Goals as goal

pub stuck_goal-requires-clause-quiet : goal.stuck_goal-requires-clause-quiet
stuck_goal-requires-clause-quiet c =
    let es = events (set_modes c.args.rules.now) (rules_of c.args.rules.now) (hypotheses c.args.given.now) (goal_of c.args.goal.now) 1 in
    let x = c.requires.ending in
    exhausted_quiet x.0 c.args.budget es (subst (λ e. IsEnding c.args.searched.store e (walk x.0 c.args.budget es)) c.in-Exhausted.is x.1)
