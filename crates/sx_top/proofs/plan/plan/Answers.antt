use Rattle.std.proofs.Common.{refl, arith}
use Rattle.std.specs.Prelude.{Err}
use Rattle.sx_words.specs.View.{command_view}
use Rattle.sx_steps.specs.Steps.{Untried}
use Rattle.sx_steps.specs.Work.{plan_of}
use Rattle.sx_steps.proofs.StepsOn.{stops_at, goes_from, untried}
use Rattle.sx_top.specs.Commands.{Commands}
use Rattle.sx_top.specs.Outcome.{RunOutcome}
use Rattle.sx_top.proofs.CommandSteps.{spelled_within}
use Rattle.sx_top.proofs.plan.plan.Goals as goal

pub run_named-work-requires : goal.run_named-work-requires
run_named-work-requires g c =
    spelled_within c.args.words.now (command_view c.in-Ok.command) c.in-Ok.ensures.step

pub returns-in-Ok-clause-outcome : goal.returns-in-Ok-clause-outcome
unfolding RunOutcome
returns-in-Ok-clause-outcome g c = λ files told.
    goes_from plan_of (Untried (Commands c.args.words.now))
    _ (command_view c.in-Ok.command)
    c.run_named-work.result c.args.steps.now c.args.steps.now c.run_named-work.new.steps
    (0, (c.in-Ok.ensures.step, refl), omega arith) (c.run_named-work.ensures.step files told)

pub returns-in-Err-clause-outcome : goal.returns-in-Err-clause-outcome
unfolding RunOutcome
returns-in-Err-clause-outcome g c = λ files told.
    stops_at command_view plan_of (Untried (Commands c.args.words.now))
    _ c.in-Err.e c.args.steps.now
    c.args.steps.now (untried command_view (Commands c.args.words.now) (Err c.in-Err.e)
    c.args.steps.now c.in-Err.ensures.step)
