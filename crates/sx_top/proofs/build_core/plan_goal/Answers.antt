use Rattle.std.proofs.Common.{◌≡◌, map, ap}
use Rattle.std.specs.Prelude.{Result, Ok, Err}
use Rattle.sx_term.specs.Term.{tree}
use Rattle.sx_core.specs.Problem.{problem}
use Rattle.sx_steps.specs.declared.stop.Stop.{Stop}
use Rattle.sx_steps.specs.declared.step_error.StepError.TheVariants as errors
use Rattle.sx_steps.specs.Steps.{Trying, Untried}
use Rattle.sx_steps.specs.Work.{Plan, plan_of}
use Rattle.sx_steps.proofs.StepsOn.{goes_from, stops_as, untried, trying_for}
use Rattle.sx_top.specs.Proper.{ListsGiven}
use Rattle.sx_top.specs.Search.{Searches, HasCoreWalked}
use Rattle.sx_top.specs.BuildCore.{core_plan}
use Rattle.sx_top.proofs.Propers.{terms_of}
use Rattle.sx_top.proofs.build_core.plan_goal.Goals as goal

pub make_work-requires-clause-goal : goal.make_work-requires-clause-goal
make_work-requires-clause-goal g c = terms_of (map tree c.args.problem.now.goal.inputs.items) c.requires.texts c.requires.shallow

pub make_work-requires-clause-given : goal.make_work-requires-clause-given
make_work-requires-clause-given g c = let x = c.in-Ok.ensures.step in (x.0, x.1)

pub returns-in-Ok-make_work-clause-step : goal.returns-in-Ok-make_work-clause-step
returns-in-Ok-make_work-clause-step g c =
    let x = c.in-Ok.ensures.step in
    let walked = c.in-Ok.ensures.tries in
    let p = problem c.args.problem.now in
    goes_from plan_of (Trying (HasCoreWalked c.args.budget p) (Searches c.args.file.now c.args.budget p)) (λ answer. Untried (λ result. result ≡ Ok (core_plan c.args.name.now p answer))) x.0 (Ok c.in-Ok-make_work.work)
    c.args.steps.now c.find_first.new.steps c.find_first.new.steps (walked.0, (x.2, walked.1), walked.2)
    (untried plan_of (λ (result : Result Plan Stop). result ≡ Ok (core_plan c.args.name.now p x.0)) (Ok c.in-Ok-make_work.work) c.find_first.new.steps (ap (λ (plan : Plan). Ok plan) (c.in-Ok-make_work.ensures x.0 x.1.lists)))

pub returns-in-Ok-clause-step : goal.returns-in-Ok-clause-step
returns-in-Ok-clause-step g c =
    let x = c.in-Ok.ensures.step in
    let walked = c.in-Ok.ensures.tries in
    let p = problem c.args.problem.now in
    goes_from plan_of (Trying (HasCoreWalked c.args.budget p) (Searches c.args.file.now c.args.budget p)) (λ answer. Untried (λ result. result ≡ Ok (core_plan c.args.name.now p answer))) x.0 (Err errors.Memory)
    c.args.steps.now c.find_first.new.steps c.find_first.new.steps (walked.0, (x.2, walked.1), walked.2)
    (untried plan_of (λ (result : Result Plan Stop). result ≡ Ok (core_plan c.args.name.now p x.0)) (Err errors.Memory) c.find_first.new.steps tt)

pub returns-clause-step : goal.returns-clause-step
returns-clause-step g c =
    let p = problem c.args.problem.now in
    stops_as plan_of (Trying (HasCoreWalked c.args.budget p) (Searches c.args.file.now c.args.budget p)) (λ answer. Untried (λ result. result ≡ Ok (core_plan c.args.name.now p answer))) c.in-Err.e c.args.steps.now c.find_first.new.steps
    (trying_for (ListsGiven p) (HasCoreWalked c.args.budget p) (Searches c.args.file.now c.args.budget p) c.in-Err.e c.args.steps.now c.find_first.new.steps c.in-Err.ensures.step c.in-Err.ensures.tries)
