use Rattle.std.proofs.Common.{refl, arith}
use Rattle.std.specs.Prelude.{Err}
use Rattle.sx_core.specs.Problem.{problem}
use Rattle.sx_steps.specs.Steps.{Untried}
use Rattle.sx_steps.specs.Work.{plan_of}
use Rattle.sx_steps.proofs.StepsOn.{goes_from, stops_at, untried, reads_on}
use Rattle.sx_top.specs.ReadCore.{ReadsCore}
use Rattle.sx_top.specs.BuildCore.{BuildsGoal}
use Rattle.sx_top.proofs.build_core.plan_file.Goals as goal

pub returns-in-Ok-clause-step : goal.returns-in-Ok-clause-step
returns-in-Ok-clause-step g c = λ files told.
    goes_from plan_of (Untried (ReadsCore c.args.file.now files)) (BuildsGoal c.args.name.now c.args.file.now c.args.budget) (problem c.in-Ok.problem) c.plan_goal.result c.args.steps.now c.args.steps.now c.plan_goal.new.steps
    (0, (c.in-Ok.ensures.step files told, refl), omega arith) c.plan_goal.ensures.step

pub returns-in-Ok-clause-reads : goal.returns-in-Ok-clause-reads
returns-in-Ok-clause-reads g c = reads_on _ _ _ _ _ _ _ c.plan_goal.result c.in-Ok.ensures.reads c.plan_goal.ensures.no_fault

pub returns-in-Err-clause-step : goal.returns-in-Err-clause-step
returns-in-Err-clause-step g c = λ files told.
    stops_at problem plan_of (Untried (ReadsCore c.args.file.now files)) (BuildsGoal c.args.name.now c.args.file.now c.args.budget) c.in-Err.e c.args.steps.now c.args.steps.now
    (untried problem (ReadsCore c.args.file.now files) (Err c.in-Err.e) c.args.steps.now (c.in-Err.ensures.step files told))
