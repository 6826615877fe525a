use Rattle.std.proofs.Common.{ℕ, List, subst}
use Rattle.sx_steps.specs.Steps.{NoTries}
use Rattle.sx_steps.specs.Work.{plan_of}
use Rattle.sx_steps.proofs.StepsOn.{lacks_first}
use Rattle.sx_top.specs.ReadCore.{core_file, ReadsCore}
use Rattle.sx_top.specs.BuildCore.{BuildsGoal, BuildsFrom}
use Rattle.sx_steps.specs.Stop.{Does}
use Rattle.sx_top.proofs.build_core.plan_build_core.Goals as goal

pub returns-in-Ok-clause-step : goal.returns-in-Ok-clause-step
returns-in-Ok-clause-step g c = λ files told.
    subst (λ (file : List ℕ). Does plan_of (BuildsFrom c.args.name.now file c.args.budget files) c.plan_file.result c.args.steps.now c.plan_file.new.steps) c.in-Ok.ensures (c.plan_file.ensures.step files told)

pub returns-in-Err-clause-step : goal.returns-in-Err-clause-step
returns-in-Err-clause-step g c = λ files told.
    lacks_first plan_of NoTries (ReadsCore (core_file c.args.name.now) files) (BuildsGoal c.args.name.now (core_file c.args.name.now) c.args.budget) c.args.steps.now
