use Rattle.sx_unit.specs.Written.{unit_of}
use Rattle.sx_steps.specs.declared.step_error.StepError.TheVariants as errors
use Rattle.sx_steps.specs.Steps.{NoTries, Untried}
use Rattle.sx_steps.specs.Work.{plan_of}
use Rattle.sx_steps.proofs.StepsOn.{stops_at, lacks_first}
use Rattle.sx_headers.specs.ReadModule.{ReadsModule}
use Rattle.sx_sample.specs.Holding.{sample_files}
use Rattle.sx_sampling.specs.SampleSteps.{sample_name, sample_file, MakesRead, MakesSample}
use Rattle.sx_sampling.specs.SampleSteps.{PlansSample}
use Rattle.sx_sampling.proofs.sample_steps.plan_sample.Goals as goal

pub returns-in-Err-clause-step : goal.returns-in-Err-clause-step
returns-in-Err-clause-step g c =
    let files = sample_files c.args.number in
    let s = c.args.steps.now in
    stops_at unit_of plan_of (MakesSample files) (λ u. Untried (PlansSample c.args.number u))
    errors.Memory s s
    (lacks_first unit_of NoTries (ReadsModule sample_file sample_name files) (MakesRead files) s)
