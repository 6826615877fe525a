use Rattle.sx_unit.specs.Written.{unit_of}
use Rattle.sx_steps.specs.Steps.{NoTries}
use Rattle.sx_steps.proofs.StepsOn.{lacks_first}
use Rattle.sx_headers.specs.ReadModule.{ReadsModule}
use Rattle.sx_sampling.specs.SampleSteps.{sample_name, sample_file, MakesRead}
use Rattle.sx_sampling.proofs.sample_unit.make_sample.Goals as goal

pub returns-in-Err-clause-step : goal.returns-in-Err-clause-step
returns-in-Err-clause-step g c = λ files told.
    lacks_first unit_of NoTries (ReadsModule sample_file sample_name files) (MakesRead files)
    c.args.steps.now

pub returns-clause-step : goal.returns-clause-step
returns-clause-step g c = λ files told.
    lacks_first unit_of NoTries (ReadsModule sample_file sample_name files) (MakesRead files)
    c.args.steps.now
