use Rattle.std.proofs.Common.{◌≡◌, ℕ, ◌+◌, refl, subst}
use Rattle.std.specs.Prelude.{Ok, Err}
use Rattle.sx_unit.specs.Written.{unit_of}
use Rattle.sx_outside.specs.Files.{Files}
use Rattle.sx_outside.specs.Views.{clean_files_of}
use Rattle.sx_steps.specs.Steps.{Untried}
use Rattle.sx_steps.specs.Work.{plan_of}
use Rattle.sx_steps.proofs.StepsOn.{goes_from, stops_at, untried}
use Rattle.sx_sample.specs.Holding.{sample_files}
use Rattle.sx_sampling.specs.SampleSteps.{MakesSample, PlansSample}
use Rattle.sx_compiling.proofs.KeptReads.{no_faults}
use Rattle.sx_sampling.proofs.sample_steps.plan_over.Goals as goal

pub returns-in-Ok-clause-step : goal.returns-in-Ok-clause-step
returns-in-Ok-clause-step g c =
    let number = c.args.number in
    let unit = unit_of c.in-Ok.unit in
    let next = c.make_sample.new.steps in
    goes_from plan_of (MakesSample (sample_files number)) (λ u. Untried (PlansSample number u)) unit
    c.plan_line.result c.args.steps.now next next
    (subst (λ (files : Files). (tries : ℕ) × MakesSample files (Ok unit) tries
    × (next ≡ c.args.steps.now + tries)) c.requires
    (c.in-Ok.ensures.step (clean_files_of c.args.shelf.now) refl))
    (untried plan_of (PlansSample number unit) c.plan_line.result next c.plan_line.ensures.step)

pub returns-in-Err-clause-step : goal.returns-in-Err-clause-step
returns-in-Err-clause-step g c =
    let number = c.args.number in
    stops_at unit_of plan_of (MakesSample (sample_files number))
    (λ u. Untried (PlansSample number u)) c.in-Err.e c.args.steps.now c.make_sample.new.steps
    (subst (λ (files : Files). (tries : ℕ) × MakesSample files (Err c.in-Err.e) tries
    × (c.make_sample.new.steps ≡ c.args.steps.now + tries)) c.requires
    (c.in-Err.ensures.step (clean_files_of c.args.shelf.now) refl))

pub returns-in-Err-clause-no_fault : goal.returns-in-Err-clause-no_fault
returns-in-Err-clause-no_fault g c = no_faults _ _ _ (Err c.in-Err.e) c.in-Err.ensures.reads
