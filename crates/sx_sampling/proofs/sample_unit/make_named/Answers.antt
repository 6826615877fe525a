use Rattle.std.proofs.Common.{◌∙◌, ℕ, List, refl, subst, arith}
use Rattle.std.specs.Prelude.{Ok, Err}
use Rattle.sx_unit.specs.Written.{unit_of}
use Rattle.sx_steps.specs.Steps.{Untried}
use Rattle.sx_steps.specs.Stop.{Gives}
use Rattle.sx_steps.proofs.StepsOn.{goes_from, stops_at, untried}
use Rattle.sx_headers.specs.ReadModule.{module_of, ReadsModule}
use Rattle.sx_sampling.specs.SampleSteps.{sample_name, sample_file, MakesRead}
use Rattle.sx_sampling.proofs.sample_unit.make_named.Goals as goal

pub returns-in-Ok-clause-step : goal.returns-in-Ok-clause-step
returns-in-Ok-clause-step g c = λ files told.
    let m = module_of c.in-Ok.source in
    goes_from unit_of (Untried (ReadsModule sample_file sample_name files)) (MakesRead files) m
    c.make_read-unit.result c.args.steps.now c.args.steps.now c.make_read-unit.new.steps (
      0,
      (
        subst (λ (name : List ℕ). ReadsModule sample_file name files (Ok m)) c.requires.name
            (subst (λ (file : List ℕ). ReadsModule file c.args.name.now files (Ok m))
            c.requires.file (c.in-Ok.ensures.step files told)),
        refl,
      ),
      omega arith,
    )
    (c.make_read-unit.ensures.step files (c.in-Ok.ensures.reads.content ∙ told))

pub returns-in-Err-clause-step : goal.returns-in-Err-clause-step
returns-in-Err-clause-step g c = λ files told.
    stops_at module_of unit_of (Untried (ReadsModule sample_file sample_name files))
    (MakesRead files) c.in-Err.e c.args.steps.now c.args.steps.now
    (untried module_of (ReadsModule sample_file sample_name files) (Err c.in-Err.e)
    c.args.steps.now
    (subst (λ (name : List ℕ). Gives module_of (ReadsModule sample_file name files)
    (Err c.in-Err.e)) c.requires.name
    (subst (λ (file : List ℕ). Gives module_of (ReadsModule file c.args.name.now files)
    (Err c.in-Err.e)) c.requires.file (c.in-Err.ensures.step files told))))
