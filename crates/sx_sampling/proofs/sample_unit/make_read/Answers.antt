use Rattle.std.proofs.Common.{◌∙◌, refl, arith}
use Rattle.std.specs.Prelude.{Err}
use Rattle.sx_unit.specs.Written.{unit_of}
use Rattle.sx_steps.specs.Steps.{Untried}
use Rattle.sx_steps.proofs.StepsOn.{goes_from, stops_at, untried}
use Rattle.sx_accepting.specs.ReadLanguage.{stated_of, ReadsLanguage}
use Rattle.sx_headers.specs.ReadModule.{module_of}
use Rattle.sx_sampling.specs.SampleSteps.{MakesOver}
use Rattle.sx_sampling.proofs.sample_unit.make_read.Goals as goal

pub returns-in-Ok-clause-step : goal.returns-in-Ok-clause-step
returns-in-Ok-clause-step g c = λ files told.
    let m = module_of c.args.source.now in
    goes_from unit_of (Untried (ReadsLanguage m.header.language files)) (MakesOver files m)
    (stated_of c.in-Ok.language) c.make_over-unit.result c.args.steps.now c.args.steps.now
    c.make_over-unit.new.steps (0, (c.in-Ok.ensures.step files told, refl), omega arith)
    (c.make_over-unit.ensures.step files (c.in-Ok.ensures.reads.content ∙ told))

pub returns-in-Err-clause-step : goal.returns-in-Err-clause-step
returns-in-Err-clause-step g c = λ files told.
    let m = module_of c.args.source.now in
    stops_at stated_of unit_of (Untried (ReadsLanguage m.header.language files))
    (MakesOver files m) c.in-Err.e c.args.steps.now c.args.steps.now
    (untried stated_of (ReadsLanguage m.header.language files) (Err c.in-Err.e)
    c.args.steps.now (c.in-Err.ensures.step files told))
