use Rattle.std.proofs.Common.{◌∙◌}
use Rattle.sx_steps.specs.Work.{plan_of}
use Rattle.sx_steps.proofs.StepsOn.{goes_next, stops_first}
use Rattle.sx_verify.specs.VerifyModule.{ReadsWritten, VerifiesWritten}
use Rattle.sx_verify.specs.WrittenFiles.{written_of}
use Rattle.sx_verify.proofs.verify_module.verify_asked.Goals as goal

pub returns-in-Ok-clause-step : goal.returns-in-Ok-clause-step
returns-in-Ok-clause-step g c = λ files told.
    let name = c.args.asked.now.name.now in
    goes_next plan_of (ReadsWritten name files) (VerifiesWritten name files)
    (written_of c.in-Ok.written) c.verify_written-work.result (c.in-Ok.ensures.step files told)
    (c.verify_written-work.ensures.step files (c.in-Ok.ensures.reads.content ∙ told))

pub returns-in-Err-clause-step : goal.returns-in-Err-clause-step
returns-in-Err-clause-step g c = λ files told.
    let name = c.args.asked.now.name.now in
    stops_first written_of plan_of (ReadsWritten name files) (VerifiesWritten name files)
    c.in-Err.e (c.in-Err.ensures.step files told)
