use Rattle.sx_environment.specs.SeenFrom.{interfaces_of}
use Rattle.sx_steps.specs.Work.{plan_of}
use Rattle.sx_steps.proofs.StepsOn.{goes_next, stops_first}
use Rattle.sx_accepting.specs.ReadLanguage.{stated_of, StatesLanguage}
use Rattle.sx_verify.specs.VerifyModule.{VerifiesNames}
use Rattle.sx_verify.specs.WrittenFiles.{written_of}
use Rattle.sx_verify.proofs.verify_module.verify_language.Goals as goal

pub verify_names-work-requires-clause-over : goal.verify_names-work-requires-clause-over
verify_names-work-requires-clause-over g c = record {
  short = c.requires.written.short;
  names = c.requires.written.names;
  read = c.requires.read;
  imports = c.requires.imports;
  language = c.in-Ok.ensures.fit;
  text = (c.args.written.now.interface.language, c.in-Ok.ensures.text);
  named = c.in-Ok.ensures.named;
}

pub returns-in-Ok-clause-step : goal.returns-in-Ok-clause-step
returns-in-Ok-clause-step g c = λ files told.
    let name = c.args.asked.now.name.now in
    let w = written_of c.args.written.now in
    goes_next plan_of (StatesLanguage w.interface.language.name c.args.bytes.now)
    (VerifiesNames name files w (interfaces_of c.args.imports.now)) (stated_of c.in-Ok.language)
    c.verify_names-work.result c.in-Ok.ensures.step
    (c.verify_names-work.ensures.step files told)

pub returns-in-Err-clause-step : goal.returns-in-Err-clause-step
returns-in-Err-clause-step g c = λ files told.
    let name = c.args.asked.now.name.now in
    let w = written_of c.args.written.now in
    stops_first stated_of plan_of (StatesLanguage w.interface.language.name c.args.bytes.now)
    (VerifiesNames name files w (interfaces_of c.args.imports.now)) c.in-Err.e
    c.in-Err.ensures.step
