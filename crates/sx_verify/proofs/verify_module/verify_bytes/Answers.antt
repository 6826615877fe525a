use Rattle.std.specs.Prelude.{Ok, Err}
use Rattle.sha2.specs.Sha256.{sha256}
use Rattle.sx_words.specs.declared.closure_defect.Kept.TheVariants.{LanguageDigest}
use Rattle.sx_steps.specs.Unit.{interface_file}
use Rattle.sx_steps.specs.Work.{plan_of}
use Rattle.sx_steps.proofs.StepsOn.{goes_next, stops_first}
use Rattle.sx_importing.specs.KeptValues.{KeepsDigest}
use Rattle.sx_verify.specs.VerifyModule.{VerifiesImports}
use Rattle.sx_verify.specs.WrittenFiles.{written_of}
use Rattle.sx_verify.proofs.KeptDigests.{kept_as}
use Rattle.sx_verify.proofs.verify_module.verify_bytes.Goals as goal

pub returns-in-Ok-clause-step : goal.returns-in-Ok-clause-step
returns-in-Ok-clause-step g c = λ files told.
    let name = c.args.asked.now.name.now in
    let w = written_of c.args.written.now in
    let due = sha256 c.args.bytes.now in
    let kept = w.interface.language.digest in
    goes_next plan_of (KeepsDigest (interface_file name) LanguageDigest kept due)
    (λ done. VerifiesImports name files w c.args.bytes.now) tt c.verify_imports.result
    (kept_as c.args.asked.now.interface.now (interface_file name) LanguageDigest kept
    c.digest-found.result.bytes due (Ok tt) c.requires.files.interface c.digest-found.ensures
    c.in-Ok.ensures.step)
    (c.verify_imports.ensures.step files told)

pub returns-in-Err-clause-step : goal.returns-in-Err-clause-step
returns-in-Err-clause-step g c = λ files told.
    let name = c.args.asked.now.name.now in
    let w = written_of c.args.written.now in
    let due = sha256 c.args.bytes.now in
    let kept = w.interface.language.digest in
    stops_first (λ (done : Unit {0}). done) plan_of
    (KeepsDigest (interface_file name) LanguageDigest kept due)
    (λ done. VerifiesImports name files w c.args.bytes.now) c.in-Err.e
    (kept_as c.args.asked.now.interface.now (interface_file name) LanguageDigest kept
    c.digest-found.result.bytes due (Err c.in-Err.e) c.requires.files.interface
    c.digest-found.ensures c.in-Err.ensures.step)
