use Rattle.std.proofs.Common.{ℕ, List, ap, subst, ◌∙◌}
use Rattle.std.specs.Prelude.{Ok, Err}
use Rattle.sha2.specs.Sha256.{sha256}
use Rattle.sx_interface.specs.InterfaceView.{interface_view}
use Rattle.sx_words.specs.declared.closure_defect.Kept.TheVariants.{BaseDigest}
use Rattle.sx_steps.specs.Stop.{Gives}
use Rattle.sx_steps.specs.Unit.{base_file, interface_file}
use Rattle.sx_steps.proofs.StepsOn.{stops_first}
use Rattle.sx_headers.specs.ReadModule.{module_of}
use Rattle.sx_verify.specs.BaseFits.{FitsBeside}
use Rattle.sx_verify.specs.VerifyModule.{both_written, ComparesBase}
use Rattle.sx_verify.proofs.KeptDigests.{kept_as, base_kept}
use Rattle.sx_verify.proofs.written_files.compare_base.Goals as goal

pub returns-in-Ok-clause-step : goal.returns-in-Ok-clause-step
returns-in-Ok-clause-step c =
    let name = c.args.asked.now.name.now in
    let it = interface_view c.args.interface.now in
    let m = module_of c.args.base.now in
    base_kept name it m
    (subst (λ (file : List ℕ). FitsBeside file it m (Ok tt)) c.requires.files.base
    c.in-Ok.ensures.step)
    c.keep_digest.result
    (kept_as c.args.asked.now.interface.now (interface_file name) BaseDigest it.base
    c.digest-found.result.bytes (sha256 m.bytes) c.keep_digest.result c.requires.files.interface
    (c.digest-found.ensures ∙ ap sha256 c.deref.ensures.value) c.keep_digest.ensures.step)

pub returns-in-Err-clause-step : goal.returns-in-Err-clause-step
returns-in-Err-clause-step c =
    let name = c.args.asked.now.name.now in
    let it = interface_view c.args.interface.now in
    let m = module_of c.args.base.now in
    stops_first (λ (done : Unit {0}). done) (λ (done : Unit {0}). both_written it m)
    (FitsBeside (base_file name) it m) (λ done. ComparesBase name it m) c.in-Err.e
    (subst (λ (file : List ℕ).
    Gives (λ (done : Unit {0}). done) (FitsBeside file it m) (Err c.in-Err.e))
    c.requires.files.base c.in-Err.ensures.step)
