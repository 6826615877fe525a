use Rattle.std.proofs.Common.{ℕ, List, subst, ◌∙◌, Vec}
use Rattle.std.specs.Global.{Global}
use Rattle.std.specs.Prelude.{Ok, Err}
use Rattle.sx_steps.specs.Held.{Held}
use Rattle.sx_term.specs.Limits.{most_bytes}
use Rattle.sx_steps.specs.Stop.{Gives}
use Rattle.sx_steps.specs.Work.{plan_of}
use Rattle.sx_steps.proofs.StepsOn.{goes_next, stops_first}
use Rattle.sx_accepting.specs.LanguageFiles.{language_file}
use Rattle.sx_verify.specs.VerifyModule.{VerifiesDigest}
use Rattle.sx_verify.specs.WrittenFiles.{written_of}
use Rattle.sx_verify.proofs.verify_module.verify_written.Goals as goal

pub returns-in-Ok-clause-step : goal.returns-in-Ok-clause-step
returns-in-Ok-clause-step g c = λ files told.
    let name = c.args.asked.now.name.now in
    let w = written_of c.args.written.now in
    let bytes = c.in-Ok.bytes.items in
    goes_next plan_of (Held most_bytes (language_file w.interface.language.name) files)
    (VerifiesDigest name files w) bytes c.verify_bytes.result
    (subst (λ (file : List ℕ). Held most_bytes file files (Ok bytes)) c.in_ok-file.ensures
    (c.in-Ok.ensures.step files told))
    (subst (λ (bs : List ℕ). Gives plan_of (VerifiesDigest name files w bs) c.verify_bytes.result)
    c.deref.ensures.value
    (c.verify_bytes.ensures.step files (c.in-Ok.ensures.reads.content ∙ told)))

pub returns-clause-step : goal.returns-clause-step
returns-clause-step g c = λ files told.
    let name = c.args.asked.now.name.now in
    let w = written_of c.args.written.now in
    stops_first (λ (v : Vec ℕ Global). v.items) plan_of
    (Held most_bytes (language_file w.interface.language.name) files)
    (VerifiesDigest name files w) c.in-Err.e
    (subst (λ (file : List ℕ). Gives (λ (v : Vec ℕ Global). v.items)
    (Held most_bytes file files) (Err c.in-Err.e)) c.in_ok-file.ensures
    (c.in-Err.ensures.step files told))
