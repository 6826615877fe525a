use Rattle.std.proofs.Common.{ℕ, List, subst}
use Rattle.std.specs.Prelude.{Ok, Err}
use Rattle.sx_grammar.specs.Tables.{literals_of}
use Rattle.sx_environment.specs.SeenFrom.{interfaces_of}
use Rattle.sx_steps.specs.Stop.{Gives}
use Rattle.sx_steps.specs.Unit.{base_file}
use Rattle.sx_steps.specs.Work.{plan_of}
use Rattle.sx_steps.proofs.StepsOn.{goes_next, stops_first}
use Rattle.sx_accepting.specs.ReadLanguage.{stated_of}
use Rattle.sx_headers.specs.FreeImports.{HasFreeImports}
use Rattle.sx_verify.specs.VerifyModule.{VerifiesOver}
use Rattle.sx_verify.specs.WrittenFiles.{written_of}
use Rattle.sx_verify.proofs.verify_over.verify_names.Goals as goal

pub verify_free-requires-clause-free : goal.verify_free-requires-clause-free
verify_free-requires-clause-free g c = c.in-Ok.ensures.step

pub returns-in-Ok-clause-step : goal.returns-in-Ok-clause-step
returns-in-Ok-clause-step g c = λ files told.
    let name = c.args.asked.now.name.now in
    let w = written_of c.args.over.now.written.now in
    let l = stated_of c.args.over.now.language.now in
    let its = interfaces_of c.args.over.now.imports.now in
    let literals = literals_of l.language.parts in
    goes_next plan_of (HasFreeImports (base_file name) literals w.base)
    (λ done. VerifiesOver name files w l its) tt c.verify_free.result
    (subst (λ (file : List ℕ). HasFreeImports file literals w.base (Ok tt)) c.requires.files.base
    c.in-Ok.ensures.step)
    (c.verify_free.ensures.step files told)

pub returns-in-Err-clause-step : goal.returns-in-Err-clause-step
returns-in-Err-clause-step g c = λ files told.
    let name = c.args.asked.now.name.now in
    let w = written_of c.args.over.now.written.now in
    let l = stated_of c.args.over.now.language.now in
    let its = interfaces_of c.args.over.now.imports.now in
    let literals = literals_of l.language.parts in
    stops_first (λ (done : Unit {0}). done) plan_of
    (HasFreeImports (base_file name) literals w.base) (λ done. VerifiesOver name files w l its)
    c.in-Err.e
    (subst (λ (file : List ℕ). Gives (λ (done : Unit {0}). done)
    (HasFreeImports file literals w.base) (Err c.in-Err.e))
    c.requires.files.base c.in-Err.ensures.step)
