use Rattle.std.proofs.Common.{ℕ, List, map, sym, subst, ap, ◌∙◌, Vec}
use Rattle.std.specs.Global.{Global}
use Rattle.std.specs.List.{AllByRecursion}
use Rattle.std.specs.Prelude.{Ok, Err}
use Rattle.sx_interface.specs.declared.interfaces.ImportMark.{ImportMark}
use Rattle.sx_interface.specs.InterfaceView.{mark_view}
use Rattle.sx_environment.specs.SeenFrom.{IsShort, interfaces_of}
use Rattle.sx_interface.specs.declared.import.Import.{Import}
use Rattle.sx_steps.specs.Stop.{Gives}
use Rattle.sx_steps.specs.Unit.{interface_file}
use Rattle.sx_steps.specs.Work.{plan_of}
use Rattle.sx_steps.proofs.StepsOn.{goes_next, stops_first}
use Rattle.sx_verify.specs.BaseFits.{mark_names}
use Rattle.sx_verify.specs.KeptImports.{ReadsAllKept}
use Rattle.sx_verify.specs.VerifyModule.{VerifiesLanguage}
use Rattle.sx_verify.specs.WrittenFiles.{written_of}
use Rattle.sx_verify.proofs.verify_module.verify_imports.Goals as goal

pub verify_language-work-requires-clause-imports : goal.verify_language-work-requires-clause-imports
verify_language-work-requires-clause-imports g c =
    subst (λ (is : List Import). AllByRecursion IsShort (interfaces_of is))
    (sym c.deref-in-Ok.ensures.value) c.in-Ok.ensures.short

pub verify_language-work-requires-clause-read : goal.verify_language-work-requires-clause-read
verify_language-work-requires-clause-read g c =
    ap (λ (is : List Import). map (λ it. it.name) (interfaces_of is)) c.deref-in-Ok.ensures.value
    ∙ c.in-Ok.ensures.names
    ∙ ap (λ (ms : List ImportMark). mark_names (map mark_view ms)) c.deref.ensures.value
    ∙ sym c.requires.written.fits.imports

pub returns-in-Ok-clause-step : goal.returns-in-Ok-clause-step
returns-in-Ok-clause-step g c = λ files told.
    let name = c.args.asked.now.name.now in
    let w = written_of c.args.written.now in
    let its = interfaces_of c.in-Ok.imports.items in
    goes_next plan_of (ReadsAllKept (interface_file name) files w.interface.imports)
    (VerifiesLanguage name files w c.args.bytes.now) its c.verify_language-work.result
    (subst (λ (file : List ℕ). ReadsAllKept file files w.interface.imports (Ok its))
    c.requires.files.interface
    (subst (λ (ms : List ImportMark).
    ReadsAllKept c.args.asked.now.interface.now files (map mark_view ms) (Ok its))
    c.deref.ensures.value (c.in-Ok.ensures.step files told)))
    (subst (λ (is : List Import). Gives plan_of
    (VerifiesLanguage name files w c.args.bytes.now (interfaces_of is))
    c.verify_language-work.result) c.deref-in-Ok.ensures.value
    (c.verify_language-work.ensures.step files (c.in-Ok.ensures.reads.content ∙ told)))

pub returns-in-Err-clause-step : goal.returns-in-Err-clause-step
returns-in-Err-clause-step g c = λ files told.
    let name = c.args.asked.now.name.now in
    let w = written_of c.args.written.now in
    stops_first (λ (v : Vec Import Global). interfaces_of v.items) plan_of
    (ReadsAllKept (interface_file name) files w.interface.imports)
    (VerifiesLanguage name files w c.args.bytes.now) c.in-Err.e
    (subst (λ (file : List ℕ). Gives (λ (v : Vec Import Global). interfaces_of v.items)
    (ReadsAllKept file files w.interface.imports) (Err c.in-Err.e))
    c.requires.files.interface
    (subst (λ (ms : List ImportMark). Gives (λ (v : Vec Import Global). interfaces_of v.items)
    (ReadsAllKept c.args.asked.now.interface.now files (map mark_view ms)) (Err c.in-Err.e))
    c.deref.ensures.value (c.in-Err.ensures.step files told)))
