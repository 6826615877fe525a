use Rattle.std.proofs.Common.{◌≡◌, ap, sym, subst, ◌∙◌}
use Rattle.sx_interface.specs.declared.interfaces.Interface.{Interface}
use Rattle.sx_interface.specs.InterfaceView.{interface_view, mark_view}
use Rattle.sx_environment.specs.SeenFrom.{IsShort}
use Rattle.sx_interface.specs.declared.import.Import.{Import}
use Rattle.sx_steps.proofs.StepsOn.{goes_next, stops_first, reads_on}
use Rattle.sx_importing.specs.ReadImports.{ReadsImport, import_of}
use Rattle.sx_importing.proofs.Results.{if_ok}
use Rattle.sx_verify.specs.KeptImports.{ComparesImport}
use Rattle.sx_verify.proofs.kept_imports.read_kept.Goals as goal

pub returns-in-Ok-clause-step : goal.returns-in-Ok-clause-step
returns-in-Ok-clause-step g c = λ files told.
    let mark = mark_view c.args.mark.now in
    goes_next (λ (i : Import). interface_view i.interface) (ReadsImport files mark.name)
    (ComparesImport c.args.file.now mark) (import_of c.in-Ok.import) c.compare_import.result
    (c.in-Ok.ensures.step files told) c.compare_import.ensures.step

pub returns-in-Ok-clause-short : goal.returns-in-Ok-clause-short
returns-in-Ok-clause-short g c =
    let import = c.in-Ok.import in
    if_ok (λ (i : Import). i.interface ≡ import.interface)
    (λ i. IsShort (interface_view i.interface)) c.compare_import.result
    (λ i same. subst (λ (x : Interface). IsShort (interface_view x)) (sym same)
    c.in-Ok.ensures.short)
    c.compare_import.ensures.same

pub returns-in-Ok-clause-name : goal.returns-in-Ok-clause-name
returns-in-Ok-clause-name g c =
    let import = c.in-Ok.import in
    if_ok (λ (i : Import). i.interface ≡ import.interface)
    (λ i. i.interface.«module» ≡ c.args.mark.now.name) c.compare_import.result
    (λ i same. ap (λ (x : Interface). x.«module») same ∙ c.in-Ok.ensures.name)
    c.compare_import.ensures.same

pub returns-in-Ok-clause-reads : goal.returns-in-Ok-clause-reads
returns-in-Ok-clause-reads g c =
    reads_on _ _ _ _ _ _ _ c.compare_import.result c.in-Ok.ensures.reads
    c.compare_import.ensures.no_fault

pub returns-in-Err-clause-step : goal.returns-in-Err-clause-step
returns-in-Err-clause-step g c = λ files told.
    let mark = mark_view c.args.mark.now in
    stops_first import_of (λ (i : Import). interface_view i.interface)
    (ReadsImport files mark.name) (ComparesImport c.args.file.now mark) c.in-Err.e
    (c.in-Err.ensures.step files told)
