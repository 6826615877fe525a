use Rattle.std.proofs.Common.{ℕ, List, subst}
use Rattle.std.specs.Prelude.{Ok, Err}
use Rattle.sx_interface.specs.InterfaceView.{interface_view}
use Rattle.sx_steps.specs.Stop.{Gives}
use Rattle.sx_steps.specs.Unit.{base_file}
use Rattle.sx_steps.proofs.StepsOn.{goes_next, stops_first, reads_on}
use Rattle.sx_headers.specs.ReadModule.{module_of, ReadsModule}
use Rattle.sx_verify.specs.VerifyModule.{FitsBase}
use Rattle.sx_verify.specs.WrittenFiles.{written_of}
use Rattle.sx_verify.proofs.written_files.read_base.Goals as goal

pub beside-requires-clause-names : goal.beside-requires-clause-names
beside-requires-clause-names g c = c.in-Ok.ensures.headed.states.imports

pub returns-in-Ok-clause-step : goal.returns-in-Ok-clause-step
returns-in-Ok-clause-step g c = λ files told.
    let name = c.args.asked.now.name.now in
    let m = module_of c.in-Ok.base in
    goes_next written_of (ReadsModule (base_file name) name files)
    (FitsBase name (interface_view c.args.held.interface)) m c.beside.result
    (subst (λ (file : List ℕ). ReadsModule file name files (Ok m)) c.requires.base
    (c.in-Ok.ensures.step files told))
    c.beside.ensures.step

pub returns-in-Ok-clause-reads : goal.returns-in-Ok-clause-reads
returns-in-Ok-clause-reads g c =
    reads_on _ _ _ _ _ _ _ c.beside.result c.in-Ok.ensures.reads c.beside.ensures.no_fault

pub returns-in-Err-clause-step : goal.returns-in-Err-clause-step
returns-in-Err-clause-step g c = λ files told.
    let name = c.args.asked.now.name.now in
    stops_first module_of written_of (ReadsModule (base_file name) name files)
    (FitsBase name (interface_view c.args.held.interface)) c.in-Err.e
    (subst (λ (file : List ℕ). Gives module_of (ReadsModule file name files) (Err c.in-Err.e))
    c.requires.base (c.in-Err.ensures.step files told))
