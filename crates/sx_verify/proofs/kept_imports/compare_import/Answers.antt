use Rattle.std.proofs.Common.{◌≡◌, refl}
use Rattle.std.specs.Prelude.{Ok, Result}
use Rattle.sx_interface.specs.Interfaces.{InterfaceParts}
use Rattle.sx_interface.specs.InterfaceView.{interface_view, mark_view}
use Rattle.sx_steps.specs.declared.stop.Stop.{Stop}
use Rattle.sx_steps.proofs.StepsOn.{stops_first}
use Rattle.sx_interface.specs.declared.import.Import.{Import}
use Rattle.sx_verify.specs.KeptImports.{KeepsImport}
use Rattle.sx_verify.proofs.kept_imports.compare_import.Goals as goal

pub returns-in-Ok-clause-step : goal.returns-in-Ok-clause-step
returns-in-Ok-clause-step c =
    record { given = Ok tt; begins = c.in-Ok.ensures.step; goes = refl }

pub returns-in-Err-clause-step : goal.returns-in-Err-clause-step
returns-in-Err-clause-step c =
    let parts = interface_view c.args.import.interface in
    let next : Unit {0} → Result InterfaceParts Stop → Type 0 = λ done result. result ≡ Ok parts in
    stops_first (λ (done : Unit {0}). done) (λ (i : Import). interface_view i.interface)
    (KeepsImport c.args.file.now (mark_view c.args.mark.now) c.args.import.digest.bytes) next
    c.in-Err.e c.in-Err.ensures.step
