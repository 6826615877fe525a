use Rattle.std.proofs.Common.{ap, sym, subst, ◌∙◌}
use Rattle.sx_interface.specs.declared.interfaces.Interface.{Interface}
use Rattle.sx_interface.specs.InterfaceView.{interface_view}
use Rattle.sx_environment.specs.SeenFrom.{IsShort}
use Rattle.sx_importing.proofs.imports_reading.read_import.Goals as goal

pub returns-in-Ok-clause-short : goal.returns-in-Ok-clause-short
returns-in-Ok-clause-short g c =
    let held = c.in-Ok.held in
    subst (λ (x : Interface). IsShort (interface_view x)) (sym c.import_in.ensures.interface)
    (c.interfaces_are_within.ensures 262144 c.args.name.now held.bytes.items
    (interface_view held.interface) c.in-Ok.ensures.short c.in-Ok.ensures.stated.states)

pub returns-in-Ok-clause-name : goal.returns-in-Ok-clause-name
returns-in-Ok-clause-name g c =
    ap (λ (x : Interface). x.«module») c.import_in.ensures.interface
    ∙ c.in-Ok.ensures.stated.states.valid.same
