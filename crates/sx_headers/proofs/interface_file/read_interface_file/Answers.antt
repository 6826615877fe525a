use Rattle.std.proofs.Common.{ℕ}
use Rattle.std.specs.Global.{Vec}
use Rattle.sx_steps.specs.Held.{Held}
use Rattle.sx_term.specs.Limits.{most_bytes}
use Rattle.sx_steps.proofs.StepsOn.{goes_next, stops_first}
use Rattle.sx_headers.specs.ReadInterface.{held_interface, StatesParts}
use Rattle.sx_headers.proofs.interface_file.read_interface_file.Goals as goal

pub returns-in-Ok-clause-step : goal.returns-in-Ok-clause-step
returns-in-Ok-clause-step g c = λ files told.
    goes_next held_interface (Held most_bytes c.args.file.now files)
    (StatesParts c.args.file.now c.args.name.now) c.in-Ok.bytes.items c.state_interface.result
    (c.in-Ok.ensures.step files told) c.state_interface.ensures.step

pub returns-in-Err-clause-step : goal.returns-in-Err-clause-step
returns-in-Err-clause-step g c = λ files told.
    stops_first (λ (bytes : Vec ℕ). bytes.items) held_interface
    (Held most_bytes c.args.file.now files) (StatesParts c.args.file.now c.args.name.now)
    c.in-Err.e (c.in-Err.ensures.step files told)
