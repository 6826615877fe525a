use Rattle.std.proofs.Common.{ℕ}
use Rattle.std.specs.Global.{Vec}
use Rattle.sx_steps.specs.Held.{Held}
use Rattle.sx_term.specs.Limits.{most_bytes}
use Rattle.sx_steps.proofs.StepsOn.{goes_next, stops_first}
use Rattle.sx_headers.specs.ReadModule.{module_of, StatesModule}
use Rattle.sx_headers.proofs.module_file.read_module.Goals as goal

pub returns-in-Ok-clause-step : goal.returns-in-Ok-clause-step
returns-in-Ok-clause-step g c = λ files told.
    goes_next module_of (Held most_bytes c.args.file.now files)
    (StatesModule c.args.file.now c.args.name.now) c.in-Ok.bytes.items c.state_module.result
    (c.in-Ok.ensures.step files told) c.state_module.ensures.step

pub returns-in-Err-clause-step : goal.returns-in-Err-clause-step
returns-in-Err-clause-step g c = λ files told.
    stops_first (λ (bytes : Vec ℕ). bytes.items) module_of (Held most_bytes c.args.file.now files)
    (StatesModule c.args.file.now c.args.name.now) c.in-Err.e (c.in-Err.ensures.step files told)
