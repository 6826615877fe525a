use Rattle.std.proofs.Common.{ℕ, List, subst}
use Rattle.std.specs.Prelude.{Ok, Err}
use Rattle.std.specs.Global.{Vec}
use Rattle.sx_steps.specs.Held.{Held}
use Rattle.sx_term.specs.Limits.{most_bytes}
use Rattle.sx_steps.specs.Stop.{Gives}
use Rattle.sx_steps.proofs.StepsOn.{goes_next, stops_first}
use Rattle.sx_uses.specs.ExtensionFile.{extension_of, extension_file}
use Rattle.sx_uses.specs.ReadExtension.{StatesExtension}
use Rattle.sx_uses.proofs.read_extension.read_extension_file.Goals as goal

pub returns-in-Ok-clause-step : goal.returns-in-Ok-clause-step
returns-in-Ok-clause-step g c = λ files told.
    goes_next extension_of (Held most_bytes (extension_file c.args.name.now) files) (StatesExtension c.args.name.now) c.in-Ok.bytes.items c.state_extension.result
    (subst (λ (file : List ℕ). Held most_bytes file files (Ok c.in-Ok.bytes.items)) c.in_ok-file.ensures (c.in-Ok.ensures.step files told))
    c.state_extension.ensures.step

pub returns-clause-step : goal.returns-clause-step
returns-clause-step g c = λ files told.
    stops_first (λ (bytes : Vec ℕ). bytes.items) extension_of (Held most_bytes (extension_file c.args.name.now) files) (StatesExtension c.args.name.now) c.in-Err.e
    (subst (λ (file : List ℕ). Gives (λ (bytes : Vec ℕ). bytes.items) (Held most_bytes file files) (Err c.in-Err.e)) c.in_ok-file.ensures (c.in-Err.ensures.step files told))
