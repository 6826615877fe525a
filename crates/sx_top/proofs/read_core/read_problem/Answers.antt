use Rattle.std.proofs.Common.{ℕ, List, subst}
use Rattle.std.specs.Global.{Vec}
use Rattle.sx_core.specs.Problem.{problem}
use Rattle.sx_core.specs.CoreRead.{IsCoreAnswer}
use Rattle.sx_steps.specs.Held.{Held}
use Rattle.sx_term.specs.Limits.{most_bytes}
use Rattle.sx_steps.specs.Lower.{Lower}
use Rattle.sx_top.specs.LowerStops.{core_stop}
use Rattle.sx_steps.specs.Stop.{Gives}
use Rattle.sx_steps.proofs.StepsOn.{goes_next, stops_first}
use Rattle.sx_top.proofs.read_core.read_problem.Goals as goal

pub returns-in-Ok-clause-step : goal.returns-in-Ok-clause-step
returns-in-Ok-clause-step g c = λ files told.
    goes_next problem (Held most_bytes c.args.file.now files) (λ bytes. Lower (core_stop c.args.file.now) (IsCoreAnswer bytes)) c.in-Ok.bytes.items c.state_problem.result (c.in-Ok.ensures.step files told)
    (subst (λ (bytes : List ℕ). Gives problem (Lower (core_stop c.args.file.now) (IsCoreAnswer bytes)) c.state_problem.result) c.deref.ensures.value c.state_problem.ensures.step)

pub returns-in-Err-clause-step : goal.returns-in-Err-clause-step
returns-in-Err-clause-step g c = λ files told.
    stops_first (λ (bytes : Vec ℕ). bytes.items) problem (Held most_bytes c.args.file.now files) (λ bytes. Lower (core_stop c.args.file.now) (IsCoreAnswer bytes)) c.in-Err.e (c.in-Err.ensures.step files told)
