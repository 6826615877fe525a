use Rattle.std.proofs.Common.{ℕ, List, subst}
use Rattle.std.specs.Global.{Vec}
use Rattle.sx_steps.specs.Held.{Held}
use Rattle.sx_term.specs.Limits.{most_bytes}
use Rattle.sx_top.specs.Written.{Equals}
use Rattle.sx_steps.specs.Stop.{Gives}
use Rattle.sx_steps.proofs.StepsOn.{goes_next, stops_first}
use Rattle.sx_top.proofs.written.compare.Goals as goal

pub returns-in-Ok-clause-step : goal.returns-in-Ok-clause-step
returns-in-Ok-clause-step g c = λ files told.
    goes_next (λ (done : Unit {0}). done) (Held most_bytes c.args.file.now files) (Equals c.args.file.now c.args.text.now) c.in-Ok.bytes.items c.equal.result (c.in-Ok.ensures.step files told)
    (subst (λ (bytes : List ℕ). Gives (λ (done : Unit {0}). done) (Equals c.args.file.now c.args.text.now bytes) c.equal.result) c.deref.ensures.value c.equal.ensures.step)

pub returns-in-Err-clause-step : goal.returns-in-Err-clause-step
returns-in-Err-clause-step g c = λ files told.
    stops_first (λ (bytes : Vec ℕ). bytes.items) (λ (done : Unit {0}). done) (Held most_bytes c.args.file.now files) (Equals c.args.file.now c.args.text.now) c.in-Err.e (c.in-Err.ensures.step files told)
