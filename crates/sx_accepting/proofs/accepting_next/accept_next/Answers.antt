use Rattle.sx_accepting.proofs.Accepting.{accepts_nothing}
use Rattle.sx_accepting.proofs.accepting_next.accept_next.Goals as goal

pub returns-in-Err-clause-step : goal.returns-in-Err-clause-step
returns-in-Err-clause-step g c =
    let given = c.args.given.now in
    accepts_nothing given.language.now c.args.so_far c.args.read given.budgets c.args.name.now
    c.args.steps.now c.args.steps.now
