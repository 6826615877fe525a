use Rattle.std.proofs.Common.{map, sym, subst}
use Rattle.std.specs.Prelude.{Err}
use Rattle.sx_rules.specs.Views.{named, goal as goal_of}
use Rattle.sx_core.specs.Machine.{IsProblemMade}
use Rattle.sx_core.proofs.FinishLaws.{made_refused}
use Rattle.sx_core.proofs.finish.make_problem.Goals as goal

pub returns-in-Err-made : goal.returns-in-Err-made
returns-in-Err-made c =
    subst (λ e. IsProblemMade c.args.found (map named c.args.rules.items) (goal_of c.args.goal) (Err e)) (sym c.rule_error.ensures) (made_refused c.args.found (map named c.args.rules.items) (goal_of c.args.goal) c.in-Err-made.e c.in-Err-made.ensures)
