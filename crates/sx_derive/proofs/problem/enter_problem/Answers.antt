use Rattle.sx_arena.specs.Views.{rules_of, set_modes}
use Rattle.sx_derive.proofs.problem.enter_problem.Goals as goal

pub enter_parts-requires-clause-store : goal.enter_parts-requires-clause-store
enter_parts-requires-clause-store c = c.new-store.ensures (set_modes c.args.rules.now) (rules_of c.args.rules.now)
