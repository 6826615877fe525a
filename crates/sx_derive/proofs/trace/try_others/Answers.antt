use Rattle.std.proofs.Common.{drop}
use Rattle.sx_arena.specs.Views.{rules_of, set_modes}
use Rattle.sx_derive.specs.Runs.{candidates_of, left_by}
use Rattle.sx_derive.proofs.Halted.{run_halts}
use Rattle.sx_derive.proofs.trace.try_others.Goals as goal

pub returns-in_default : goal.returns-in_default
returns-in_default c = record {
  below = c.in_ok-ending.ensures.below;
  comes = λ first js x.
      run_halts (set_modes c.args.given.now.rules.now) (rules_of c.args.given.now.rules.now) c.args.given.now.pairs.now js (candidates_of c.args.given.now) first c.run.new.store c.args.tries.now c.run.new.tries (left_by c.args.given.now js c.args.store.now (drop c.args.base c.args.tasks.now.items)) (drop c.args.base c.run.new.tasks.items) c.in_ok-ending.ending
      c.in_default.not-Found c.in_default.not-Exhausted (c.in_ok-ending.ensures.run first js x);
}
