use Rattle.sx_arena.specs.Arena.{trees}
use Rattle.sx_arena.specs.Binds.{envs, env_at}
use Rattle.sx_arena.proofs.Exporting.{values_more}
use Rattle.sx_arena.proofs.output.export_binds.Goals as goal

pub loop-variable-preserved : goal.loop-variable-preserved
loop-variable-preserved c = values_more (trees c.args.arena.now) (env_at (envs (trees c.args.arena.now) c.args.binds.now) c.args.env) c.loop-variable.variable _ _ _ c.loop-variable.invariant c.in_ok-value.ensures c.in_ok-push.ensures.items
