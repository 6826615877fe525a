use Rattle.std.proofs.Common.{◌≡◌, List, drop}
use Rattle.sx_term.specs.Tree.{Tree, depth_of}
use Rattle.sx_term.specs.Term.{tree}
use Rattle.sx_term.proofs.Kids.{trees}
use Rattle.sx_arena.specs.Binds.{envs, env_at, IsBinds}
use Rattle.sx_derive.specs.Binding.{binds_kids}
use Rattle.sx_derive.proofs.bound_inputs.+is_bound.Given as goal

abbrev pub decreases-is_bound : goal.decreases-is_bound
decreases-is_bound l = depth_of (tree l.term.now)

abbrev pub invariant-loop-kid : goal.invariant-loop-kid
invariant-loop-kid l = (ts : List Tree) → IsBinds ts l.binds → binds_kids (env_at (envs ts l.binds) l.env) (trees (drop l.kid-index l.kid-items)) ≡ binds_kids (env_at (envs ts l.binds) l.env) (trees l.kid-items)
