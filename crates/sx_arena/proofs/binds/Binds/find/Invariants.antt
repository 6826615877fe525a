use Rattle.std.proofs.Common.{◌≡◌, ◌≤◌, List, length}
use Rattle.sx_term.specs.Tree.{Tree}
use Rattle.sx_arena.specs.Binds.{envs, env_at, IsBinds}
use Rattle.sx_arena.proofs.binds.Binds.find.Given as goal

abbrev pub invariant-loop-here : goal.invariant-loop-here
invariant-loop-here l = record {
  within : l.here ≤ length l.self.cells.items;
  same : (ts : List Tree) → IsBinds ts l.self → env_at (envs ts l.self) l.env l.variable ≡ env_at (envs ts l.self) l.here l.variable;
}

abbrev pub decreases-loop-here : goal.decreases-loop-here
decreases-loop-here l = l.here
