use Rattle.std.proofs.Common.{◌≡◌, map}
use Rattle.sx_term.specs.Term.{tree}
use Rattle.sx_arena.specs.Matching.{filled}
use Rattle.sx_arena.specs.Limits.{first_values}
use Rattle.sx_arena.specs.Arena.{trees}
use Rattle.sx_arena.specs.Binds.{envs, env_at}
use Rattle.sx_arena.proofs.output.export_binds.Given as goal

abbrev pub invariant-loop-variable : goal.invariant-loop-variable
invariant-loop-variable l = map tree l.terms.items ≡ first_values l.variable (filled (env_at (envs (trees l.arena) l.binds) l.env))
