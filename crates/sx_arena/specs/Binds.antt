-- Chains of bindings as assignments.
use Rattle.std.specs.Prelude.{◌≡◌, ℕ, zero, suc, ◌<◌, ◌≤◌, List, [], length, get_or, Option, Some}
use Rattle.std.specs.Prelude.{None}
use Rattle.sx_term.specs.Tree.{Tree}
use Rattle.sx_arena.specs.Matching.{Assignment, nothing_bound, bind}
use Rattle.sx_arena.specs.declared.binds.Bind.{Bind}
use Rattle.sx_arena.specs.declared.binds.Binds.{Binds}
use Rattle.sx_arena.specs.declared.chain.Chain.{Chain}
use Rattle.sx_arena.specs.Grown.{Extends, grown_from, CellsFit}
use Rattle.sx_arena.specs.Arena.{tree_at}

-- a chain: 0 binds nothing, and n + 1 is the one that ends with cell n
abbrev pub env_at : List Assignment → ℕ → Assignment
env_at es zero = nothing_bound
env_at es (suc i) = get_or es i nothing_bound

abbrev pub bind_step : List Tree → List Assignment → Bind → Assignment
bind_step ts es b = bind (env_at es b.before) b.variable (tree_at ts b.term)

pub record BindFits (ts : List Tree) (es : List Assignment) (b : Bind) : Type 0 where
  pub term : b.term < length ts
  pub before : b.before ≤ length es

abbrev pub envs : List Tree → Binds → List Assignment
envs ts b = grown_from (bind_step ts) [] b.cells.items

abbrev pub IsBinds : List Tree → Binds → Type 0
IsBinds ts b = CellsFit (bind_step ts) (BindFits ts) [] b.cells.items

-- the bindings of a chain
abbrev pub env_of : List Tree → Chain → Assignment
env_of ts c = env_at (envs ts c.binds.now) c.env

-- the chains go on from the others, whose cells stay where they are
pub record BindsGrow (ts : List Tree) (old new : Binds) : Type 0 where
  pub binds : IsBinds ts new
  pub cells : Extends old.cells.items new.cells.items
  pub extends : Extends (envs ts old) (envs ts new)

-- what a match answers: no chain where nothing matches, and else the chain that states the match
abbrev pub IsChainFit : List Tree → Binds → Option Assignment → Option ℕ → Type 0
IsChainFit ts new m None = m ≡ None
IsChainFit ts new m (Some e) = (e ≤ length new.cells.items) × (m ≡ Some (env_at (envs ts new) e))

-- the term that a variable is bound to
abbrev pub IsBoundTerm : List Tree → Option Tree → Option ℕ → Type 0
IsBoundTerm ts u None = u ≡ None
IsBoundTerm ts u (Some i) = (i < length ts) × (u ≡ Some (tree_at ts i))
