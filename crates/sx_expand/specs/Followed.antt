-- Bindings at a node of a derivation, while its premises are followed.
use Rattle.std.specs.Prelude.{◌≡◌, ℕ, ◌≤◌, List, length}
use Rattle.sx_term.specs.Tree.{Tree}
use Rattle.sx_rules.specs.Rules.{Premise, Rule, judgement_instance}
use Rattle.sx_rules.specs.Modes.{Modes, AreModed, inputs_of}
use Rattle.sx_arena.specs.Binds.{envs, env_at, IsBinds}
use Rattle.sx_arena.specs.Matching.{Assignment, IsBound, Agrees}
use Rattle.sx_expand.specs.declared.work.Work.{Work}

-- The variables that are bound have the node's terms, and with these premises left each variable
-- is bound before it is used.
pub record FollowsNode (modes : Modes) (rule : Rule) (s : ℕ → Tree) (ps : List Premise)
    (env : Assignment) : Type 0 where
  pub agrees : Agrees env s
  pub moded : AreModed modes (IsBound env) ps rule

-- the bindings of a node in work, by the terms of an arena
abbrev pub bindings_of : List Tree → Work → Assignment
bindings_of terms w = env_at (envs terms w.binds) w.env

-- they are of terms of the arena
pub record IsWork (terms : List Tree) (w : Work) : Type 0 where
  pub binds : IsBinds terms w.binds
  pub within : w.env ≤ length w.binds.cells.items

-- the node's terms give the rule's conclusion these inputs
abbrev pub NodeHasInputs : Modes → Rule → (ℕ → Tree) → List Tree → Type 0
NodeHasInputs modes rule s terms = terms ≡ inputs_of modes (judgement_instance s rule.conclusion)
