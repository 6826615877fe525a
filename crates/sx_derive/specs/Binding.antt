-- Whether an assignment binds the variables of terms.
use Rattle.std.specs.Prelude.{◌≡◌, ℕ, ◌&&◌, Bool, true, List, [], ◌∷◌, Option, Some}
use Rattle.std.specs.Prelude.{slice_get, is_some}
use Rattle.sx_term.specs.Tree.{Tree, Trees, node, lexeme, hole, none, ◌▹◌}
use Rattle.sx_arena.specs.Matching.{Assignment}
use Rattle.sx_rules.specs.Modes.{Modes, inputs_of}
use Rattle.sx_rules.specs.Rules.{Judgement, Premise, holds}

-- whether each variable of the term is bound
abbrev mutual
  pub binds_term : Assignment → Tree → Bool
  binds_term env (node label kids) = binds_kids env kids
  binds_term env (lexeme kind text) = true
  binds_term env (hole v) = is_some (env v)

  -- whether each variable of the kids is bound
  pub binds_kids : Assignment → Trees → Bool
  binds_kids env none = true
  binds_kids env (t ▹ ts) = binds_term env t && binds_kids env ts

-- whether each variable of the terms is bound
abbrev pub binds_terms : Assignment → List Tree → Bool
binds_terms env [] = true
binds_terms env (t ∷ ts) = binds_term env t && binds_terms env ts

-- the judgement is the premise that is noted, and each variable of its inputs is bound
abbrev pub IsBoundPremise : Modes → List Premise → Assignment → Option ℕ → Judgement → Type 0
IsBoundPremise modes ps env noted j =
    (k : ℕ) × (noted ≡ Some k) × (slice_get ps k ≡ Some (holds j))
    × (binds_terms env (inputs_of modes j) ≡ true)
