-- The subjects of lowered nodes, by number.
use Rattle.std.specs.Prelude.{◌≡◌, ℕ, List, [], ◌∷◌, map, Option, Some, None}
use Rattle.sx_term.specs.Tree.{Tree}
use Rattle.sx_term.specs.Instances.{instance, bound_by}
use Rattle.sx_rules.specs.Modes.{Modes}
use Rattle.sx_rules.specs.Rules.{Judgement}
use Rattle.sx_plain.specs.Plain.{Table}
use Rattle.sx_arena.specs.declared.arena.Arena.{Arena}
use Rattle.sx_arena.specs.Arena.{trees, tree_at, IsHeld}
use Rattle.sx_rewrite.specs.Accepted.{Known, basic, checked, flat_conclusion}

-- the judgement of what a node by the rule is lowered to, before terms are put for its variables
abbrev pub own_judgement : Table → Modes → Known → Judgement
own_judgement table subjects (basic rule) = rule.conclusion
own_judgement table subjects (checked c) = flat_conclusion table subjects c

-- the first of the subjects, with the terms of these numbers for its variables, stands in
-- the arena, or there is none
abbrev pub IsSubjectMade : Arena → Arena → List ℕ → List Tree → Option ℕ → Type 0
IsSubjectMade old new numbers subjects None = subjects ≡ []
IsSubjectMade old new numbers subjects (Some i) =
    (t : Tree) × (rest : List Tree) × (subjects ≡ t ∷ rest)
    × IsHeld old new i (instance (bound_by (map (tree_at (trees old)) numbers)) t)
