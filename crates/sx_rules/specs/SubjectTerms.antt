-- Subjects and outputs of judgements, as the code holds them.
use Rattle.std.specs.Prelude.{◌≡◌, Bool, List, [], ◌∷◌, map, Option, Some, None}
use Rattle.sx_term.specs.Tree.{Tree}
use Rattle.sx_term.specs.Term.{tree}
use Rattle.sx_term.specs.declared.term.Term.{Term}
use Rattle.sx_rules.specs.declared.rule.Place.{Place}
use Rattle.sx_rules.specs.Views.{is_out, is_sub}

-- which of the places are subjects
abbrev pub subject_mask : List Place → List Bool
subject_mask places = map (λ p. is_sub p.role) places

-- which of the places are outputs
abbrev pub output_mask : List Place → List Bool
output_mask places = map (λ p. is_out p.role) places

-- the term is the first of the terms, or there is none
abbrev pub IsSubject : List Tree → Option Term → Type 0
IsSubject ts None = ts ≡ []
IsSubject ts (Some t) = (rest : List Tree) × (ts ≡ tree t ∷ rest)
