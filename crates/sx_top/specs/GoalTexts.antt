-- A goal of a core file in a printed line.
use Rattle.std.specs.Prelude.{ℕ, Bool, true, false, List, [], ◌∷◌, ◌++◌, codes, Option, Some, None}
use Rattle.sx_term.specs.Tree.{Tree}
use Rattle.sx_term.specs.Core.{core}
use Rattle.sx_rules.specs.Views.{FormData, modes_of}
use Rattle.sx_rules.specs.Modes.{Goal}
use Rattle.sx_top.specs.CoreTexts.{form_name}

-- each place after a blank: the core text of an input, and for an output `_`, or the core text of
-- the output got
abbrev pub places_text : List Bool → List Tree → Option (List Tree) → List ℕ
places_text [] inputs got = []
places_text (true ∷ modes) inputs None = codes " _" ++ places_text modes inputs None
places_text (true ∷ modes) inputs (Some []) = []
places_text (true ∷ modes) inputs (Some (term ∷ got)) =
    32 ∷ (core term ++ places_text modes inputs (Some got))
places_text (false ∷ modes) [] got = []
places_text (false ∷ modes) (term ∷ inputs) got = 32 ∷ (core term ++ places_text modes inputs got)

-- the form's name and its places, with the outputs got where there are some
abbrev pub core_goal_text : List FormData → Goal → Option (List Tree) → List ℕ
core_goal_text forms goal got =
    form_name forms goal.form ++ places_text (modes_of forms goal.form) goal.terms got
