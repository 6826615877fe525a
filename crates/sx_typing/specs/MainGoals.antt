-- The goal by which a module is compiled: an environment at the input, a term at the subject.
use Rattle.std.specs.Prelude.{◌≡◌, ℕ, ◌≤◌, List, [], ◌∷◌, flat_map, Some, slice_get}
use Rattle.std.specs.List.{AllByRecursion}
use Rattle.sx_term.specs.Tree.{Tree, depth_of, part_at}
use Rattle.sx_term.specs.Sorts.{Shape, HasSort, HaveSorts}
use Rattle.sx_term.specs.declared.sort.Sort.{Sort}
use Rattle.sx_grammar.specs.Grammar.{Token, Text}
use Rattle.sx_grammar.specs.Print.{term_of}
use Rattle.sx_grammar.specs.Reading.{Reading}
use Rattle.sx_print.specs.Cut.{HasLexemes}
use Rattle.sx_forest.specs.Places.{place_at}
use Rattle.sx_term.specs.declared.role.Role.{Role}
use Rattle.sx_term.specs.declared.role.Role.TheVariants.{In, Sub, Out}
use Rattle.sx_rules.specs.declared.rule.Place.{Place}
use Rattle.sx_rules.specs.Deep.{AreShallow}
use Rattle.sx_rules.specs.Modes.{outputs, Goal}
use Rattle.sx_rules.specs.Sorts.{GoalIsSorted}
use Rattle.sx_rules.specs.Views.{FormData, modes_of, sorts_of, places_at}
use Rattle.sx_notation.specs.Language.{sorts_with}
use Rattle.sx_typing.specs.Outcomes.{LeadsToPart}
use Rattle.sx_term.specs.Limits.{most_depth}

-- the term that stands at a place with this role, where it is no output
abbrev pub input_at : Tree → Tree → Role → List Tree
input_at environment subject In = environment ∷ []
input_at environment subject Sub = subject ∷ []
input_at environment subject Out = []

-- the terms of the goal in the order of the form's places
abbrev pub main_terms : List Place → Tree → Tree → List Tree
main_terms places environment subject = flat_map (λ p. input_at environment subject p.role) places

-- the goal of the form with this number
abbrev pub main_goal : List FormData → ℕ → Tree → Tree → Goal
main_goal forms form environment subject =
    record { form = form; terms = main_terms (places_at forms form) environment subject }

-- The form has one input, one subject and one output, of these sorts. Then the goal is well sorted
-- where the terms are, the empty path leads to its subject, and outputs that are well sorted are
-- one term.
abbrev pub MainGoalsFit : Type 0
MainGoalsFit =
    (shapes : List Shape) (forms : List FormData) (vars : List Sort) (number : ℕ) (form : FormData)
    (input sort output : Sort) (environment subject : Tree) →
    slice_get forms number ≡ Some form → sorts_with In form.places ≡ input ∷ [] →
    sorts_with Sub form.places ≡ sort ∷ [] → sorts_with Out form.places ≡ output ∷ [] →
    HasSort shapes vars environment input → HasSort shapes vars subject sort →
    GoalIsSorted shapes (sorts_of forms) (modes_of forms) vars
    (main_goal forms number environment subject)
    × LeadsToPart forms subject [] (main_goal forms number environment subject)
    × ((outs : List Tree) → HaveSorts shapes vars outs
    (outputs (modes_of forms number) (sorts_of forms number)) → (t : Tree) × (outs ≡ t ∷ []) ×
    HasSort shapes vars t output)

-- where the lexemes of the environment and of the subject are tokens, so are those of each of the
-- terms; so it is with their depth
abbrev pub MainGoalsHaveLexemes : Type 0
MainGoalsHaveLexemes =
    (literals : List Text) (places : List Place) (environment subject : Tree) →
    HasLexemes literals environment → HasLexemes literals subject →
    AllByRecursion (HasLexemes literals) (main_terms places environment subject)

abbrev pub MainGoalsAreShallow : Type 0
MainGoalsAreShallow =
    (places : List Place) (environment subject : Tree) → depth_of environment ≤ most_depth →
    depth_of subject ≤ most_depth → AreShallow (main_terms places environment subject)

-- a path that leads to a part of the term that was read leads to a place of the reading
abbrev pub PartsHavePlaces : Type 0
PartsHavePlaces =
    (tokens : List Token) (names : List Text) (r : Reading) (path : List ℕ) (part : Tree) →
    part_at (term_of tokens names r) path ≡ Some part →
    (place : ℕ) × (place_at r path ≡ Some place)
