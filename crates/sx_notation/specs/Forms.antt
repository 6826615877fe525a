-- Forms in a rule grammar, and goals that fit them.
use Rattle.std.specs.Prelude.{◌≡◌, ℕ, ◌+◌, ◌≤◌, List, [], ◌∷◌, Option, Some, None, map, flat_map}
use Rattle.std.specs.Prelude.{length, slice_get}
use Rattle.sx_term.specs.declared.sort.Sort.{Sort}
use Rattle.sx_term.specs.Tree.{Tree}
use Rattle.sx_grammar.specs.Grammar.{Production, Grammar, Stem}
use Rattle.sx_grammar.specs.Parts.{Parts, numbered}
use Rattle.sx_grammar.specs.Print.{Fits}
use Rattle.sx_grammar.specs.Told.{kid_sorts}
use Rattle.sx_print.specs.Sorted.{place_of_sort}
use Rattle.sx_rules.specs.Views.{FormData, modes_of, sorts_of}
use Rattle.sx_rules.specs.Modes.{inputs, outputs, Goal}
use Rattle.sx_notation.specs.GoalText.{form_label}

-- the parts of the production with this label have the sorts of the form's places
abbrev pub IsFormAt : Parts → ℕ → FormData → Type 0
IsFormAt p label form =
    (r : Production) × (slice_get (numbered p).productions label ≡ Some r) ×
    (flat_map (kid_sorts p.sorts) r.symbols ≡ map (λ place. place.sort) form.places)

-- the last productions are one for each of the forms, in order, and three more
pub record HasForms (p : Parts) (forms : List FormData) : Type 0 where
  pub room : length forms + 3 ≤ length p.productions
  pub each : (n : ℕ) (form : FormData) → slice_get forms n ≡ Some form →
      IsFormAt p (form_label (length p.productions) (length forms) n) form

-- the terms have these sorts, one for each, under these sorts of their variables
abbrev pub HaveFits : Grammar → List Stem → List Sort → List Tree → Type 0
HaveFits g stems [] [] = Unit {0}
HaveFits g stems (s ∷ ss) (t ∷ ts) = Fits g stems (place_of_sort s) t × HaveFits g stems ss ts
HaveFits g stems _ _ = ⊥

-- so it is of the terms, where there are some
abbrev pub MayFit : Grammar → List Stem → List Sort → Option (List Tree) → Type 0
MayFit g stems sorts None = Unit {0}
MayFit g stems sorts (Some ts) = HaveFits g stems sorts ts

-- the goal is of one of the forms, and its inputs, and its outputs where they were got, have the
-- sorts of the form's places, under some sorts of as many variables at most
pub record GoalFits (g : Grammar) (variables : ℕ) (forms : List FormData) (goal : Goal)
    (got : Option (List Tree)) : Type 0 where
  pub form : FormData
  pub is : slice_get forms goal.form ≡ Some form
  pub stems : List Stem
  pub named : length stems ≤ variables
  pub inputs_fit : HaveFits g stems (inputs (modes_of forms goal.form) (sorts_of forms goal.form))
      goal.terms
  pub outputs_fit : MayFit g stems (outputs (modes_of forms goal.form) (sorts_of forms goal.form))
      got
