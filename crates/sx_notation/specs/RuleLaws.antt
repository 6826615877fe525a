-- What holds of the grammar by which rules are read.
use Rattle.std.specs.Prelude.{◌≡◌, ℕ, ◌≤◌, List, [], ◌∷◌, Option, Some, None, map, flat_map, length}
use Rattle.std.specs.Prelude.{slice_get, Contains}
use Rattle.std.specs.List.{AllByRecursion}
use Rattle.sx_term.specs.declared.sort.Sort.{Sort}
use Rattle.sx_term.specs.declared.sort.Sort.TheVariants.{Lex}
use Rattle.sx_term.specs.Tree.{Tree}
use Rattle.sx_term.specs.Sorts.{Shape, HaveSorts}
use Rattle.sx_grammar.specs.Grammar.{Production}
use Rattle.sx_grammar.specs.Parts.{Parts, names, number_of, numbered}
use Rattle.sx_grammar.specs.Made.{IsGrammar}
use Rattle.sx_grammar.specs.Told.{sort_with, shapes_of}
use Rattle.sx_rules.specs.declared.rule.Place.{Place as PlaceOf}
use Rattle.sx_rules.specs.Views.{FormData, modes_of, sorts_of}
use Rattle.sx_rules.specs.Modes.{outputs, Goal}
use Rattle.sx_rules.specs.Sorts.{GoalIsSorted}
use Rattle.sx_directives.specs.declared.spelled.SpelledSort.{SpelledSort}
use Rattle.sx_directives.specs.declared.spelled.SpelledSort.TheVariants.{Lex as Lexical, Named}
use Rattle.sx_directives.specs.declared.spelled.FormSymbol.{FormSymbol}
use Rattle.sx_directives.specs.declared.spelled.FormSymbol.TheVariants.{Lit, Place}
use Rattle.sx_directives.specs.declared.rows.FormLine.{FormLine}
use Rattle.sx_notation.specs.RuleParts.{rule_parts}
use Rattle.sx_notation.specs.Forms.{HasForms, GoalFits}

-- the sort that is spelled
abbrev pub spelled_sort : Parts → SpelledSort → Sort
spelled_sort p (Lexical kind) = Lex kind
spelled_sort p (Named name least) = sort_with p.sorts (number_of (names p) name)

-- the place that the symbol of a form is; a literal is none
abbrev pub places_of : Parts → FormSymbol → List PlaceOf
places_of p (Lit text) = []
places_of p (Place role sort) = record { role = role; sort = spelled_sort p sort } ∷ []

-- the form that a line spells
abbrev pub form_of : Parts → FormLine → FormData
form_of p f = record { name = f.name; places = flat_map (places_of p) f.symbols.items }

-- the sort that is spelled is lexical or one of the sorts
abbrev pub IsSpelledSort : Parts → SpelledSort → Type 0
IsSpelledSort p (Lexical kind) = Unit {0}
IsSpelledSort p (Named name least) = Contains (names p) name

-- so it is of a place; a literal has no sort
abbrev pub HasSortOf : Parts → FormSymbol → Type 0
HasSortOf p (Lit text) = Unit {0}
HasSortOf p (Place role sort) = IsSpelledSort p sort

-- so it is of the symbols of each form
abbrev pub HaveSortsOf : Parts → List FormLine → Type 0
HaveSortsOf p fs = AllByRecursion (λ f. AllByRecursion (HasSortOf p) f.symbols.items) fs

-- the productions of a grammar keep their labels in the grammar by which rules are read
abbrev pub ProductionsStay : Type 0
ProductionsStay = (p : Parts) (fs : List FormLine) (label : ℕ) (r : Production) → IsGrammar p →
    slice_get (numbered p).productions label ≡ Some r →
    slice_get (numbered (rule_parts p fs)).productions label ≡ Some r

-- the forms follow them in order, each with parts of the sorts of its places, and then three more
abbrev pub FormsFollow : Type 0
FormsFollow = (p : Parts) (fs : List FormLine) → HaveSortsOf p fs →
    HasForms (rule_parts p fs) (map (form_of p) fs)

-- the terms have these sorts, where there are some
abbrev pub MayHaveSorts : List Shape → List Sort → Option (List Tree) → List Sort → Type 0
MayHaveSorts shapes vars None sorts = Unit {0}
MayHaveSorts shapes vars (Some ts) sorts = HaveSorts shapes vars ts sorts

-- a goal that is well sorted by the grammar, as its outputs are where they were got, fits the forms
abbrev pub SortedGoalsFit : Type 0
SortedGoalsFit = (p : Parts) (fs : List FormLine) (known : List FormData) (form : FormData)
    (vars : List Sort) (variables : ℕ) (goal : Goal) (got : Option (List Tree)) →
    IsGrammar p → length vars ≤ variables → slice_get known goal.form ≡ Some form →
    GoalIsSorted (shapes_of p) (sorts_of known) (modes_of known) vars goal →
    MayHaveSorts (shapes_of p) vars got
    (outputs (modes_of known goal.form) (sorts_of known goal.form)) →
    GoalFits (numbered (rule_parts p fs)) variables known goal got
