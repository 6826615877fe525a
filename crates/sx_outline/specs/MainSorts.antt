-- The sorts of main forms, as they are found.
use Rattle.std.specs.Prelude.{◌≡◌, ℕ, List, [], ◌∷◌}
use Rattle.sx_term.specs.declared.lex_kind.LexKind.TheVariants.{Id}
use Rattle.sx_term.specs.declared.role.Role.{Role}
use Rattle.sx_term.specs.declared.role.Role.TheVariants.{In, Sub, Out}
use Rattle.sx_grammar.specs.declared.symbol.Symbol.{Symbol}
use Rattle.sx_directives.specs.declared.spelled.SpelledSort.{SpelledSort}
use Rattle.sx_directives.specs.declared.spelled.SpelledSort.TheVariants.{Named}
use Rattle.sx_directives.specs.declared.spelled.FormSymbol.{FormSymbol}
use Rattle.sx_directives.specs.declared.rows.MainLine.{MainLine}
use Rattle.sx_outline.specs.Declarations.{Declared}
use Rattle.sx_outline.specs.Fitting.{IsConstructor, Kid, kid_of, of_kind, of_sort, sorts_at}

-- the one place with this role has the sort with this name
abbrev pub IsOneName : List FormSymbol → Role → List ℕ → Type 0
IsOneName symbols role name = (least : ℕ) × (sorts_at role symbols ≡ Named name least ∷ [])

-- one input has the first sort, one output has the other, and there is one subject
pub record AreMainSorts (symbols : List FormSymbol) (environment signature : List ℕ) : Type 0 where
  pub input : IsOneName symbols In environment
  pub subject_sort : SpelledSort
  pub subject : sorts_at Sub symbols ≡ subject_sort ∷ []
  pub output : IsOneName symbols Out signature

-- the constructors that the row names are the empty one, and the one that adds a name and a
-- signature
pub record AreConstructors (d : Declared) (m : MainLine) (environment signature : List ℕ)
    (empty add : ℕ) : Type 0 where
  pub empty_is : IsConstructor d m.empty empty environment []
  pub add_is : IsConstructor d m.add add environment
      (of_sort environment ∷ of_kind Id ∷ of_sort signature ∷ [])

-- the symbol is this part, and no literal
abbrev pub IsKid : Symbol → Kid → Type 0
IsKid symbol kid = kid_of symbol ≡ kid ∷ []
