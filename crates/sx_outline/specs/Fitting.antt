-- Which rows of a language file or of an extension file fit what the file declares.
use Rattle.std.specs.Prelude.{◌≡◌, ℕ, ◌≤◌, ◌⊎◌, false, List, [], ◌∷◌, Option, Some, IfSome, map}
use Rattle.std.specs.Prelude.{flat_map, slice_get, length, Contains}
use Rattle.std.specs.List.{find, AllByRecursion}
use Rattle.std.specs.Str.{bytes_eq}
use Rattle.sx_term.specs.declared.lex_kind.LexKind.{LexKind}
use Rattle.sx_term.specs.declared.lex_kind.LexKind.TheVariants.{Id}
use Rattle.sx_term.specs.declared.role.Role.{Role}
use Rattle.sx_term.specs.declared.role.Role.TheVariants.{In, Sub, Out}
use Rattle.sx_term.specs.Roles.{is_sub}
use Rattle.sx_grammar.specs.Parts.{Line, number_of, labels}
use Rattle.sx_grammar.specs.Stems.{without_digits}
use Rattle.sx_grammar.specs.declared.symbol.Symbol.{Symbol}
use Rattle.sx_grammar.specs.declared.symbol.Symbol.TheVariants.{Lit, Lex, Part}
use Rattle.sx_grammar.specs.declared.sort_line.SortLine.{SortLine}
use Rattle.sx_directives.specs.Spelling.{lex_text}
use Rattle.sx_directives.specs.declared.spelled.SpelledSort.{SpelledSort}
use Rattle.sx_directives.specs.declared.spelled.SpelledSort.TheVariants.{Lex as Lexical, Named}
use Rattle.sx_directives.specs.declared.spelled.FormSymbol.{FormSymbol}
use Rattle.sx_directives.specs.declared.spelled.FormSymbol.TheVariants.{Lit as FormLit, Place}
use Rattle.sx_directives.specs.declared.rows.MainLine.{MainLine}
use Rattle.sx_directives.specs.declared.row.Row.{Row}
use Rattle.sx_directives.specs.declared.rows.VarLine.{VarLine}
use Rattle.sx_directives.specs.declared.row.Row.TheVariants.{Var, Form, Use, Plain}
use Rattle.sx_outline.specs.declared.main_form.MainForm.{MainForm}
use Rattle.sx_outline.specs.Declarations.{Declared, DeclaredForm, declared_parts}
use Rattle.sx_lines.specs.Distinct.{AreTextsDistinct}

-- the names of the sorts
abbrev pub declared_sort_names : Declared → List (List ℕ)
declared_sort_names d = map (λ s. s.name) d.sorts

-- the stems of metavariables
abbrev pub stems : Declared → List (List ℕ)
stems d = map (λ v. v.stem) d.vars

-- the names of the forms
abbrev pub declared_form_names : Declared → List (List ℕ)
declared_form_names d = map (λ f. f.name) d.forms

-- the first sort with this name
abbrev pub sort_named : Declared → List ℕ → Option SortLine
sort_named d name = find (λ s. bytes_eq s.name name) d.sorts

-- the name is that of a lexical sort, or of one that is declared
abbrev pub IsKnownSort : Declared → List ℕ → Type 0
IsKnownSort d name = ((kind : LexKind) × (name ≡ lex_text kind))
    ⊎ Contains (declared_sort_names d) name

-- A subject's sort is typed, and that of another place is not. A sort that is not declared is left
-- to the grammar.
abbrev pub RolePlaceFits : Declared → Role → SpelledSort → Type 0
RolePlaceFits d role (Lexical kind) = is_sub role ≡ false
RolePlaceFits d role (Named sort least) = IfSome (sort_named d sort) (λ s. s.typed ≡ is_sub role)

-- a literal stands anywhere, and a place has a sort that fits it
abbrev pub SymbolFits : Declared → FormSymbol → Type 0
SymbolFits d (FormLit text) = Unit {0}
SymbolFits d (Place role sort) = RolePlaceFits d role sort

-- the sort of the symbol where it is a place with this role, and else none
abbrev pub sort_at : Role → FormSymbol → List SpelledSort
sort_at role (FormLit text) = []
sort_at In (Place In sort) = sort ∷ []
sort_at Sub (Place Sub sort) = sort ∷ []
sort_at Out (Place Out sort) = sort ∷ []
sort_at role (Place _ sort) = []

-- the sorts of the places with this role, in order
abbrev pub sorts_at : Role → List FormSymbol → List SpelledSort
sorts_at role symbols = flat_map (sort_at role) symbols

-- there is one subject at most
abbrev pub HasOneSubjectSymbol : List FormSymbol → Type 0
HasOneSubjectSymbol symbols = length (sorts_at Sub symbols) ≤ 1

-- what a part of a production is: a lexeme of a kind, or of a sort at any level
pub data Kid : Type 0 where
  of_kind : LexKind → Kid
  of_sort : List ℕ → Kid

-- the part that a symbol is, and none where it is a literal
abbrev pub kid_of : Symbol → List Kid
kid_of (Lit text) = []
kid_of (Lex kind) = of_kind kind ∷ []
kid_of (Part sort least) = of_sort sort ∷ []

-- the parts among symbols
abbrev pub parts_of_symbols : List Symbol → List Kid
parts_of_symbols symbols = flat_map kid_of symbols

-- the sort of a part, by its name
abbrev pub kid_sort : Kid → List ℕ
kid_sort (of_kind kind) = lex_text kind
kid_sort (of_sort sort) = sort

-- the first production with this label
abbrev pub production_named : Declared → List ℕ → Option Line
production_named d label = find (λ p. bytes_eq p.label label) d.productions

-- the first stem that is this one
abbrev pub var_named : Declared → List ℕ → Option VarLine
var_named d stem = find (λ v. bytes_eq v.stem stem) d.vars

-- the name, without the digits at its end, is a stem of this sort
abbrev pub IsVariableOf : Declared → List ℕ → List ℕ → Type 0
IsVariableOf d name sort =
    (v : VarLine) × (var_named d (without_digits name) ≡ Some v) × (v.sort ≡ sort)

-- there are as many names as parts, and each is that of a variable of its part's sort
abbrev pub NamesFit : Declared → List (List ℕ) → List Kid → Type 0
NamesFit d [] [] = Unit {0}
NamesFit d (name ∷ names) (kid ∷ kids) = IsVariableOf d name (kid_sort kid) × NamesFit d names kids
NamesFit d [] (kid ∷ kids) = ⊥
NamesFit d (name ∷ names) [] = ⊥

-- the first sort with this name is plain
abbrev pub IsPlain : Declared → List ℕ → Type 0
IsPlain d name = (s : SortLine) × (sort_named d name ≡ Some s) × (s.typed ≡ false)

-- the first production with this label is of a plain sort, and the names, none of which stands
-- twice, are variables of its parts' sorts
pub record ArePartNames (d : Declared) (label : List ℕ) (names : List (List ℕ)) : Type 0 where
  pub line : Line
  pub line_is : production_named d label ≡ Some line
  pub plain : IsPlain d line.sort
  pub once : AreTextsDistinct names
  pub fit : NamesFit d names (parts_of_symbols line.symbols)

-- Among what the whole file declares, and after the lines before it, the row is as it should be.
-- Names that stand twice are left to the grammar and to the rule set where these refuse them.
abbrev pub RowFits : (known before : Declared) → Row → Type 0
RowFits known before (Var v) = (Contains (stems before) v.stem → ⊥) × IsKnownSort known v.sort
RowFits known before (Form f) =
    (Contains (declared_form_names before) f.name → ⊥)
    × AllByRecursion (SymbolFits known) f.symbols.items ×
    HasOneSubjectSymbol f.symbols.items
RowFits known before (Use name) = Contains known.uses name → ⊥
RowFits known before (Plain p) = ArePartNames known p.label p.names.items
RowFits known before _ = Unit {0}

-- the production with this label is the one with this number, and has this sort and these parts
pub record IsConstructor (d : Declared) (label : List ℕ) (number : ℕ) (sort : List ℕ)
    (kids : List Kid) : Type 0 where
  pub line : Line
  pub is : slice_get d.productions number ≡ Some line
  pub first : number ≡ number_of (labels (declared_parts d)) label
  pub sort_is : line.sort ≡ sort
  pub kids_are : parts_of_symbols line.symbols ≡ kids

-- the one place with this role has this sort, at any level
pub record HasOneAt (f : DeclaredForm) (role : Role) (sort : List ℕ) : Type 0 where
  pub least : ℕ
  pub is : sorts_at role f.symbols ≡ Named sort least ∷ []

-- The form has one input, for an environment, one subject and one output, for a signature, whose
-- sort is plain. The empty constructor has no parts. The other one has an environment, a name and a
-- signature as parts. Both make environments.
pub record IsMainOf (d : Declared) (m : MainLine) (main : MainForm) : Type 0 where
  pub form : DeclaredForm
  pub form_is : slice_get d.forms main.form ≡ Some form
  pub form_first : main.form ≡ number_of (declared_form_names d) m.form
  pub environment : List ℕ
  pub input : HasOneAt form In environment
  pub subject_sort : SpelledSort
  pub subject : sorts_at Sub form.symbols ≡ subject_sort ∷ []
  pub signature : List ℕ
  pub output : HasOneAt form Out signature
  pub signature_line : SortLine
  pub signature_is : sort_named d signature ≡ Some signature_line
  pub signature_plain : signature_line.typed ≡ false
  pub empty : IsConstructor d m.empty main.empty environment []
  pub add : IsConstructor d m.add main.add environment
      (of_sort environment ∷ of_kind Id ∷ of_sort signature ∷ [])
