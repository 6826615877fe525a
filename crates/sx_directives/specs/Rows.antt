-- The lines of language and extension files as a table: the word that begins a line, and the parts
-- that follow it.
use Rattle.std.specs.Prelude.{◌≡◌, ℕ, ◌+◌, Bool, true, false, IsTrue, List, [], ◌∷◌, ◌++◌, length}
use Rattle.std.specs.Prelude.{Option, Some, None, Result, Ok, Err, codes}
use Rattle.std.specs.List.{repeat}
use Rattle.std.specs.Str.{IsUtf8}
use Rattle.sx_lines.specs.Bytes.{is_blank}
use Rattle.sx_lines.specs.Words.{number_within}
use Rattle.sx_grammar.specs.Parts.{Line, line}
use Rattle.sx_grammar.specs.declared.sort_line.SortLine.{SortLine}
use Rattle.sx_directives.specs.Parts.{AllBlank, parts_of}
use Rattle.sx_directives.specs.Spelling.{IsModuleName, IsName, IsStem, IsVariable, NotLexical}
use Rattle.sx_directives.specs.Spelling.{IsQuoted, SpellsSymbol, SpellsForm, EachSpelled}
use Rattle.sx_directives.specs.declared.file_kind.FileKind.{FileKind}
use Rattle.sx_directives.specs.declared.file_kind.FileKind.TheVariants as files
use Rattle.sx_directives.specs.declared.keyword.Keyword.{Keyword}
use Rattle.sx_directives.specs.declared.keyword.Keyword.TheVariants.{Language, Sort, Prod, Var}
use Rattle.sx_directives.specs.declared.keyword.Keyword.TheVariants.{Form, Main, Rule, Bar, End}
use Rattle.sx_directives.specs.declared.keyword.Keyword.TheVariants.{Extension, Use, Plain, To}
use Rattle.sx_directives.specs.declared.row_error.RowError.{RowError}
use Rattle.sx_directives.specs.declared.row_error.RowError.TheVariants.{Memory, Shape}
use Rattle.sx_directives.specs.declared.row.Row.{Row}
use Rattle.sx_directives.specs.declared.row.Row.TheVariants.{Language as LanguageRow}
use Rattle.sx_directives.specs.declared.row.Row.TheVariants.{Sort as SortRow, Prod as ProdRow}
use Rattle.sx_directives.specs.declared.row.Row.TheVariants.{Var as VarRow, Form as FormRow}
use Rattle.sx_directives.specs.declared.row.Row.TheVariants.{Main as MainRow, Rule as RuleRow}
use Rattle.sx_directives.specs.declared.row.Row.TheVariants.{Bar as BarRow, End as EndRow}
use Rattle.sx_directives.specs.declared.row.Row.TheVariants.{Extension as ExtensionRow}
use Rattle.sx_directives.specs.declared.row.Row.TheVariants.{Use as UseRow, Plain as PlainRow}
use Rattle.sx_directives.specs.declared.row.Row.TheVariants.{To as ToRow}
use Rattle.sx_directives.specs.declared.rows.VarLine.{VarLine}
use Rattle.sx_directives.specs.declared.rows.FormLine.{FormLine}
use Rattle.sx_directives.specs.declared.rows.MainLine.{MainLine}
use Rattle.sx_directives.specs.declared.rows.PlainLine.{PlainLine}
use Rattle.sx_directives.specs.declared.directive.Directive.{Directive}
use Rattle.sx_directives.specs.declared.directive.Directive.TheVariants.{Prod as ProdRead}
use Rattle.sx_directives.specs.declared.directive.Directive.TheVariants.{Var as VarRead}

-- the words
abbrev pub keyword_text : Keyword → List ℕ
keyword_text Language = codes "language"
keyword_text Sort = codes "sort"
keyword_text Prod = codes "prod"
keyword_text Var = codes "var"
keyword_text Form = codes "form"
keyword_text Main = codes "main"
keyword_text Rule = codes "rule"
keyword_text Bar = codes "---"
keyword_text End = codes "end"
keyword_text Extension = codes "extension"
keyword_text Use = codes "use"
keyword_text Plain = codes "plain"
keyword_text To = codes "to"

-- The word begins lines of files of this kind: `extension`, `use`, `plain` and `to` are none of
-- language files, and `sort`, `form` and `main` are none of extension files.
abbrev pub is_word_of : FileKind → Keyword → Bool
is_word_of files.Language Extension = false
is_word_of files.Language Use = false
is_word_of files.Language Plain = false
is_word_of files.Language To = false
is_word_of files.Extension Sort = false
is_word_of files.Extension Form = false
is_word_of files.Extension Main = false
is_word_of kind word = true

-- `typed` or `plain`
abbrev pub kind_text : Bool → List ℕ
kind_text true = codes "typed"
kind_text false = codes "plain"

-- no parts, or the two literals of a bracket pair
abbrev pub AreBrackets : List (List ℕ) → Option (List ℕ × List ℕ) → Type 0
AreBrackets [] None = Unit {0}
AreBrackets (left ∷ right ∷ []) (Some pair) = IsQuoted left pair.0 × IsQuoted right pair.1
AreBrackets _ _ = ⊥

-- `NAME plain` or `NAME typed`, where NAME is no lexical sort, then perhaps two literals in quotes
pub record IsSortRow (parts : List (List ℕ)) (s : SortLine) : Type 0 where
  pub brackets : List (List ℕ)
  pub parts_are : parts ≡ s.name ∷ kind_text s.typed ∷ brackets
  pub name : IsName s.name
  pub lexical : NotLexical s.name
  pub pair : AreBrackets brackets s.brackets

-- `LABEL SORT LEVEL : SYMBOL..`
pub record IsProdRow (parts : List (List ℕ)) (p : Line) : Type 0 where
  pub level : List ℕ
  pub symbols : List (List ℕ)
  pub parts_are : parts ≡ p.label ∷ p.sort ∷ level ∷ codes ":" ∷ symbols
  pub label : IsName p.label
  pub sort : IsName p.sort
  pub level_is : number_within 99 level ≡ Some p.level
  pub symbols_are : EachSpelled SpellsSymbol symbols p.symbols

-- `STEM : SORT`
pub record IsVarRow (parts : List (List ℕ)) (v : VarLine) : Type 0 where
  pub parts_are : parts ≡ v.stem ∷ codes ":" ∷ v.sort ∷ []
  pub stem : IsStem v.stem
  pub sort : IsName v.sort

-- `NAME : SYMBOL..`
pub record IsFormRow (parts : List (List ℕ)) (f : FormLine) : Type 0 where
  pub symbols : List (List ℕ)
  pub parts_are : parts ≡ f.name ∷ codes ":" ∷ symbols
  pub name : IsName f.name
  pub symbols_are : EachSpelled SpellsForm symbols f.symbols.items

-- `FORM LABEL LABEL`
pub record IsMainRow (parts : List (List ℕ)) (m : MainLine) : Type 0 where
  pub parts_are : parts ≡ m.form ∷ m.empty ∷ m.add ∷ []
  pub form : IsName m.form
  pub empty : IsName m.empty
  pub add : IsName m.add

-- `NAME`
pub record IsNameRow (parts : List (List ℕ)) (name : List ℕ) : Type 0 where
  pub parts_are : parts ≡ name ∷ []
  pub named : IsName name

-- `NAME`, the name of a module
pub record IsModuleRow (parts : List (List ℕ)) (name : List ℕ) : Type 0 where
  pub parts_are : parts ≡ name ∷ []
  pub named : IsModuleName name

-- `LABEL VAR..`
pub record IsPlainRow (parts : List (List ℕ)) (p : PlainLine) : Type 0 where
  pub names : List (List ℕ)
  pub parts_are : parts ≡ p.label ∷ names
  pub label : IsName p.label
  pub names_are : EachSpelled IsVariable names p.names.items

-- a blank stands first
abbrev pub BeginsBlank : List ℕ → Type 0
BeginsBlank [] = ⊥
BeginsBlank (b ∷ text) = is_blank b ≡ true

-- after blanks, `to` and one more blank at least, the rest of the line begins at this place, with
-- that blank
pub record IsToCut (text : List ℕ) (at : ℕ) (rest : List ℕ) : Type 0 where
  pub blanks : List ℕ
  pub text_is : text ≡ blanks ++ (codes "to" ++ rest)
  pub blank : AllBlank blanks
  pub begins : BeginsBlank rest
  pub at_is : at ≡ length blanks + 2

-- the body of a `to` line at its place in the line, with spaces in place of what stands before it
abbrev pub IsToBody : List ℕ → List ℕ → Type 0
IsToBody text body = (at : ℕ) × (rest : List ℕ) × IsToCut text at rest ×
    (body ≡ repeat at (codes " ") ++ rest)

-- the body, as a text
abbrev pub IsBodyText : List ℕ → List ℕ → Type 0
IsBodyText text body = IsToBody text body × IsUtf8 body

-- the parts are those of this `prod` or `var` line
abbrev pub IsDirectiveOf : List (List ℕ) → Directive → Type 0
IsDirectiveOf parts (ProdRead p) = (rest : List (List ℕ)) × (parts ≡ keyword_text Prod ∷ rest) ×
    IsProdRow rest (line p)
IsDirectiveOf parts (VarRead stem sort) = (rest : List (List ℕ)) ×
    (parts ≡ keyword_text Var ∷ rest) × IsVarRow rest (record { stem = stem; sort = sort })

-- the line is that of this directive
abbrev pub IsDirective : List ℕ → Directive → Type 0
IsDirective text d = IsDirectiveOf (parts_of text) d

-- the word of a row
abbrev pub row_word : Row → Keyword
row_word (LanguageRow name) = Language
row_word (SortRow s) = Sort
row_word (ProdRow p) = Prod
row_word (VarRow v) = Var
row_word (FormRow f) = Form
row_word (MainRow m) = Main
row_word (RuleRow name) = Rule
row_word BarRow = Bar
row_word EndRow = End
row_word (ExtensionRow name) = Extension
row_word (UseRow name) = Use
row_word (PlainRow p) = Plain
row_word (ToRow body) = To

-- what follows the word of a row in its line, whose parts after the word are these
abbrev pub Follows : List ℕ → List (List ℕ) → Row → Type 0
Follows text parts (LanguageRow name) = IsNameRow parts name
Follows text parts (SortRow s) = IsSortRow parts s
Follows text parts (ProdRow p) = IsProdRow parts (line p)
Follows text parts (VarRow v) = IsVarRow parts v
Follows text parts (FormRow f) = IsFormRow parts f
Follows text parts (MainRow m) = IsMainRow parts m
Follows text parts (RuleRow name) = IsNameRow parts name
Follows text parts BarRow = parts ≡ []
Follows text parts EndRow = parts ≡ []
Follows text parts (ExtensionRow name) = IsModuleRow parts name
Follows text parts (UseRow name) = IsModuleRow parts name
Follows text parts (PlainRow p) = IsPlainRow parts p
Follows text parts (ToRow body) = IsBodyText text body

-- the line, whose parts after the word are these, is that of the row
pub record IsRowOf (k : Keyword) (text : List ℕ) (parts : List (List ℕ)) (r : Row) : Type 0 where
  pub word : k ≡ row_word r
  pub follows : Follows text parts r

-- a `to` line has a body
abbrev pub HasBody : Keyword → List ℕ → Type 0
HasBody To text = (body : List ℕ) × IsToBody text body
HasBody word text = Unit {0}

-- a line with this word is one of files of this kind
abbrev pub IsLineOf : FileKind → Keyword → List ℕ → Type 0
IsLineOf kind word text = IsTrue (is_word_of kind word) × HasBody word text

-- in a file of this kind the line is that of this row
pub record IsRow (kind : FileKind) (text : List ℕ) (r : Row) : Type 0 where
  pub rest : List (List ℕ)
  pub parts_are : parts_of text ≡ keyword_text (row_word r) ∷ rest
  pub word : IsTrue (is_word_of kind (row_word r))
  pub follows : Follows text rest r

-- in a file of this kind the line begins with a word of the table
abbrev pub HasWord : FileKind → List ℕ → Type 0
HasWord kind text = (k : Keyword) × (rest : List (List ℕ)) ×
    (parts_of text ≡ keyword_text k ∷ rest) × IsLineOf kind k text

-- what reading a line answers: its row, none where it begins with no word of the table, or that its
-- parts are not as stated
abbrev pub IsRowRead : FileKind → List ℕ → Result (Option Row) RowError → Type 0
IsRowRead kind text (Ok None) = HasWord kind text → ⊥
IsRowRead kind text (Ok (Some r)) = IsRow kind text r
IsRowRead kind text (Err Memory) = Unit {0}
IsRowRead kind text (Err Shape) = HasWord kind text × ((r : Row) → IsRow kind text r → ⊥)
