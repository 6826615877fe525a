-- What a module's body is read and typed from.
use Rattle.std.specs.Prelude.{ℕ, ◌-◌, ◌≤◌, List, [], ◌∷◌, length}
use Rattle.sx_term.specs.declared.lex_kind.LexKind.TheVariants.{Id}
use Rattle.sx_term.specs.declared.role.Role.{Role}
use Rattle.sx_term.specs.declared.role.Role.TheVariants.{In}
use Rattle.sx_term.specs.declared.sort.Sort.{Sort}
use Rattle.sx_term.specs.declared.sort.Sort.TheVariants.{Lex}
use Rattle.sx_term.specs.Sorts.{Shape, HasSort}
use Rattle.sx_term.specs.Term.{tree}
use Rattle.sx_term.specs.Tree.{Tree, depth_of}
use Rattle.sx_grammar.specs.Grammar.{Text}
use Rattle.sx_grammar.specs.Tables.{literals_of}
use Rattle.sx_grammar.specs.Told.{shapes_of}
use Rattle.sx_print.specs.Cut.{HasLexemes}
use Rattle.sx_rules.specs.Views.{places_at}
use Rattle.sx_interface.specs.Headers.{HeaderParts}
use Rattle.sx_interface.specs.HeaderView.{header_view}
use Rattle.sx_notation.specs.Language.{LanguageData, sorts_with}
use Rattle.sx_typing.specs.declared.body_source.BodySource.{BodySource as SourceOf}
use Rattle.sx_typing.specs.Dialects.{DialectData, IsDialectOf, dialect_of}
use Rattle.sx_term.specs.Limits.{most_bytes, most_depth}

-- the dialect, the bytes and the header of the module's file, and the environment
pub record BodySource : Type 0 where
  pub dialect : DialectData
  pub bytes : List ℕ
  pub header : HeaderParts
  pub environment : Tree

-- the view of a source
abbrev pub source_of : SourceOf → BodySource
source_of s = record {
  dialect = dialect_of s.dialect;
  bytes = s.bytes.now;
  header = header_view s.bytes.now s.header.now;
  environment = tree s.environment.now;
}

-- the one sort of a list, where there is one
abbrev pub only_sort : List Sort → Sort
only_sort [] = Lex Id
only_sort (sort ∷ sorts) = sort

-- the sort of the place of the main form with this role
abbrev pub main_sort : LanguageData → Role → Sort
main_sort d role = only_sort (sorts_with role (places_at d.forms d.main.form))

-- the term is of this sort without variables and at most 1,000 deep, and its lexemes are tokens and
-- none of the literals
pub record IsGoodTerm (literals : List Text) (shapes : List Shape) (sort : Sort) (t : Tree) :
    Type 0 where
  pub sorted : HasSort shapes [] t sort
  pub depth : depth_of t ≤ most_depth
  pub lexemes : HasLexemes literals t

-- such a term of the dialect, for the place of the main form with this role: its lexemes are no
-- literals of the language
abbrev pub IsTermFor : DialectData → Role → Tree → Type 0
IsTermFor d role t = IsGoodTerm (literals_of d.language.parts) (shapes_of d.parts)
    (main_sort d.language role) t

-- the conditions of reading and typing
pub record CanType (s : SourceOf) : Type 0 where
  pub dialect : IsDialectOf s.dialect
  pub short : length s.bytes.now ≤ most_bytes
  pub environment : IsTermFor (dialect_of s.dialect) In (tree s.environment.now)

-- how many bytes stand before the body
abbrev pub bytes_before : BodySource → ℕ
bytes_before s = length s.bytes - length s.header.body
