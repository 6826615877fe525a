-- Grammars as plain data: symbols, productions, bracket pairs.
use Rattle.std.specs.Prelude.{◌≡◌, ◌≤◌, ℕ, List, [], ◌∷◌, Bool, Option, Some, None}
use Rattle.std.specs.List.{slice_get}
use Rattle.sx_term.specs.declared.lex_kind.LexKind.{LexKind}
use Rattle.sx_grammar.specs.declared.head.Head.{Head}
use Rattle.sx_grammar.specs.declared.head.Head.TheVariants.{Labelled, Bracketed}

-- the bytes of a text
abbrev pub Text : Type 0
Text = List ℕ

-- a literal text, a lexical kind, or a part: a sort with its least level
pub data Symbol : Type 0 where
  literal : Text → Symbol
  lexical : LexKind → Symbol
  part : (sort least : ℕ) → Symbol

-- a label is the place of its production in the grammar, a sort the place of its line
pub record Production : Type 0 where
  pub sort : ℕ
  pub level : ℕ
  pub symbols : List Symbol

-- the literals that open and close a sort's brackets
pub record Brackets : Type 0 where
  pub opening : Text
  pub closing : Text

pub record SortLine : Type 0 where
  pub typed : Bool
  pub brackets : Option Brackets

pub record Grammar : Type 0 where
  pub sorts : List SortLine
  pub productions : List Production

abbrev pub brackets_of : Option SortLine → Option Brackets
brackets_of None = None
brackets_of (Some line) = line.brackets

-- a bracket pair as a production of its sort, above all levels
abbrev pub bracket_production : ℕ → Option Brackets → Option Production
bracket_production sort None = None
bracket_production sort (Some pair) =
    Some (record {
      sort = sort;
      level = 100;
      symbols = literal pair.opening ∷ part sort 0 ∷ literal pair.closing ∷ [];
    })

-- the brackets of the sort, if it has them
abbrev pub pair_of : Grammar → ℕ → Option Brackets
pair_of g sort = brackets_of (slice_get g.sorts sort)

-- the production that a head stands for
abbrev pub production_of : Grammar → Head → Option Production
production_of g (Labelled label) = slice_get g.productions label
production_of g (Bracketed sort) = bracket_production sort (pair_of g sort)

-- a metavariable stands for a lexeme of a kind or for a reading of a sort
pub data Stem : Type 0 where
  of_kind : LexKind → Stem
  of_sort : ℕ → Stem

pub data Mark : Type 0 where
  is_literal : Mark
  is_lexeme : LexKind → Mark
  is_variable : Stem → Mark

pub record Token : Type 0 where
  pub mark : Mark
  pub text : Text

-- the levels that parts ask for are at most 99
abbrev pub HasLevels : Grammar → Type 0
HasLevels g = (label : ℕ) (p : Production) (place sort least : ℕ) →
    slice_get g.productions label ≡ Some p → slice_get p.symbols place ≡ Some (part sort least) →
    least ≤ 99
