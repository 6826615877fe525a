-- The printed tokens of a term.
use Rattle.std.specs.Prelude.{◌≡◌, ℕ, ◌<◌, List, [], ◌∷◌, ◌++◌, cond, nat_lt, Option, Some, None}
use Rattle.std.specs.Prelude.{slice_index_or, position, unwrap_or}
use Rattle.std.specs.Str.{bytes_eq}
use Rattle.std.specs.List.{slice_get}
use Rattle.sx_term.specs.declared.lex_kind.LexKind.{LexKind}
use Rattle.sx_term.specs.Vars.{without_tilde}
use Rattle.sx_term.specs.Tree.{Tree, Trees, node, lexeme, hole, none, ◌▹◌}
use Rattle.sx_grammar.specs.Grammar.{Text, Symbol, literal, lexical, part, Production, Brackets}
use Rattle.sx_grammar.specs.Grammar.{Grammar, pair_of, Stem, of_kind, of_sort, Mark, is_literal}
use Rattle.sx_grammar.specs.Grammar.{is_lexeme, is_variable, Token}
use Rattle.sx_grammar.specs.Reading.{Reading, Readings, branch, bracket, leaf, variable, done, ◌▸◌}

abbrev pub literal_token : Text → Token
literal_token text = record { mark = is_literal; text = text }

-- the tokens of a term at a place: what stands there, and its least level
abbrev pub Printer : Type 0
Printer = Stem → ℕ → List Token

-- the symbols in order, each with its kid printed in its place
abbrev pub print_symbols : List Symbol → List Printer → List Token
print_symbols [] kids = []
print_symbols (literal text ∷ rest) kids = literal_token text ∷ print_symbols rest kids
print_symbols (lexical kind ∷ rest) [] = []
print_symbols (lexical kind ∷ rest) (kid ∷ kids) = kid (of_kind kind) 0 ++ print_symbols rest kids
print_symbols (part sort least ∷ rest) [] = []
print_symbols (part sort least ∷ rest) (kid ∷ kids) =
    kid (of_sort sort) least ++ print_symbols rest kids

abbrev pub in_brackets : Option Brackets → List Token → List Token
in_brackets None inner = inner
in_brackets (Some pair) inner = literal_token pair.opening ∷
    (inner ++ (literal_token pair.closing ∷ []))

-- brackets stand round the symbols exactly where the level is below the least level asked for
abbrev pub print_node : Grammar → Option Production → List Printer → ℕ → List Token
print_node g None kids least = []
print_node g (Some p) kids least =
    cond (nat_lt p.level least) (in_brackets (pair_of g p.sort) (print_symbols p.symbols kids))
    (print_symbols p.symbols kids)

-- the tokens of a term, with these names of its variables
abbrev mutual
  pub print : Grammar → List Text → Tree → Printer
  print g names (node label kids) = λ place least.
      print_node g (slice_get g.productions label) (print_each g names kids) least
  print g names (lexeme kind text) = λ place least.
      record { mark = is_lexeme kind; text = text } ∷ []
  print g names (hole v) = λ place least. record {
    mark = is_variable place;
    text = 126 ∷ slice_index_or names v [];
  } ∷ []

  pub print_each : Grammar → List Text → Trees → List Printer
  print_each g names none = []
  print_each g names (t ▹ ts) = print g names t ∷ print_each g names ts

mutual
  -- the term has this sort, under these sorts of its variables
  pub data Fits (g : Grammar) (vars : List Stem) : Stem → Tree → Type 0 where
    node_fits : {label : ℕ} {p : Production} {kids : Trees} →
        slice_get g.productions label ≡ Some p → AllFit g vars p.symbols kids →
        Fits g vars (of_sort p.sort) (node label kids)
    lexeme_fits : {kind : LexKind} {text : Text} → Fits g vars (of_kind kind) (lexeme kind text)
    hole_fits : {stem : Stem} {v : ℕ} → slice_get vars v ≡ Some stem → Fits g vars stem (hole v)

  -- the terms have the sorts of the symbols that are no literals
  pub data AllFit (g : Grammar) (vars : List Stem) : List Symbol → Trees → Type 0 where
    none_fit : AllFit g vars [] none
    past_literal_fit : {text : Text} {rest : List Symbol} {kids : Trees} →
        AllFit g vars rest kids → AllFit g vars (literal text ∷ rest) kids
    lexical_fit : {kind : LexKind} {rest : List Symbol} {t : Tree} {kids : Trees} →
        Fits g vars (of_kind kind) t → AllFit g vars rest kids →
        AllFit g vars (lexical kind ∷ rest) (t ▹ kids)
    part_fit : {sort least : ℕ} {rest : List Symbol} {t : Tree} {kids : Trees} →
        Fits g vars (of_sort sort) t → AllFit g vars rest kids →
        AllFit g vars (part sort least ∷ rest) (t ▹ kids)

-- the sort has brackets if one of its productions is below the level
abbrev pub HasBrackets : Grammar → (sort least : ℕ) → Type 0
HasBrackets g sort least = (label : ℕ) (p : Production) → slice_get g.productions label ≡ Some p →
    p.sort ≡ sort → p.level < least →
    (pair : Brackets) × (pair_of g sort ≡ Some pair)

-- each sort has the brackets that the parts ask for
abbrev pub BracketsWhereAsked : Grammar → Type 0
BracketsWhereAsked g = (label : ℕ) (p : Production) (place sort least : ℕ) →
    slice_get g.productions label ≡ Some p → slice_get p.symbols place ≡ Some (part sort least) →
    HasBrackets g sort least

abbrev pub mark_term : Mark → Text → Tree
mark_term is_literal text = hole 0
mark_term (is_lexeme kind) text = lexeme kind text
mark_term (is_variable stem) text = hole 0

abbrev pub leaf_term : Option Token → Tree
leaf_term None = hole 0
leaf_term (Some token) = mark_term token.mark token.text

abbrev pub variable_term : List Text → Option Token → Tree
variable_term names None = hole 0
variable_term names (Some token) = hole (unwrap_or
    (position (λ name. bytes_eq name (without_tilde token.text)) names) 0)

-- the term of a reading of the tokens: brackets are left out, and variables are numbered by their
-- names
abbrev mutual
  pub term_of : List Token → List Text → Reading → Tree
  term_of tokens names (branch label kids from to) = node label (terms_of tokens names kids)
  term_of tokens names (bracket inner from to) = term_of tokens names inner
  term_of tokens names (leaf token) = leaf_term (slice_get tokens token)
  term_of tokens names (variable token) = variable_term names (slice_get tokens token)

  pub terms_of : List Token → List Text → Readings → Trees
  terms_of tokens names done = none
  terms_of tokens names (kid ▸ kids) = term_of tokens names kid ▹ terms_of tokens names kids
