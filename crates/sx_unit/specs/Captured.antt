-- Names in terms that are literals.
use Rattle.std.specs.Prelude.{List, [], ◌∷◌, ◌++◌}
use Rattle.sx_term.specs.declared.lex_kind.LexKind.{LexKind}
use Rattle.sx_term.specs.declared.lex_kind.LexKind.TheVariants.{Id, Num, Str}
use Rattle.sx_term.specs.Tree.{Tree, Trees, node, lexeme, hole, none, ◌▹◌}
use Rattle.sx_grammar.specs.Grammar.{Text}
use Rattle.sx_interface.specs.FreeNames.{AreFree, IsFirstIn}

-- the name that a lexeme of this kind is
abbrev pub lexeme_name : LexKind → Text → List Text
lexeme_name Id text = text ∷ []
lexeme_name Num text = []
lexeme_name Str text = []

abbrev mutual
  -- the names that stand in a term, in preorder
  pub names_standing_in : Tree → List Text
  names_standing_in (node label kids) = names_among kids
  names_standing_in (lexeme kind text) = lexeme_name kind text
  names_standing_in (hole v) = []

  -- those of one term after the other
  pub names_among : Trees → List Text
  names_among none = []
  names_among (t ▹ ts) = names_standing_in t ++ names_among ts

-- none of the names in the term is
abbrev pub IsFree : List Text → Tree → Type 0
IsFree literals t = AreFree literals (names_standing_in t)

-- it is the first of the names in the term
abbrev pub IsCaptured : List Text → Tree → (word : Text) → Type 0
IsCaptured literals t word = IsFirstIn literals (names_standing_in t) word
