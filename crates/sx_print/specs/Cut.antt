-- Printed texts are cut into the printed tokens.
use Rattle.std.specs.Prelude.{◌≡◌, ℕ, ◌≤◌, Bool, false, List, [], ◌++◌, length, map}
use Rattle.sx_term.specs.declared.mark.Mark.TheVariants.{Lex}
use Rattle.sx_term.specs.Tree.{Tree, Trees, node, lexeme, hole, none, ◌▹◌}
use Rattle.sx_term.specs.Cutting as cutting
use Rattle.sx_term.specs.Cutting.{Piece, Cuts, IsOutcome}
use Rattle.sx_term.specs.Spaced.{IsTokenText, AreBlanks}
use Rattle.sx_grammar.specs.Grammar.{Text, Grammar, Stem, Token}
use Rattle.sx_grammar.specs.Reading.{Reading, Reads}
use Rattle.sx_grammar.specs.Print.{term_of}
use Rattle.sx_print.specs.Tokens.{shown_piece}
use Rattle.sx_term.specs.Limits.{most_tokens}

abbrev mutual
  -- each lexeme of the term is a token of its kind, and none of the literals
  pub HasLexemes : List Text → Tree → Type 0
  HasLexemes literals (node label kids) = HaveLexemes literals kids
  HasLexemes literals (lexeme kind text) = IsTokenText literals false (Lex kind) text
  HasLexemes literals (hole v) = Unit {0}

  -- so it is of each term
  pub HaveLexemes : List Text → Trees → Type 0
  HaveLexemes literals none = Unit {0}
  HaveLexemes literals (t ▹ ts) = HasLexemes literals t × HaveLexemes literals ts

-- the text, with any blanks behind it, and with or without metavariables, is cut into pieces that
-- show as just these tokens
pub record IsCutInto (literals : List Text) (tokens : List Token) (text : List ℕ) : Type 0 where
  pub pieces : List Piece
  pub show : (stem_of : Text → Stem) → map (shown_piece stem_of) pieces ≡ tokens
  pub cut : (metas : Bool) (blanks : List ℕ) → AreBlanks blanks →
      Cuts literals metas (length (text ++ blanks)) (text ++ blanks) pieces []
  pub outcome : (metas : Bool) (blanks : List ℕ) → AreBlanks blanks → length tokens ≤ most_tokens →
      IsOutcome literals metas (text ++ blanks) (cutting.tokens pieces)

-- the tokens have a reading as the sort at the least level whose term is this one
abbrev pub HasReading : Grammar → List Text → List Token → (sort least : ℕ) → Tree → Type 0
HasReading g names tokens sort least t = (r : Reading) ×
    Reads g tokens sort least 0 (length tokens) r × (term_of tokens names r ≡ t)
