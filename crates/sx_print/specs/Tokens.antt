-- How the pieces that a text is cut into show as tokens of a grammar.
use Rattle.sx_term.specs.declared.mark.Mark.{Mark}
use Rattle.sx_term.specs.declared.mark.Mark.TheVariants.{Lit, Lex, Meta}
use Rattle.sx_term.specs.Cutting.{Piece}
use Rattle.sx_grammar.specs.Grammar as plain
use Rattle.sx_grammar.specs.Grammar.{Text, Stem, Token, is_literal, is_lexeme, is_variable}

-- the token's mark; a metavariable stands for the stem of its text
abbrev pub shown_mark : (Text → Stem) → Mark → Text → plain.Mark
shown_mark stem_of (Lit number) text = is_literal
shown_mark stem_of (Lex kind) text = is_lexeme kind
shown_mark stem_of Meta text = is_variable (stem_of text)

-- the token that a piece shows as
abbrev pub shown_piece : (Text → Stem) → Piece → Token
shown_piece stem_of piece = record {
  mark = shown_mark stem_of piece.mark piece.text;
  text = piece.text;
}
