-- What tokens show to a grammar, and which symbols read them.
use Rattle.std.specs.Prelude.{◌≡◌, ℕ, ◌<◌, List, [], ◌∷◌, Option, Some, None, map, slice_get}
use Rattle.std.specs.Prelude.{slice_index_or}
use Rattle.sx_grammar.specs.Grammar.{Text, Grammar, Token, is_literal, is_lexeme, is_variable}
use Rattle.sx_grammar.specs.Grammar.{of_kind, of_sort}
use Rattle.sx_grammar.specs.Parts.{numbered}
use Rattle.sx_grammar.specs.Tables.{GrammarData, literals_of}
use Rattle.sx_grammar.specs.declared.numbered.NumberedSymbol.{NumberedSymbol}
use Rattle.sx_grammar.specs.declared.numbered.NumberedSymbol.TheVariants as symbols
use Rattle.sx_earley.specs.declared.shown.Shown.{Shown}
use Rattle.sx_earley.specs.declared.shown.Shown.TheVariants.{Lit, Lex, Kind, Sort, Other}

-- the grammar as plain data, with numbers for names
abbrev pub plain : GrammarData → Grammar
plain d = numbered d.parts

-- its literals
abbrev pub literal_texts : GrammarData → List Text
literal_texts d = literals_of d.parts

-- the token that is shown; only a literal's text is read, and no literal of a grammar is empty
abbrev pub token_of : List Text → Shown → Token
token_of literals (Lit n) = record { mark = is_literal; text = slice_index_or literals n [] }
token_of literals (Lex kind) = record { mark = is_lexeme kind; text = [] }
token_of literals (Kind kind) = record { mark = is_variable (of_kind kind); text = [] }
token_of literals (Sort sort) = record { mark = is_variable (of_sort sort); text = [] }
token_of literals Other = record { mark = is_literal; text = [] }

-- the tokens that are shown
abbrev pub tokens_of : GrammarData → List Shown → List Token
tokens_of d shown = map (token_of (literal_texts d)) shown

-- the symbol reads what is shown
abbrev pub TakesShown : NumberedSymbol → Shown → Type 0
TakesShown (symbols.Lit a) (Lit b) = a ≡ b
TakesShown (symbols.Lex a) (Lex b) = a ≡ b
TakesShown (symbols.Lex a) (Kind b) = a ≡ b
TakesShown (symbols.Part sort least) (Sort b) = sort ≡ b
TakesShown _ _ = ⊥

-- the number of a literal is below the bound
abbrev pub IsLiteralBelow : ℕ → NumberedSymbol → Type 0
IsLiteralBelow bound (symbols.Lit n) = n < bound
IsLiteralBelow bound (symbols.Lex kind) = Unit {0}
IsLiteralBelow bound (symbols.Part sort least) = Unit {0}

-- so it is of all symbols
abbrev pub LiteralsBelow : ℕ → List NumberedSymbol → Type 0
LiteralsBelow bound xs = (k n : ℕ) → slice_get xs k ≡ Some (symbols.Lit n) → n < bound

-- so it is of all that is shown
abbrev pub ShownBelow : ℕ → List Shown → Type 0
ShownBelow bound shown = (k n : ℕ) → slice_get shown k ≡ Some (Lit n) → n < bound

-- the symbol of a bracket pair, with the numbers of its literals, at a place
abbrev pub pair_symbol : Option (ℕ × ℕ) → ℕ → ℕ → Option NumberedSymbol
pair_symbol None sort dot = None
pair_symbol (Some pair) sort dot = slice_get (symbols.Lit pair.0 ∷ symbols.Part sort 0 ∷
    symbols.Lit pair.1 ∷ []) dot
