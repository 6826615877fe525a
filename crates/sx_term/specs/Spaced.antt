-- A text that is written token by token.
use Rattle.std.specs.Prelude.{◌≡◌, ◌≢◌, ℕ, ◌+◌, ◌<◌, Bool, ◌⊎◌, IsTrue, List, [], ◌∷◌, ◌++◌, length}
use Rattle.std.specs.Prelude.{map, Some, slice_get, Contains}
use Rattle.std.specs.Char.{is_ascii_digit}
use Rattle.std.specs.List.{AllByRecursion, join_with_byte}
use Rattle.sx_term.specs.declared.lex_kind.LexKind.TheVariants.{Id, Num, Str}
use Rattle.sx_term.specs.declared.mark.Mark.{Mark}
use Rattle.sx_term.specs.declared.mark.Mark.TheVariants.{Lit, Lex, Meta}
use Rattle.sx_term.specs.Cutting.{is_blank_or_feed, AreCharacters, IsWord, AreSymbols, IsString}
use Rattle.sx_term.specs.Cutting.{Piece}

-- a literal that is a word
abbrev pub IsWordLiteral : List ℕ → Type 0
IsWordLiteral text = IsWord text []

-- a literal that is one or more symbol characters without `//`
abbrev pub IsSymbolLiteral : List ℕ → Type 0
IsSymbolLiteral text = AreSymbols text × ((front more : List ℕ) → text ≢ front ++ 47 ∷ 47 ∷ more)

-- the text is by itself a token with this mark, and a lexeme is no literal
abbrev pub IsTokenText : List (List ℕ) → Bool → Mark → List ℕ → Type 0
IsTokenText literals metas (Lit i) text = (slice_get literals i ≡ Some text) ×
    (IsWordLiteral text ⊎ IsSymbolLiteral text)
IsTokenText literals metas (Lex Id) text = ¬ (Contains literals text) × IsWord text []
IsTokenText literals metas (Lex Num) text = (0 < length text) × AreCharacters is_ascii_digit text
IsTokenText literals metas (Lex Str) text = IsString text []
IsTokenText literals metas Meta text = IsTrue metas ×
    ((word : List ℕ) × (text ≡ 126 ∷ word) × IsWord word [])

-- the texts with one blank between them
abbrev pub spaced : List (Mark × List ℕ) → List ℕ
spaced ts = join_with_byte 32 (map (λ t. t.1) ts)

-- the tokens with their places, where the first begins at this place and one byte stands between
-- them
abbrev pub placed : ℕ → List (Mark × List ℕ) → List Piece
placed from [] = []
placed from (t ∷ ts) = record {
  mark = t.0;
  text = t.1;
  from = from;
  to = from + length t.1;
} ∷ placed (from + length t.1 + 1) ts

-- each byte is a blank
abbrev pub AreBlanks : List ℕ → Type 0
AreBlanks text = AllByRecursion (λ b. IsTrue (is_blank_or_feed b)) text
