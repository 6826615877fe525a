-- The text of printed tokens, and which terms can be printed.
use Rattle.std.specs.Prelude.{◌≡◌, ℕ, ◌+◌, ◌<◌, ◌≤◌, ◌⊎◌, List, [], ◌∷◌, ◌++◌, Option, Some, None}
use Rattle.std.specs.Prelude.{cond, nat_lt, length, map, flat_map}
use Rattle.std.specs.List.{slice_get, AllByRecursion, join_with_byte}
use Rattle.std.specs.Str.{IsUtf8}
use Rattle.sx_term.specs.Tree.{Tree, Trees, node, lexeme, hole, none, ◌▹◌, listed}
use Rattle.sx_grammar.specs.Grammar.{Symbol, literal, lexical, part, Production, Brackets}
use Rattle.sx_grammar.specs.Grammar.{Grammar, pair_of, Stem, of_kind, of_sort, Token}
use Rattle.sx_grammar.specs.Print.{Fits}

-- the tokens' texts with one blank between them
abbrev pub text_of : List Token → List ℕ
text_of tokens = join_with_byte 32 (map (λ token. token.text) tokens)

-- the least level is 0, or a part of some production asks for it here; here may be a lexical kind
abbrev pub IsAskedFor : Grammar → Stem → ℕ → Type 0
IsAskedFor g (of_kind kind) least = Unit {0}
IsAskedFor g (of_sort sort) least = (least ≡ 0)
    ⊎ ((label : ℕ) × (p : Production) × (place : ℕ) × (slice_get g.productions label ≡ Some p) ×
    (slice_get p.symbols place ≡ Some (part sort least)))

-- the term fits where this least level is asked for, under some sorts of as many variables at most
pub record IsPrintableTerm (g : Grammar) (variables least : ℕ) (t : Tree) : Type 0 where
  pub stems : List Stem
  pub place : Stem
  pub fits : Fits g stems place t
  pub named : length stems ≤ variables
  pub asked : IsAskedFor g place least

-- the tokens' texts, each with a blank behind it
abbrev pub written_tokens : List Token → List ℕ
written_tokens tokens = flat_map (λ token. token.text ++ 32 ∷ []) tokens

-- each token's text is UTF-8
abbrev pub HaveUtf8 : List Token → Type 0
HaveUtf8 tokens = AllByRecursion (λ token. IsUtf8 token.text) tokens

-- the new text is the old one and the tokens, each with a blank behind it; they are UTF-8
pub record AddsTokens (tokens : List Token) (old new : List ℕ) : Type 0 where
  pub text : new ≡ old ++ written_tokens tokens
  pub utf8 : HaveUtf8 tokens

-- how many of the symbols are no literals
abbrev pub parts_in : List Symbol → ℕ
parts_in [] = 0
parts_in (literal text ∷ rest) = parts_in rest
parts_in (lexical kind ∷ rest) = parts_in rest + 1
parts_in (part sort least ∷ rest) = parts_in rest + 1

abbrev mutual
  -- each label has a production with as many parts as the node has kids, and each variable is below
  -- the number
  pub HasProductions : Grammar → ℕ → Tree → Type 0
  HasProductions g variables (node label kids) = (p : Production) ×
      (slice_get g.productions label ≡ Some p) × (parts_in p.symbols ≡ length (listed kids)) ×
      HaveProductions g variables kids
  HasProductions g variables (lexeme kind text) = Unit {0}
  HasProductions g variables (hole v) = v < variables

  -- so it is of each term
  pub HaveProductions : Grammar → ℕ → Trees → Type 0
  HaveProductions g variables none = Unit {0}
  HaveProductions g variables (t ▹ ts) = HasProductions g variables t
      × HaveProductions g variables ts

-- the brackets of the sort, where its production is below the least level
abbrev pub brackets_below : Grammar → ℕ → ℕ → ℕ → Option Brackets
brackets_below g sort level least = cond (nat_lt level least) (pair_of g sort) None
