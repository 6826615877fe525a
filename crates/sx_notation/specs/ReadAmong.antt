-- Lines whose metavariables are to be among some names.
use Rattle.std.specs.Prelude.{◌≡◌, ℕ, ◌⊎◌, List, length, Contains}
use Rattle.std.specs.List.{AllByRecursion}
use Rattle.sx_term.specs.declared.mark.Mark.TheVariants.{Meta}
use Rattle.sx_term.specs.declared.sort.Sort.{Sort}
use Rattle.sx_term.specs.Tree.{Tree}
use Rattle.sx_term.specs.Vars.{without_tilde}
use Rattle.sx_token.specs.declared.token.Token.{Token}
use Rattle.sx_grammar.specs.Grammar.{Text}
use Rattle.sx_grammar.specs.Parts.{Parts, numbered}
use Rattle.sx_grammar.specs.Reading.{Reading}
use Rattle.sx_grammar.specs.ReadOne.{IsAnswer, only}
use Rattle.sx_grammar.specs.Print.{term_of}
use Rattle.sx_earley.specs.Tokens.{Stems, plain_tokens}
use Rattle.sx_earley.specs.Unknown.{IsUnknownStem}
use Rattle.sx_earley.specs.Completed.{sort_number}
use Rattle.sx_lines.specs.declared.kind.Kind.TheVariants.{Variable}
use Rattle.sx_notation.specs.WhyUnread.{IsUnreadAs}
use Rattle.sx_notation.specs.ReadText.{IsLineCut, IsKnownCut, LineHasDefect}
use Rattle.sx_notation.specs.declared.notation_error.NotationError.{NotationError}
use Rattle.sx_notation.specs.declared.notation_error.NotationError.TheVariants.{Memory, Notation}
use Rattle.sx_notation.specs.declared.notation_error.NotationError.TheVariants.{Token as BadTokens}
use Rattle.sx_notation.specs.declared.notation_error.NotationError.TheVariants.{Read}

-- if the token is a metavariable, its name is one of these
abbrev pub IsNamed : (names : List Text) → Token → Type 0
IsNamed names t = t.mark ≡ Meta → Contains names (without_tilde t.text)

-- the token is a metavariable, and its name is none of these
abbrev pub IsUnnamed : (names : List Text) → Token → Type 0
IsUnnamed names t = (t.mark ≡ Meta) × ¬ (Contains names (without_tilde t.text))

-- the line is cut into the tokens, and each metavariable has a known stem and one of the names
abbrev pub IsNamedCut : Parts → Stems → (names : List Text) → (line : Text) → List Token → Type 0
IsNamedCut p stems names line ts = IsKnownCut p stems line ts × AllByRecursion (IsNamed names) ts

-- the tree is that of the line's only reading as the sort, and its variables are numbered by the
-- names, among which all metavariables of the line are
pub record IsReadAmong (p : Parts) (stems : Stems) (sort : Sort) (line : Text) (names : List Text)
    (t : Tree) : Type 0 where
  pub tokens : List Token
  pub cut : IsNamedCut p stems names line tokens
  pub reading : Reading
  pub answer : IsAnswer (numbered p) (plain_tokens stems tokens) (sort_number sort) (only reading)
  pub term : t ≡ term_of (plain_tokens stems tokens) names reading

-- a metavariable among the tokens of the line has an unknown stem or none of the names
abbrev pub HasStranger : Parts → Stems → (names : List Text) → (line : Text) → Type 0
HasStranger p stems names line = (ts : List Token) × (t : Token) × IsLineCut p line ts ×
    Contains ts t × (IsUnknownStem stems t ⊎ IsUnnamed names t)

-- why the line with this number is refused, out of memory aside
abbrev pub IsRefusedAmong : Parts → Stems → Sort → (line : Text) → (names : List Text) →
    (number : ℕ) → NotationError → Type 0
IsRefusedAmong p stems sort line names number Memory = Unit {0}
IsRefusedAmong p stems sort line names number (BadTokens at e) =
    (at ≡ number) × LineHasDefect p line e
IsRefusedAmong p stems sort line names number (Notation at kind) =
    (at ≡ number) × (kind ≡ Variable) × HasStranger p stems names line
IsRefusedAmong p stems sort line names number (Read at e) = (at ≡ number) ×
    ((ts : List Token) × IsNamedCut p stems names line ts ×
    IsUnreadAs p stems sort ts (length line) e)
IsRefusedAmong p stems sort line names number _ = ⊥
