-- The term that a line of text spells.
use Rattle.std.specs.Prelude.{◌≡◌, ℕ, true, List, length, Some, Err, IfSome}
use Rattle.sx_term.specs.declared.sort.Sort.{Sort}
use Rattle.sx_term.specs.Cutting.{IsOutcome, tokens}
use Rattle.sx_term.specs.Tree.{Tree}
use Rattle.sx_token.specs.declared.token.Token.{Token}
use Rattle.sx_token.specs.declared.token_error.TokenError.{TokenError}
use Rattle.sx_token.specs.declared.token_error.TokenError.TheVariants as token
use Rattle.sx_token.specs.Tokens.{pieces, outcome_of}
use Rattle.sx_grammar.specs.Grammar.{Text}
use Rattle.sx_grammar.specs.Parts.{Parts, numbered}
use Rattle.sx_grammar.specs.Tables.{literals_of}
use Rattle.sx_grammar.specs.Reading.{Reading}
use Rattle.sx_grammar.specs.ReadOne.{IsAnswer, only}
use Rattle.sx_grammar.specs.Print.{term_of}
use Rattle.sx_earley.specs.Tokens.{Stems, plain_tokens}
use Rattle.sx_earley.specs.Unknown.{HaveStems, IsFirstUnknown}
use Rattle.sx_earley.specs.Completed.{sort_number}
use Rattle.sx_forest.specs.Names.{reading_names, AddsEach}
use Rattle.sx_lines.specs.declared.kind.Kind.TheVariants.{Variable}
use Rattle.sx_notation.specs.WhyUnread.{IsUnreadAs}
use Rattle.sx_notation.specs.declared.notation_error.NotationError.{NotationError}
use Rattle.sx_notation.specs.declared.notation_error.NotationError.TheVariants.{Memory, Notation}
use Rattle.sx_notation.specs.declared.notation_error.NotationError.TheVariants.{Token as BadTokens}
use Rattle.sx_notation.specs.declared.notation_error.NotationError.TheVariants.{Read}

-- what lines are read by: the parts of a grammar, and stems
pub record ReaderData : Type 0 where
  pub parts : Parts
  pub stems : Stems

-- the line is cut into the tokens, by the literals of the grammar; metavariables may stand in it
abbrev pub IsLineCut : Parts → (line : Text) → List Token → Type 0
IsLineCut p line ts = IsOutcome (literals_of p) true line (tokens (pieces ts))

-- and the stem of each metavariable is known
abbrev pub IsKnownCut : Parts → Stems → (line : Text) → List Token → Type 0
IsKnownCut p stems line ts = IsLineCut p line ts × HaveStems stems ts

-- the tree is that of the line's only reading as the sort; names that the old list lacks are added
-- to it in order of standing
pub record IsReadLine (p : Parts) (stems : Stems) (sort : Sort) (line : Text) (old new : List Text)
    (t : Tree) : Type 0 where
  pub tokens : List Token
  pub known : IsKnownCut p stems line tokens
  pub reading : Reading
  pub answer : IsAnswer (numbered p) (plain_tokens stems tokens) (sort_number sort) (only reading)
  pub names : AddsEach old (reading_names tokens reading) new
  pub term : t ≡ term_of (plain_tokens stems tokens) new reading

-- the line has this first defect
abbrev pub LineHasDefect : Parts → (line : Text) → TokenError → Type 0
LineHasDefect p line token.Memory = ⊥
LineHasDefect p line e = IfSome (outcome_of (Err e)) (IsOutcome (literals_of p) true line)

-- a metavariable among the tokens of the line has an unknown stem
abbrev pub HasUnknown : Parts → Stems → (line : Text) → Type 0
HasUnknown p stems line = (ts : List Token) × (place : ℕ) × IsLineCut p line ts ×
    IsFirstUnknown stems ts (Some place)

-- why the line with this number has no tokens whose stems are known, out of memory aside
abbrev pub IsUncut : Parts → Stems → (line : Text) → (number : ℕ) → NotationError → Type 0
IsUncut p stems line number Memory = Unit {0}
IsUncut p stems line number (BadTokens at e) = (at ≡ number) × LineHasDefect p line e
IsUncut p stems line number (Notation at kind) = (at ≡ number) × (kind ≡ Variable) ×
    HasUnknown p stems line
IsUncut p stems line number _ = ⊥

-- why the line with this number is refused, out of memory aside
abbrev pub IsTextRefused : Parts → Stems → Sort → (line : Text) → (number : ℕ) → NotationError →
    Type 0
IsTextRefused p stems sort line number Memory = Unit {0}
IsTextRefused p stems sort line number (BadTokens at e) = (at ≡ number) × LineHasDefect p line e
IsTextRefused p stems sort line number (Notation at kind) = (at ≡ number) × (kind ≡ Variable) ×
    HasUnknown p stems line
IsTextRefused p stems sort line number (Read at e) = (at ≡ number) ×
    ((ts : List Token) × IsKnownCut p stems line ts × IsUnreadAs p stems sort ts (length line) e)
IsTextRefused p stems sort line number _ = ⊥

-- the tokens of a line of so many bytes have not one reading, out of memory aside
abbrev pub IsUnreadLine : Parts → Stems → Sort → List Token → (size : ℕ) → (number : ℕ) →
    NotationError → Type 0
IsUnreadLine p stems sort ts size number Memory = Unit {0}
IsUnreadLine p stems sort ts size number (Read at e) = (at ≡ number) ×
    IsUnreadAs p stems sort ts size e
IsUnreadLine p stems sort ts size number _ = ⊥

-- a defect as a refusal of the line with this number
abbrev pub line_token_error : (number : ℕ) → TokenError → NotationError
line_token_error number token.Memory = Memory
line_token_error number e = BadTokens number e
