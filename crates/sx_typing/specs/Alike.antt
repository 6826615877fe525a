-- Bodies and refusals of sources that are the same, though two readings that a refusal shows may
-- not be, where a text has more than two.
use Rattle.std.specs.Prelude.{◌≡◌, ◌≢◌, ◌⊎◌, ℕ, List, []}
use Rattle.sx_term.specs.declared.role.Role.TheVariants.{Sub}
use Rattle.sx_term.specs.declared.sort.Sort.{Sort}
use Rattle.sx_token.specs.declared.token.Token.{Token}
use Rattle.sx_grammar.specs.Grammar.{Text}
use Rattle.sx_grammar.specs.Parts.{Parts}
use Rattle.sx_rules.specs.Modes.{AllModed}
use Rattle.sx_rules.specs.Views.{modes_of}
use Rattle.sx_notation.specs.declared.unread.Unread.TheVariants.{Ambiguous}
use Rattle.sx_notation.specs.OneReason.{HaveThree}
use Rattle.sx_typing.specs.declared.module_error.ModuleError.{ModuleError}
use Rattle.sx_typing.specs.declared.module_error.ModuleError.TheVariants.{Memory, Read}
use Rattle.sx_typing.specs.Body.{IsCut}
use Rattle.sx_typing.specs.Goals.{dialect_rules}
use Rattle.sx_typing.specs.Refused.{HasReadBody, HasTyping, HasWalked, IsBadSource}
use Rattle.sx_typing.specs.BodySource.{BodySource, main_sort}

-- the text has more than two readings as the sort
abbrev pub HasThree : Parts → Sort → (text : Text) → Type 0
HasThree p sort text = (ts : List Token) × IsCut p text ts × HaveThree p [] sort ts

-- the body has more than two
abbrev pub BodyHasThree : BodySource → Type 0
BodyHasThree s = HasThree s.dialect.parts (main_sort s.dialect.language Sub) s.header.body

-- both say that the body has more than one reading, and show two of them; it has more than two
pub record ReadOthers (s : BodySource) (e d : ModuleError) : Type 0 where
  pub line : ℕ
  pub column : ℕ
  pub one : Text
  pub other : Text
  pub some : Text
  pub more : Text
  pub first : e ≡ Read line column (Ambiguous one other)
  pub second : d ≡ Read line column (Ambiguous some more)
  pub three : BodyHasThree s

-- the same refusal, but for the two readings that it shows of a text with more than two
abbrev pub AreTypingsAlike : BodySource → ModuleError → ModuleError → Type 0
AreTypingsAlike s e d = (e ≡ d) ⊎ ReadOthers s e d

-- the same tokens, the same reading and the same term
pub record SameBody (s : BodySource) (b c : HasReadBody s) : Type 0 where
  pub tokens : b.tokens ≡ c.tokens
  pub reading : b.reading ≡ c.reading
  pub subject : b.subject ≡ c.subject

-- and the same derivation with the same output
pub record SameTyping (s : BodySource) (tries : ℕ) (t u : HasTyping s tries) : Type 0 where
  pub body : SameBody s t.body u.body
  pub output : t.output ≡ u.output
  pub answer : t.answer ≡ u.answer

-- A body has one reading and its goal one answer, or a source has one refusal, and its walk makes
-- so many tries. Two readings that a refusal shows are the same two in the same order, that of
-- their tree texts by bytes, unless the text has more than two. Out of memory is free.
pub record OneTyping : Type 0 where
  pub read : (s : BodySource) (b c : HasReadBody s) → SameBody s b c
  pub found : (s : BodySource) (tries : ℕ) (t u : HasTyping s tries) → SameTyping s tries t u
  pub either : (s : BodySource) (tries : ℕ) (t : HasTyping s tries) (e : ModuleError) →
      IsBadSource s tries e → e ≡ Memory
  pub refused : (s : BodySource) (tries : ℕ) (e d : ModuleError) →
      AllModed (modes_of s.dialect.language.forms) (dialect_rules s.dialect) →
      IsBadSource s tries e → IsBadSource s tries d → e ≢ Memory → d ≢ Memory →
      AreTypingsAlike s e d
  pub counted : (s : BodySource) (tries made other : ℕ) → HasWalked s tries made →
      HasWalked s tries other → made ≡ other
