-- Refusals of languages that are the same, though two readings that they show of a line may not be,
-- where the line has more than two.
use Rattle.std.specs.Prelude.{◌≡◌, ◌⊎◌, ℕ, List, Some, Contains, map}
use Rattle.sx_term.specs.declared.sort.Sort.{Sort}
use Rattle.sx_token.specs.declared.token.Token.{Token}
use Rattle.sx_grammar.specs.Grammar.{Text}
use Rattle.sx_grammar.specs.Parts.{Parts}
use Rattle.sx_earley.specs.Tokens.{Stems}
use Rattle.sx_rules.specs.Rules.{Judgement, holds}
use Rattle.sx_outline.specs.declared.outline.Outline.{Outline}
use Rattle.sx_outline.specs.Stages.{Numbered, RuleData, rule_data}
use Rattle.sx_notation.specs.declared.notation_error.NotationError.{NotationError}
use Rattle.sx_notation.specs.declared.notation_error.NotationError.TheVariants.{Read}
use Rattle.sx_notation.specs.declared.unread.Unread.TheVariants.{Ambiguous}
use Rattle.sx_notation.specs.OneReason.{HaveThree}
use Rattle.sx_notation.specs.ReadText.{IsKnownCut}
use Rattle.sx_language.specs.RuleLine.{Reader, judgements, subject_sort, IsLine}
use Rattle.sx_language.specs.States.{IsReadable}

-- the line has more than two readings as the sort; metavariables may stand in it
abbrev pub LineHasThree : Parts → Stems → Sort → (line : Text) → Type 0
LineHasThree p stems sort line =
    (ts : List Token) × IsKnownCut p stems line ts × HaveThree p stems sort ts

-- the conclusion of the rule is read, and its subject has this sort
pub record IsSubjectSort (r : Reader) (lines : RuleData) (sort : Sort) : Type 0 where
  pub old : List Text
  pub new : List Text
  pub conclusion : Judgement
  pub read : IsLine r lines.conclusion.text old new (holds conclusion)
  pub is : subject_sort r.forms conclusion.form ≡ Some sort

-- the line is one of the rule's, and is read as the sort: premises and the conclusion as
-- judgements, and the body as the conclusion's subject
abbrev pub IsLineAs : Reader → RuleData → Numbered → Sort → Type 0
IsLineAs r lines line sort =
    (Contains lines.premises line × (sort ≡ judgements r.parts))
    ⊎ ((line ≡ lines.conclusion) × (sort ≡ judgements r.parts))
    ⊎ ((lines.body ≡ Some line) × IsSubjectSort r lines sort)

-- the line of the rule with this number has more than two readings
pub record RuleHasThree (r : Reader) (lines : RuleData) (number : ℕ) : Type 0 where
  pub line : Numbered
  pub sort : Sort
  pub read_as : IsLineAs r lines line sort
  pub is : line.number ≡ number
  pub three : LineHasThree r.parts r.stems sort line.text

-- so it is of a line of one of these rules
abbrev pub RulesHaveThree : Reader → List RuleData → (number : ℕ) → Type 0
RulesHaveThree r ls number = (l : RuleData) × Contains ls l × RuleHasThree r l number

-- so it is of a line of one of the rules of this language file
pub record LanguageHasThree (name bytes : Text) (number : ℕ) : Type 0 where
  pub outline : Outline
  pub reader : Reader
  pub readable : IsReadable name bytes outline reader
  pub three : RulesHaveThree reader (map rule_data outline.rules.items) number

-- both say that the line has more than one reading, and show two of them; it has more than two
pub record LineShowsOthers (HasMore : (line : ℕ) → Type 0) (e d : NotationError) : Type 0 where
  pub line : ℕ
  pub one : Text
  pub other : Text
  pub some : Text
  pub more : Text
  pub first : e ≡ Read line (Ambiguous one other)
  pub second : d ≡ Read line (Ambiguous some more)
  pub three : HasMore line
