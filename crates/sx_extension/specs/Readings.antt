-- What an extension file is read as: its lines, its grammars, its plain bodies and its rules.
use Rattle.std.specs.Prelude.{◌≡◌, ℕ, ◌⊎◌, List, [], ◌∷◌, Option, Some, Ok, Err, length, slice_get}
use Rattle.sx_term.specs.declared.sort.Sort.{Sort}
use Rattle.sx_term.specs.Tree.{Tree}
use Rattle.sx_grammar.specs.declared.grammar_error.GrammarError.{GrammarError}
use Rattle.sx_grammar.specs.Grammar.{Text}
use Rattle.sx_grammar.specs.Parts.{Line, Parts, labels}
use Rattle.sx_grammar.specs.Tables.{GrammarData}
use Rattle.sx_grammar.specs.Made.{IsGrammar}
use Rattle.sx_grammar.specs.Told.{IsSortOfLabel}
use Rattle.sx_grammar.specs.Extended.{extended}
use Rattle.sx_rules.specs.Views.{NamedRule}
use Rattle.sx_directives.specs.declared.rows.FormLine.{FormLine}
use Rattle.sx_directives.specs.declared.rows.VarLine.{VarLine}
use Rattle.sx_outline.specs.declared.outline_error.OutlineError.{OutlineError}
use Rattle.sx_outline.specs.Stages.{PlainData}
use Rattle.sx_outline.specs.ExtensionOutlined.{ExtensionOutlineData, IsExtensionAnswer}
use Rattle.sx_notation.specs.declared.notation_error.NotationError.{NotationError}
use Rattle.sx_notation.specs.RuleParts.{rule_parts}
use Rattle.sx_notation.specs.ReadText.{ReaderData}
use Rattle.sx_notation.specs.ReadAmong.{IsReadAmong, IsRefusedAmong}
use Rattle.sx_language.specs.RuleLine.{Reader}
use Rattle.sx_language.specs.RuleTexts.{AreRules, IsFirstBadRule}
use Rattle.sx_language.specs.States.{AreStems, IsNoGrammar}
use Rattle.sx_extension.specs.Grounds.{Ground, GroundHasForms}
use Rattle.sx_extension.specs.PlainBodies.{BodyData}

-- the text has this outline, after the stems of the language
pub record HasOutline (g : Ground) (bytes : Text) (o : ExtensionOutlineData) : Type 0 where
  pub before : List VarLine
  pub stems : AreStems g.language before g.stems
  pub outlined : IsExtensionAnswer g.language.sorts before bytes (Ok o)

-- the text has no outline, after the stems of the language, and this is why
pub record HasNoOutline (g : Ground) (bytes : Text) (e : OutlineError) : Type 0 where
  pub before : List VarLine
  pub stems : AreStems g.language before g.stems
  pub refused : IsExtensionAnswer g.language.sorts before bytes (Err e)

-- the sorts and productions before the extension, and its productions after them
abbrev pub with_own : Ground → List Line → Parts
with_own g own = extended g.grammar.parts own

-- both are grammars: the one with the extension's productions, which adds no base ones, and that by
-- which its rules are read
pub record AreGrammars (g : Ground) (own : List Line) (grammar by_rules : GrammarData) : Type 0
  where
    pub lines : List FormLine
    pub has_forms : GroundHasForms g lines
    pub parts : grammar.parts ≡ with_own g own
    pub base : grammar.base ≡ g.grammar.base
    pub is_grammar : IsGrammar (with_own g own)
    pub read_by : by_rules.parts ≡ rule_parts (with_own g own) lines
    pub rule_base : by_rules.base ≡ length by_rules.parts.productions
    pub is_rule_grammar : IsGrammar (rule_parts (with_own g own) lines)

-- the first of the grammars that is none is refused
abbrev pub AreNoGrammars : Ground → List Line → GrammarError → Type 0
AreNoGrammars g own e =
    IsNoGrammar (with_own g own) e
    ⊎ (IsGrammar (with_own g own) × ((lines : List FormLine) × GroundHasForms g lines ×
    IsNoGrammar (rule_parts (with_own g own) lines) e))

-- the text has this outline and these grammars, and its lines are read by this
pub record IsExtensionReadable (g : Ground) (bytes : Text) (o : ExtensionOutlineData)
    (grammar by_rules : GrammarData) (r : Reader) : Type 0 where
  pub outlined : HasOutline g bytes o
  pub grammars : AreGrammars g o.productions grammar by_rules
  pub read_by : r.parts ≡ by_rules.parts
  pub stems : AreStems grammar.parts o.vars r.stems
  pub forms : r.forms ≡ g.forms

-- the production with this number has this label and makes this sort
abbrev pub IsProduction : Parts → (label : Text) → (number : ℕ) → Sort → Type 0
IsProduction p label number sort =
    (slice_get (labels p) number ≡ Some label) × IsSortOfLabel p number sort

-- the pair states the plain body: the production has its label, and the term is that of the only
-- reading of its line at the production's sort, by the names of the parts
pub record IsPlainRead (p : Parts) (r : ReaderData) (l : PlainData) (b : BodyData) : Type 0 where
  pub sort : Sort
  pub made_by : IsProduction p l.label b.label sort
  pub many : b.parts ≡ length l.names
  pub read : IsReadAmong r.parts r.stems sort l.body.text l.names b.term

-- so it is of each pair
abbrev pub ArePlainsRead : Parts → ReaderData → List PlainData → List BodyData → Type 0
ArePlainsRead p r [] [] = Unit {0}
ArePlainsRead p r (l ∷ ls) (b ∷ bs) = IsPlainRead p r l b × ArePlainsRead p r ls bs
ArePlainsRead p r _ _ = ⊥

-- the line of the plain body is not read at the production's sort
abbrev pub IsBadPlain : Parts → ReaderData → PlainData → NotationError → Type 0
IsBadPlain p r l e = (number : ℕ) × (sort : Sort) × IsProduction p l.label number sort ×
    IsRefusedAmong r.parts r.stems sort l.body.text l.names l.body.number e

-- the first line of a plain body that is not read is refused so
abbrev pub IsFirstBadPlain : Parts → ReaderData → List PlainData → NotationError → Type 0
IsFirstBadPlain p r [] e = ⊥
IsFirstBadPlain p r (l ∷ ls) e =
    IsBadPlain p r l e
    ⊎ ((b : BodyData) × IsPlainRead p r l b × IsFirstBadPlain p r ls e)

-- the plain bodies of an extension, and its rules with the names of their variables and with their
-- bodies
pub record Texts : Type 0 where
  pub plains : List BodyData
  pub rules : List NamedRule
  pub names : List (List Text)
  pub bodies : List (Option Tree)

-- what plain bodies are read by: the grammar of rules, and the stems
abbrev pub tables : Reader → ReaderData
tables r = record { parts = r.parts; stems = r.stems }

-- the lines of the outline state the plain bodies and the rules
pub record AreTextsRead (p : Parts) (r : Reader) (o : ExtensionOutlineData)
    (x : Texts) : Type 0 where
  pub plains : ArePlainsRead p (tables r) o.plains x.plains
  pub rules : AreRules r o.rules x.names x.rules x.bodies

-- the first bad line of the plain bodies is refused, or these are read and that of the rules is
abbrev pub IsBadText : Parts → Reader → ExtensionOutlineData → NotationError → Type 0
IsBadText p r o e =
    IsFirstBadPlain p (tables r) o.plains e
    ⊎ ((bs : List BodyData) × ArePlainsRead p (tables r) o.plains bs × IsFirstBadRule r o.rules e)
