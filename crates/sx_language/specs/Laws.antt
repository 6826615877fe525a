-- A text states one language.
use Rattle.std.specs.Prelude.{◌≡◌, ◌≢◌, ◌≤◌, ◌⊎◌, ◌++◌, ℕ, List, Option, Some, IfSome}
use Rattle.std.specs.Prelude.{map, length}
use Rattle.std.specs.List.{AllByRecursion}
use Rattle.sx_term.specs.declared.sort.Sort.{Sort}
use Rattle.sx_term.specs.Sorts.{HasSort}
use Rattle.sx_term.specs.Tree.{Tree, depth_of}
use Rattle.sx_grammar.specs.Grammar.{Text}
use Rattle.sx_grammar.specs.Parts.{Parts}
use Rattle.sx_grammar.specs.Tables.{literals_of}
use Rattle.sx_grammar.specs.Told.{shapes_of}
use Rattle.sx_earley.specs.Completed.{IsSort}
use Rattle.sx_earley.specs.Tokens.{Stems}
use Rattle.sx_print.specs.Cut.{HasLexemes}
use Rattle.sx_rules.specs.declared.error.RuleError.TheVariants.{NotModed}
use Rattle.sx_rules.specs.Deep.{RulesAreShallow}
use Rattle.sx_rules.specs.Good.{IsAmong}
use Rattle.sx_rules.specs.Sets.{shapes_in}
use Rattle.sx_rules.specs.Views.{NamedRule}
use Rattle.sx_directives.specs.declared.rows.FormLine.{FormLine}
use Rattle.sx_directives.specs.declared.rows.VarLine.{VarLine}
use Rattle.sx_outline.specs.Stages.{RuleData}
use Rattle.sx_notation.specs.declared.language.Language.{Language}
use Rattle.sx_notation.specs.declared.notation_error.NotationError.{NotationError}
use Rattle.sx_notation.specs.declared.notation_error.NotationError.TheVariants.{Memory}
use Rattle.sx_notation.specs.Language.{RuleHasLexemes, language_data}
use Rattle.sx_notation.specs.ReadText.{IsReadLine}
use Rattle.sx_notation.specs.RuleParts.{rule_parts}
use Rattle.sx_language.specs.RuleLine.{Reader, subject_sort, CanReadRules}
use Rattle.sx_language.specs.RuleTexts.{HaveStemSorts, IsRule, AreRules, IsFirstBadRule}
use Rattle.sx_language.specs.States.{AreStems, IsLanguageIn, name_unbound, IsLanguageTextRefused}
use Rattle.sx_language.specs.Alike.{RulesHaveThree, LanguageHasThree, LineShowsOthers}
use Rattle.sx_term.specs.Limits.{most_depth}

-- two languages are the same, but for where they lie in memory
pub record SameLanguage (l k : Language) : Type 0 where
  -- what compiling depends on
  pub content : language_data l ≡ language_data k
  -- the names of the languages
  pub name : l.name ≡ k.name
  -- the grammars, and how many of their productions are base
  pub grammar : l.grammar ≡ k.grammar
  -- the same of the grammars by which rules are read
  pub rule_grammar : l.rule_grammar ≡ k.rule_grammar
  -- the stems of metavariables, each with its sort
  pub stems : l.metas.stems.items ≡ k.metas.stems.items
  -- the shapes that the rules were made with
  pub shapes : shapes_in l.rules ≡ shapes_in k.rules
  -- the names of the variables of each rule
  pub names : l.names.items ≡ k.names.items

-- A text states one language, or has one refusal, but for the two readings that it shows of a line
-- with more than two. Out of memory is free.
pub record OneLanguage : Type 0 where
  pub found : (name bytes : List ℕ) (l k : Language) → IsLanguageIn name bytes l →
      IsLanguageIn name bytes k → SameLanguage l k
  pub either : (name bytes : List ℕ) (l : Language) (e : NotationError) →
      IsLanguageIn name bytes l →
      IsLanguageTextRefused name bytes e → e ≡ Memory
  pub refused : (name bytes : List ℕ) (e d : NotationError) → IsLanguageTextRefused name bytes e →
      IsLanguageTextRefused name bytes d → e ≢ Memory → d ≢ Memory →
      (e ≡ d) ⊎ LineShowsOthers (LanguageHasThree name bytes) e d

-- Lines state one list of rules with their bodies and names, or have one first bad line, but for
-- the two readings that its refusal shows where the line has more than two.
pub record OneRules : Type 0 where
  pub found : (r : Reader) (ls : List RuleData) (ns ms : List (List Text)) (qs ws : List NamedRule)
      (ts us : List (Option Tree)) → AreRules r ls ns qs ts → AreRules r ls ms ws us →
      (ns ≡ ms) × (qs ≡ ws) × (ts ≡ us)
  pub either : (r : Reader) (ls : List RuleData) (ns : List (List Text)) (qs : List NamedRule)
      (ts : List (Option Tree)) (e : NotationError) → AreRules r ls ns qs ts →
      IsFirstBadRule r ls e → e ≡ Memory
  pub refused : (r : Reader) (ls : List RuleData) (e d : NotationError) → IsFirstBadRule r ls e →
      IsFirstBadRule r ls d → e ≢ Memory → d ≢ Memory →
      (e ≡ d) ⊎ LineShowsOthers (RulesHaveThree r ls) e d

-- what is read at a sort of the grammar of rules has it, where variables have the sorts of their
-- stems
abbrev pub ReadsAreSorted : Type 0
ReadsAreSorted = (p : Parts) (fs : List FormLine) (vars : List VarLine) (stems : Stems)
    (sort : Sort) (line : Text) (old new : List Text) (t : Tree) (sorts : List Sort) →
    AreStems p vars stems → IsSort (rule_parts p fs) sort →
    IsReadLine (rule_parts p fs) stems sort line old new t → HaveStemSorts stems new sorts →
    HasSort (shapes_of (rule_parts p fs)) sorts t sort

-- so the body of a rule has the sort of the conclusion's subject
abbrev pub BodiesAreSorted : Type 0
BodiesAreSorted = (p : Parts) (fs : List FormLine) (vars : List VarLine) (r : Reader)
    (l : RuleData) (names : List Text) (q : NamedRule) (body : Tree) →
    r.parts ≡ rule_parts p fs → AreStems p vars r.stems → CanReadRules r →
    IsRule r l names q (Some body) →
    (sort : Sort) × (subject_sort r.forms q.rule.conclusion.form ≡ Some sort) ×
    HasSort (shapes_of r.parts) q.rule.sorts body sort

-- the lexemes of rules that are read, and of their bodies, are tokens and no literals of the
-- grammar, and their terms are at most 1,000 deep
pub record RulesAreUsable : Type 0 where
  pub lexemes : (p : Parts) (fs : List FormLine) (r : Reader) (ls : List RuleData)
      (ns : List (List Text)) (qs : List NamedRule) (bs : List (Option Tree)) →
      r.parts ≡ rule_parts p fs → AreRules r ls ns qs bs →
      AllByRecursion (RuleHasLexemes (literals_of p)) qs ×
      AllByRecursion (λ b. IfSome b (HasLexemes (literals_of p))) bs
  pub shallow : (r : Reader) (ls : List RuleData) (ns : List (List Text)) (qs : List NamedRule)
      (bs : List (Option Tree)) → AreRules r ls ns qs bs →
      RulesAreShallow (map (λ q. q.rule) qs) ×
      AllByRecursion (λ b. IfSome b (λ t. depth_of t ≤ most_depth)) bs

-- the name of an unbound variable of a later rule is found among the names of the later rules
abbrev pub UnboundIsLater : Type 0
UnboundIsLater = (before known : List Text) (names later : List (List Text)) (name : Text)
    (variable : ℕ) → length names ≡ length before → (IsAmong name before → ⊥) →
    name_unbound (before ++ known) (names ++ later) (NotModed name variable) ≡
    name_unbound known later (NotModed name variable)
