-- Languages with extensions in use.
use Rattle.std.specs.Prelude.{◌≡◌, ◌++◌, List, map}
use Rattle.std.specs.List.{AllByRecursion}
use Rattle.sx_grammar.specs.Extended.{extended}
use Rattle.sx_grammar.specs.Parts.{Line, Parts}
use Rattle.sx_grammar.specs.Tables.{literals_of}
use Rattle.sx_grammar.specs.Told.{shapes_of}
use Rattle.sx_rules.specs.Good.{IsRuleSet}
use Rattle.sx_rules.specs.Sets.{forms_in, rules_in}
use Rattle.sx_rules.specs.Views.{NamedRule}
use Rattle.sx_directives.specs.declared.rows.FormLine.{FormLine}
use Rattle.sx_rewrite.specs.Accepted.{Accepted, IsAccepted, extended_rules}
use Rattle.sx_rewrite.specs.AcceptedView.{accepted}
use Rattle.sx_rewrite.specs.Stored.{signature_of}
use Rattle.sx_lexemes.specs.Lexemes.{IsToken, SetLexemesAre}
use Rattle.sx_notation.specs.Language.{FormFits, IsMain, LanguageData, language_data}
use Rattle.sx_notation.specs.RuleLaws.{form_of, HaveSortsOf}
use Rattle.sx_notation.specs.RuleParts.{rule_parts}
use Rattle.sx_typing.specs.declared.dialect.Dialect.{Dialect}

-- a language with the extensions in use: its sorts and productions with theirs, those by which
-- rules are read, its rules with theirs, and what is accepted
pub record DialectData : Type 0 where
  pub language : LanguageData
  pub parts : Parts
  pub rule_parts : Parts
  pub rules : List NamedRule
  pub set : Accepted

-- the view of a dialect
abbrev pub dialect_of : Dialect → DialectData
dialect_of d = record {
  language = language_data d.language.now;
  parts = d.grammar.now.parts;
  rule_parts = d.rule_grammar.now.parts;
  rules = rules_in d.accepted.now.rules;
  set = accepted d.accepted.now;
}

-- The productions go on from those of the language, with its sorts. The forms are the language's,
-- of some form lines, and so are the grammars by which rules are read. The rules are those that are
-- accepted, with names, those of the language first; they are a rule set, and each lexeme of what
-- is accepted is a token and no literal of the language.
pub record IsDialect (d : DialectData) : Type 0 where
  pub more : List Line
  pub goes_on : d.parts ≡ extended d.language.parts more
  pub lines : List FormLine
  pub known : HaveSortsOf d.language.parts lines
  pub read_by : d.language.rule_parts ≡ rule_parts d.language.parts lines
  pub rules_read_by : d.rule_parts ≡ rule_parts d.parts lines
  pub forms : d.language.forms ≡ map (form_of d.language.parts) lines
  pub fit : AllByRecursion FormFits d.language.forms
  pub main : IsMain d.language.parts d.language.forms d.language.main
  pub accepted : IsAccepted (signature_of d.language.forms) (shapes_of d.language.parts)
      (shapes_of d.parts) d.set
  pub base : d.set.base ≡ map (λ r. r.rule) d.language.rules
  pub rules_are : map (λ r. r.rule) d.rules ≡ extended_rules d.set
  pub begins : (own : List NamedRule) × (d.rules ≡ d.language.rules ++ own)
  pub rule_set : IsRuleSet (shapes_of d.parts) d.language.forms d.rules
  pub lexemes : SetLexemesAre (IsToken (literals_of d.language.parts)) d.set

-- so it is of a dialect in memory, and the rules have the language's forms
pub record IsDialectOf (d : Dialect) : Type 0 where
  pub is : IsDialect (dialect_of d)
  pub forms : forms_in d.accepted.now.rules ≡ forms_in d.language.now.rules
