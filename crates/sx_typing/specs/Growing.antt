-- Languages without extensions, and dialects that grow by extensions.
use Rattle.std.specs.Prelude.{◌≡◌, ◌++◌, List, length, map}
use Rattle.std.specs.List.{AllByRecursion}
use Rattle.sx_term.specs.Untyped.{PlainHaveNoTyped}
use Rattle.sx_grammar.specs.Extended.{extended}
use Rattle.sx_grammar.specs.Parts.{Line, Parts}
use Rattle.sx_grammar.specs.Tables.{literals_of}
use Rattle.sx_grammar.specs.Told.{shapes_of}
use Rattle.sx_rules.specs.Good.{IsRuleSet}
use Rattle.sx_rules.specs.Sets.{forms_in, rules_in}
use Rattle.sx_rules.specs.Views.{NamedRule, subjects_in}
use Rattle.sx_directives.specs.declared.rows.FormLine.{FormLine}
use Rattle.sx_rewrite.specs.Extensions.{StoredExtension, FitsRules, with_table, without_extensions}
use Rattle.sx_rewrite.specs.Extensions.{extended_by}
use Rattle.sx_rewrite.specs.Kinds.{HaveSortsFor}
use Rattle.sx_rewrite.specs.Sound.{AreSoundBy}
use Rattle.sx_rewrite.specs.Stored.{signature_of}
use Rattle.sx_lexemes.specs.Lexemes.{IsToken, ExtLexemesAre, TableLexemesAre}
use Rattle.sx_notation.specs.declared.language.Language.{Language}
use Rattle.sx_notation.specs.Language.{IsLanguage, LanguageData, language_data}
use Rattle.sx_notation.specs.RuleParts.{rule_parts}
use Rattle.sx_typing.specs.Dialects.{DialectData, IsDialect}

-- the language without extensions, as a dialect
abbrev pub unextended_dialect : LanguageData → DialectData
unextended_dialect l = record {
  language = l;
  parts = l.parts;
  rule_parts = l.rule_parts;
  rules = l.rules;
  set = without_extensions (map (λ r. r.rule) l.rules);
}

-- It is one, where its plain constructors have no typed parts, the sorts of its forms are those of
-- their roles, and its rules are a rule set.
abbrev pub LanguagesAreDialects : Type 0
LanguagesAreDialects =
    (l : Language) → IsLanguage l → PlainHaveNoTyped (shapes_of l.grammar.parts) →
    HaveSortsFor (forms_in l.rules) →
    IsRuleSet (shapes_of l.grammar.parts) (forms_in l.rules) (rules_in l.rules) →
    IsDialect (unextended_dialect (language_data l))

-- an extension: its productions, the parts by which rules are read with them, its rules with their
-- names, and what is stored of them
pub record Added : Type 0 where
  pub lines : List Line
  pub by_rules : Parts
  pub rules : List NamedRule
  pub extension : StoredExtension

-- the dialect with the extension after it
abbrev pub with_added : DialectData → Added → DialectData
with_added d x = record {
  language = d.language;
  parts = extended d.parts x.lines;
  rule_parts = x.by_rules;
  rules = d.rules ++ x.rules;
  set = extended_by d.set x.extension;
}

-- The extension fits the dialect and is sound after it, all rules are a rule set, and the lexemes
-- of its rules, of their bodies and of the plain table are tokens and no literals of the language.
pub record IsAddedToDialect (d : DialectData) (x : Added) : Type 0 where
  pub read_by : (lines : List FormLine) → d.rule_parts ≡ rule_parts d.parts lines →
      x.by_rules ≡ rule_parts (extended d.parts x.lines) lines
  pub rules_are : map (λ r. r.rule) x.rules ≡ map (λ e. e.rule) x.extension.rules
  pub fits : FitsRules (signature_of d.language.forms) (shapes_of d.language.parts)
      (shapes_of d.parts)
      (shapes_of (extended d.parts x.lines)) d.set.table x.extension.table x.extension.rules
  pub sound : AreSoundBy (subjects_in d.language.forms) (length (shapes_of d.language.parts))
      (with_table d.set x.extension.table) x.extension.rules x.extension.stored
  pub rule_set : IsRuleSet (shapes_of (extended d.parts x.lines)) d.language.forms
      (d.rules ++ x.rules)
  pub lexemes : AllByRecursion (ExtLexemesAre (IsToken (literals_of d.language.parts)))
      x.extension.rules
  pub table : TableLexemesAre (IsToken (literals_of d.language.parts)) x.extension.table

-- a dialect stays one with such an extension
abbrev pub DialectsGrow : Type 0
DialectsGrow = (d : DialectData) (x : Added) → IsDialect d → IsAddedToDialect d x →
    IsDialect (with_added d x)
