-- What a language becomes by extensions, as a dialect.
use Rattle.std.specs.Prelude.{ℕ, List, Ok}
use Rattle.sx_extcheck.specs.declared.budgets.Budgets.{Budgets}
use Rattle.sx_notation.specs.declared.language.Language.{Language}
use Rattle.sx_notation.specs.Language.{LanguageData, language_data}
use Rattle.sx_uses.specs.ExtensionFile.{Extension}
use Rattle.sx_accepting.specs.declared.extended.Extended.{Extended}
use Rattle.sx_accepting.specs.ExtendedLanguages.{ExtendedData, base_of, extended_data, unextended}
use Rattle.sx_accepting.specs.Extending.{ExtendsLanguage}
use Rattle.sx_accepting.specs.ReadLanguage.{Stated, IsLanguageStated, base_in}
use Rattle.sx_typing.specs.Dialects.{DialectData, IsDialect}

-- the language with the grammars, the rules and the accepted set that it has by extensions
abbrev pub dialect_in : LanguageData → ExtendedData → DialectData
dialect_in l x = record {
  language = l;
  parts = x.grammar.parts;
  rule_parts = x.by_rules;
  rules = x.set.rules;
  set = x.set.kept;
}

-- some extensions in order, each read and accepted after all before it, made this of the language
pub record HasHistory (l : Language) (x : Extended) : Type 0 where
  pub budgets : Budgets
  pub files : List Extension
  pub tries : ℕ
  pub extends : ExtendsLanguage (base_of l) budgets files (unextended (language_data l))
      (Ok (extended_data l x)) tries

-- what a language that a text states becomes by extensions is a dialect
abbrev pub ExtendedIsDialect : Type 0
ExtendedIsDialect = (name bytes : List ℕ) (l : Stated) → IsLanguageStated name bytes l →
    (budgets : Budgets) (files : List Extension) (x : ExtendedData) (tries : ℕ) →
    ExtendsLanguage (base_in l) budgets files (unextended l.language) (Ok x) tries →
    IsDialect (dialect_in l.language x)
