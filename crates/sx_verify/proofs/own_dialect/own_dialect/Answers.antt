use Rattle.std.proofs.Common.{[], refl, ap, subst, ◌∙◌}
use Rattle.std.specs.Prelude.{Ok}
use Rattle.sx_notation.specs.Language.{LanguageData, language_data}
use Rattle.sx_typing.specs.Dialects.{DialectData, IsDialect, dialect_of}
use Rattle.sx_accepting.specs.ExtendedLanguages.{ExtendedData, extended_data}
use Rattle.sx_dialects.specs.Dialects.{dialect_in}
use Rattle.sx_verify.proofs.OwnDialects.{with_language, same_language}
use Rattle.sx_verify.proofs.own_dialect.own_dialect.Goals as goal

pub dialect-own-requires-clause-extended : goal.dialect-own-requires-clause-extended
dialect-own-requires-clause-extended c = record {
  budgets = record { tries = 0; nodes = 0 };
  files = [];
  tries = 0;
  extends = (ap (λ (x : ExtendedData). Ok x) c.requires.extended, refl);
}

pub returns-clause-is : goal.returns-clause-is
returns-clause-is c =
    let d = dialect_of c.dialect-own.result in
    let l = language_data c.args.language.now in
    let same = ap (λ (x : DialectData). x.language) c.dialect-own.ensures.data in
    record {
      is = subst (λ (x : LanguageData). IsDialect (with_language d x)) same
          c.dialect-own.ensures.is.is;
      forms = c.dialect-own.ensures.is.forms ∙ ap (λ (x : LanguageData). x.forms) same;
    }

pub returns-clause-data : goal.returns-clause-data
returns-clause-data c =
    let d = dialect_of c.dialect-own.result in
    let l = language_data c.args.language.now in
    same_language d l (dialect_in l (extended_data c.args.language.now c.args.extended.now))
    c.dialect-own.ensures.data refl
    ∙ ap (dialect_in l) c.requires.extended
