-- What a language that a text states becomes by extensions is a dialect.
use Rattle.std.proofs.Common.{ℕ, List, refl, sym, subst}
use Rattle.sx_earley.specs.Tokens.{Stems}
use Rattle.sx_rules.specs.Sets.{forms_in}
use Rattle.sx_notation.specs.declared.language.Language.{Language}
use Rattle.sx_notation.specs.Language.{IsLanguage, LanguageData, language_data}
use Rattle.sx_language.specs.States.{IsLanguageIn}
use Rattle.sx_accepting.specs.declared.extended.Extended.{Extended}
use Rattle.sx_accepting.specs.ExtendedLanguages.{base_of, extended_data, unextended}
use Rattle.sx_accepting.specs.ReadLanguage.{Stated, IsLanguageStated, base_in, HasText}
use Rattle.sx_accepting.proofs.AcceptedExtended.{accepted_first, language_plain, language_rules}
use Rattle.sx_accepting.proofs.Begun.{sorts_for}
use Rattle.sx_typing.proofs.Grown.{languages_are_dialects}
use Rattle.sx_dialects.specs.Dialects.{ExtendedIsDialect, HasHistory}
use Rattle.sx_dialects.proofs.DialectsGrown.{IsGrown, grown_from}

-- a language is a dialect before any extension
pub grown_first : (name bytes : List ℕ) (l : Language) → IsLanguageIn name bytes l → IsLanguage l →
    IsGrown (base_of l) (unextended (language_data l))
grown_first name bytes l states is = record {
  over = accepted_first name bytes l states is;
  shapes = refl;
  is = languages_are_dialects l is (language_plain name bytes l states)
      (sorts_for (forms_in l.rules) is.fit) (language_rules name bytes l states);
}

grown_begin : (name bytes : List ℕ) (l : Stated) → IsLanguageStated name bytes l →
    IsGrown (base_in l) (unextended l.language)
grown_begin name bytes l s =
    subst (λ (c : LanguageData). IsGrown (record { content = c; stems = l.stems }) (unextended c))
    (sym s.language)
    (subst (λ (st : Stems). IsGrown (record { content = language_data s.whole; stems = st })
    (unextended (language_data s.whole))) (sym s.stems)
    (grown_first name bytes s.whole s.states s.fit))

pub extended_is_dialect : ExtendedIsDialect
extended_is_dialect name bytes l stated budgets files x tries steps =
    (grown_from (base_in l) budgets files (unextended l.language) x tries
    (grown_begin name bytes l stated) steps).is

-- so it is in memory
pub grown_so_far : (name : List ℕ) (l : Language) (x : Extended) → HasText name l → IsLanguage l →
    HasHistory l x → IsGrown (base_of l) (extended_data l x)
grown_so_far name l x text is h =
    grown_from (base_of l) h.budgets h.files (unextended (language_data l)) (extended_data l x)
    h.tries (grown_first name text.bytes l text.states is) h.extends
