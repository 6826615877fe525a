-- What the text of a language's file states, or why it is refused.
use Rattle.std.proofs.Common.{◌≡◌, ℕ, List, refl, subst}
use Rattle.std.specs.Prelude.{Some}
use Rattle.sha2.specs.Sha256.{sha256}
use Rattle.sx_interface.specs.declared.marks.Digest.{Digest}
use Rattle.sx_notation.specs.declared.language.Language.{Language}
use Rattle.sx_notation.specs.declared.notation_error.NotationError.{NotationError}
use Rattle.sx_notation.specs.Language.{language_data, IsLanguage}
use Rattle.sx_language.specs.States.{IsLanguageIn, IsLanguageTextRefused}
use Rattle.sx_steps.specs.declared.stop.Stop.{Stop}
use Rattle.sx_accepting.specs.LanguageFiles.{language_file}
use Rattle.sx_accepting.specs.LanguageStops.{language_stop}
use Rattle.sx_accepting.specs.ReadLanguage.{Stated, IsLanguageStated, IsLanguageStopped}

pub stated : (name bytes : List ℕ) (l : Language) (d : Digest) → IsLanguageIn name bytes l →
    IsLanguage l → d.bytes ≡ sha256 bytes →
    IsLanguageStated name bytes (let s : Stated =
    record { language = language_data l; stems = l.metas.stems.items; digest = d.bytes } in s)
stated name bytes l d states fit digest =
    record {
      whole = l;
      states = states;
      fit = fit;
      language = refl;
      stems = refl;
      digest =
          digest;
    }

pub stopped : (file name bytes : List ℕ) (e : NotationError) (stop : Stop) →
    file ≡ language_file name → IsLanguageTextRefused name bytes e → language_stop file e ≡ Some stop →
    IsLanguageStopped name bytes stop
stopped file name bytes e stop same refused is =
    record {
      error = e;
      refused = refused;
      is =
          subst (λ (f : List ℕ). language_stop f e ≡ Some stop) same is;
    }
