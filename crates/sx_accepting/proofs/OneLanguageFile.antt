-- The file of a language has one reading, read faults aside, but for the two readings that a stop
-- shows of a line with more than two.
use Rattle.std.proofs.Common.{◌≡◌, ◌≢◌, ℕ, List, refl, sym, ◌∙◌, inl}
use Rattle.std.specs.Prelude.{Ok, Err, Some}
use Rattle.sx_notation.specs.declared.notation_error.NotationError.{NotationError}
use Rattle.sx_notation.specs.declared.notation_error.NotationError.TheVariants as notation_error
use Rattle.sx_language.specs.Alike.{LanguageHasThree}
use Rattle.sx_language.proofs.OneLanguage.{one_language}
use Rattle.sx_outside.specs.Files.{Files}
use Rattle.sx_steps.specs.declared.stop.Stop.{Stop}
use Rattle.sx_steps.specs.Held.{Held}
use Rattle.sx_term.specs.Limits.{most_bytes}
use Rattle.sx_steps.specs.Steps.{NoTries}
use Rattle.sx_steps.proofs.Ones.{held_one, trying_by, no_tries_one}
use Rattle.sx_steps.proofs.Related.{IsOneAs, one_as, then_as}
use Rattle.sx_accepting.specs.Alike.{IsOfLine, StopsAtLanguage, SameButReadings}
use Rattle.sx_accepting.specs.LanguageFiles.{language_file}
use Rattle.sx_accepting.specs.LanguageStops.{language_stop}
use Rattle.sx_accepting.specs.Laws.{LanguagesAgree}
use Rattle.sx_accepting.specs.ReadLanguage.{Stated, IsLanguageStated, IsLanguageStopped, StatesLanguage}
use Rattle.sx_accepting.specs.ReadLanguage.{ReadsLanguage}
use Rattle.sx_accepting.proofs.SameRefusals.{not_lacking, same_lines, same_so}

stated_same : (name bytes : List ℕ) (l k : Stated) → IsLanguageStated name bytes l →
    IsLanguageStated name bytes k → l ≡ k
stated_same name bytes l k s t =
    let same = one_language.found name bytes s.whole t.whole s.states t.states in
    λ i. record {
      language = (s.language ∙ same.content ∙ sym t.language) i;
      stems =
          (s.stems ∙ same.stems ∙ sym t.stems) i;
      digest = (s.digest ∙ sym t.digest) i;
    }

lacks : (name : List ℕ) (stop : Stop) (e : NotationError) →
    language_stop (language_file name) e ≡ Some stop → e ≢ notation_error.Memory
lacks name stop e is = not_lacking (language_stop (language_file name)) notation_error.Memory refl
    e stop is

module _ (name : List ℕ) (files : Files) where
  abbrev Related : Stop → Stop → Type 0
  Related = SameButReadings (StopsAtLanguage name files)

  module _ (bytes : List ℕ) (held : Held most_bytes (language_file name) files (Ok bytes)) where
    refused : (s t : Stop) → IsLanguageStopped name bytes s → IsLanguageStopped name bytes t → Related s t
    refused s t r q =
        same_so (IsOfLine (language_file name) (LanguageHasThree name bytes))
        (StopsAtLanguage name files) s t
        (λ line. record { bytes = bytes; held = held; stops = r; line = line })
        (same_lines (language_file name) (LanguageHasThree name bytes) r.error q.error s t
        (one_language.refused name bytes r.error q.error r.refused q.refused
        (lacks name s r.error r.is) (lacks name t q.error q.is)) r.is q.is)

    states_as : IsOneAs Related (StatesLanguage name bytes)
    states_as (Ok l) (Ok k) s t f g = stated_same name bytes l k s t
    states_as (Ok l) (Err t) s r f g =
        lacks name t r.error r.is (one_language.either name bytes s.whole r.error s.states
        r.refused)
    states_as (Err s) (Ok k) r t f g =
        lacks name s r.error r.is (one_language.either name bytes t.whole r.error t.states
        r.refused)
    states_as (Err s) (Err t) r q f g = refused s t r q

  pub reads_language_as : IsOneAs Related (ReadsLanguage name files)
  reads_language_as =
      then_as Related (Held most_bytes (language_file name) files) (StatesLanguage name)
      (one_as Related (λ s. inl refl) (Held most_bytes (language_file name) files)
      (held_one most_bytes (language_file name) files))
      states_as

pub languages_agree : LanguagesAgree
languages_agree name files =
    trying_by (SameButReadings (StopsAtLanguage name files)) NoTries (ReadsLanguage name files)
    no_tries_one (reads_language_as name files)
