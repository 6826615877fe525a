-- The check of an extension has one result.
use Rattle.std.proofs.Common.{◌≡◌, ℕ, List, [], ◌∷◌, inl, inr, refl, sym, ◌∙◌}
use Rattle.std.specs.Prelude.{Result, Ok}
use Rattle.sx_outline.specs.Laws.{OneHeaderAnswer}
use Rattle.sx_accepting.proofs.OneExtended.{extends_agree}
use Rattle.sx_accepting.proofs.OneLanguageFile.{languages_agree}
use Rattle.sx_outside.specs.Files.{Files}
use Rattle.sx_extcheck.specs.declared.budgets.Budgets.{Budgets}
use Rattle.sx_steps.specs.declared.stop.Stop.{Stop}
use Rattle.sx_steps.specs.declared.step_error.StepError.{StepError}
use Rattle.sx_steps.specs.Refusal.{status_of, line_of}
use Rattle.sx_steps.specs.Steps.{NoTries, Untried}
use Rattle.sx_steps.proofs.Ones.{IsOneBy, no_tries_one, trying_by, and_then_by, trying_same, as_answer, answers_so}
use Rattle.sx_steps.proofs.StepsOn.{went}
use Rattle.sx_uses.specs.ExtensionFile.{Extension, extension_file}
use Rattle.sx_uses.specs.Laws.{AnswerAlike}
use Rattle.sx_uses.specs.ReadExtension.{ReadsFile}
use Rattle.sx_uses.specs.ReadUses.{ReadsUses}
use Rattle.sx_uses.proofs.Agreeing.{files_one, uses_by}
use Rattle.sx_accepting.specs.ExtendedLanguages.{ExtendedData, unextended}
use Rattle.sx_accepting.specs.Extending.{ExtendsLanguage}
use Rattle.sx_accepting.specs.Alike.{StopsAtLanguage, SameButReadings}
use Rattle.sx_accepting.specs.Laws.{LanguagesAgree, ExtendsAgree}
use Rattle.sx_accepting.specs.ReadLanguage.{Stated, ReadsLanguage, base_in}
use Rattle.sx_check.specs.CheckExtension.{check_plan, ChecksAll, ChecksOver, ChecksFile}
use Rattle.sx_check.specs.Laws.{AreReachedFrom, StopsAtReached, SameButLines, ChecksAgree}

module _ (headers : OneHeaderAnswer) (languages : LanguagesAgree) (extends : ExtendsAgree) (name : List ℕ) (budgets : Budgets) (files : Files) where
  abbrev Related : Stop → Stop → Type 0
  Related = SameButLines name budgets files

  alike : (s : Stop) → Related s s
  alike s = inl (record { status = refl; line = refl })

  same_alike : (s t : Stop) → s ≡ t → Related s t
  same_alike s t e = inl (record { status = (λ i. status_of (e i)); line = (λ i. line_of (e i)) })

  module _ (r : AreReachedFrom name files) where
    abbrev Extending : Result ExtendedData StepError → ℕ → Type 0
    Extending = ExtendsLanguage (base_in r.language) budgets r.extensions (unextended r.language.language)

    abbrev SameExtending : Stop → Stop → Type 0
    SameExtending = SameButReadings (StopsAtReached name budgets files r)

    of_extension : (s t : Stop) → SameExtending s t → Related s t
    of_extension s t (inl same) = same_alike s t same
    of_extension s t (inr (are, stops)) = inr (are, inr (record { from = r; stops = stops }))

    all_by : IsOneBy Related (ChecksAll name budgets (base_in r.language) r.extensions)
    all_by =
        let stated = went _ _ _ r.states in
        and_then_by Related Extending (λ x. Untried (λ result. result ≡ Ok (check_plan name x)))
        (λ a b m n h k p q. let one = extends r.read.header.language stated.given r.language stated.goes budgets r.extensions a b m n h k p q in (answers_so SameExtending Related of_extension a b one.0, one.1))
        (λ x before h. trying_same Related alike NoTries (λ result. result ≡ Ok (check_plan name x)) no_tries_one (λ a b h k f g. h ∙ sym k))

  module _ (x : Extension) (reads : ReadsFile files name (Ok x)) where
    over_by : (l : Stated) → ReadsLanguage x.header.language files (Ok l) → IsOneBy Related (ChecksOver name budgets files x.header.language l)
    over_by l states =
        and_then_by Related (Untried (ReadsUses (extension_file name) x.header.language (name ∷ []) files)) (ChecksAll name budgets (base_in l))
        (trying_by Related NoTries (ReadsUses (extension_file name) x.header.language (name ∷ []) files) no_tries_one
        (λ a b h k n m. answers_so AnswerAlike Related (λ s t same. inl same) (as_answer a) (as_answer b) (uses_by headers (extension_file name) x.header.language (name ∷ []) files a b h k n m)))
        (λ xs before h. all_by (record { read = x; reads = reads; language = l; states = states; extensions = xs; reached = h.0 }))

    abbrev SameLanguages : Stop → Stop → Type 0
    SameLanguages = SameButReadings (StopsAtLanguage x.header.language files)

    of_language : (s t : Stop) → SameLanguages s t → Related s t
    of_language s t (inl same) = same_alike s t same
    of_language s t (inr (are, stops)) = inr (are, inl (record { read = x; reads = reads; stops = stops }))

    file_by : IsOneBy Related (ChecksFile name budgets files x)
    file_by =
        and_then_by Related (Untried (ReadsLanguage x.header.language files)) (ChecksOver name budgets files x.header.language)
        (λ a b m n h k p q. let one = languages x.header.language files a b m n h k p q in (answers_so SameLanguages Related of_language a b one.0, one.1))
        (λ l before h. over_by l h.0)

pub checks_by : OneHeaderAnswer → LanguagesAgree → ExtendsAgree → ChecksAgree
checks_by headers languages extends name budgets files =
    and_then_by (SameButLines name budgets files) (Untried (ReadsFile files name)) (ChecksFile name budgets files)
    (trying_same (SameButLines name budgets files) (alike headers languages extends name budgets files) NoTries (ReadsFile files name) no_tries_one (λ a b h k n m. files_one headers files name a b h k n m))
    (λ x before h. file_by headers languages extends name budgets files x h.0)

-- with the laws of reading languages and extensions
pub checks_one : OneHeaderAnswer → ChecksAgree
checks_one headers = checks_by headers languages_agree extends_agree
