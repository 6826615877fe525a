-- `check NAME` stops with a type error only where a rule is not sound.
use Rattle.std.proofs.Common.{◌≡◌, List, ℕ, [], ◌∷◌, sym}
use Rattle.std.specs.Prelude.{Ok}
use Rattle.sx_extcheck.specs.declared.budgets.Budgets.{Budgets}
use Rattle.sx_outside.specs.Files.{Files}
use Rattle.sx_steps.specs.Steps.{NoTries, Untried}
use Rattle.sx_steps.specs.declared.stop.Stop.{Stop}
use Rattle.sx_steps.proofs.Ones.{ok_no_err}
use Rattle.sx_steps.proofs.StepsOn.{went}
use Rattle.sx_steps.proofs.TypeErrors.{FinalTrying, trying_final, and_then_final}
use Rattle.sx_uses.specs.ExtensionFile.{Extension, extension_file}
use Rattle.sx_uses.specs.ReadExtension.{ReadsFile}
use Rattle.sx_uses.specs.ReadUses.{ReadsUses}
use Rattle.sx_uses.proofs.TypeErrors.{reads_final, uses_final}
use Rattle.sx_accepting.specs.ExtendedLanguages.{unextended}
use Rattle.sx_accepting.specs.Extending.{ExtendsLanguage}
use Rattle.sx_accepting.specs.ReadLanguage.{Stated, base_in, ReadsLanguage}
use Rattle.sx_accepting.proofs.TypeErrors.{reads_language_final}
use Rattle.sx_accepting.proofs.UnsoundRules.{unsound_is_final}
use Rattle.sx_check.specs.CheckExtension.{check_plan, ChecksAll, ChecksOver, ChecksFile}
use Rattle.sx_check.specs.CheckExtension.{ChecksExtension}
use Rattle.sx_check.specs.Laws.{AreReachedFrom, ReachesUnsoundRule, UnsoundChecksAreFinal}

module _ (name : List ℕ) (budgets : Budgets) (files : Files) where
  abbrev Q : Stop → Type 0
  Q = ReachesUnsoundRule name budgets files

  all_final : (r : AreReachedFrom name files) → FinalTrying Q (ChecksAll name budgets (base_in r.language) r.extensions)
  all_final r =
      let at = went _ _ _ r.states in
      and_then_final Q (ExtendsLanguage (base_in r.language) budgets r.extensions (unextended r.language.language)) (λ x. Untried (λ result. result ≡ Ok (check_plan name x)))
      (λ stop tries stops error. record { from = r; unsound = unsound_is_final r.read.header.language at.given r.language at.goes budgets r.extensions stop tries stops error })
      (λ x count extends. trying_final Q NoTries (λ result. result ≡ Ok (check_plan name x)) (λ stop h error. absurd (ok_no_err (check_plan name x) stop (sym h))))

  over_final : (file : Extension) → ReadsFile files name (Ok file) → (l : Stated) → ReadsLanguage file.header.language files (Ok l) → FinalTrying Q (ChecksOver name budgets files file.header.language l)
  over_final file held l stated =
      and_then_final Q (Untried (ReadsUses (extension_file name) file.header.language (name ∷ []) files)) (ChecksAll name budgets (base_in l))
      (trying_final Q NoTries (ReadsUses (extension_file name) file.header.language (name ∷ []) files) (uses_final Q (extension_file name) file.header.language files (name ∷ [])))
      (λ xs count reached. all_final (record { read = file; reads = held; language = l; states = stated; extensions = xs; reached = reached.0 }))

  file_final : (file : Extension) → ReadsFile files name (Ok file) → FinalTrying Q (ChecksFile name budgets files file)
  file_final file held =
      and_then_final Q (Untried (ReadsLanguage file.header.language files)) (ChecksOver name budgets files file.header.language)
      (trying_final Q NoTries (ReadsLanguage file.header.language files) (reads_language_final Q file.header.language files))
      (λ l count stated. over_final file held l stated.0)

  command_final : FinalTrying Q (ChecksExtension name budgets files)
  command_final =
      and_then_final Q (Untried (ReadsFile files name)) (ChecksFile name budgets files)
      (trying_final Q NoTries (ReadsFile files name) (reads_final Q files name))
      (λ file count held. file_final file held.0)

pub check_errors_are_final : UnsoundChecksAreFinal
check_errors_are_final name budgets files = command_final name budgets files
