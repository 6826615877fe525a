-- A stop of reading extensions along their `use` lines is no type error.
use Rattle.std.proofs.Common.{ℕ, List}
use Rattle.sx_outline.specs.declared.outline_error.OutlineError.{OutlineError}
use Rattle.sx_outline.specs.declared.outline_error.OutlineError.TheVariants as outline_error
use Rattle.sx_outside.specs.Files.{Files}
use Rattle.sx_steps.specs.Held.{Held}
use Rattle.sx_term.specs.Limits.{most_bytes}
use Rattle.sx_steps.specs.declared.stop.Stop.{Stop}
use Rattle.sx_steps.proofs.TypeErrors.{OnTypeError, on_stop, no_type_error, Final, then_final}
use Rattle.sx_steps.proofs.TypeErrors.{held_final}
use Rattle.sx_walking.proofs.TypeErrors.{reaches_final}
use Rattle.sx_uses.specs.ExtensionFile.{extension_file, used_names}
use Rattle.sx_uses.specs.ReadExtension.{extension_header_stop, wrong_language, StatesExtension}
use Rattle.sx_uses.specs.ReadExtension.{ReadsFile}
use Rattle.sx_uses.specs.ReadExtension.{IsFor, ReadsExtension}
use Rattle.sx_uses.specs.ReadUses.{ReadsUses}

module _ (Q : Stop → Type 0) where
  no_header : (file : List ℕ) (e : OutlineError) → OnTypeError Q (extension_header_stop file e)
  no_header file outline_error.Memory = tt
  no_header file (outline_error.NotUtf8 before) = λ h. absurd h
  no_header file (outline_error.Notation line what) = λ h. absurd h

  states_final : (name bytes : List ℕ) → Final Q (StatesExtension name bytes)
  states_final name bytes stop h = on_stop Q (extension_header_stop (extension_file name) h.error) stop
      (no_header (extension_file name) h.error) h.is

  pub reads_final : (files : Files) (name : List ℕ) → Final Q (ReadsFile files name)
  reads_final files name =
      then_final Q (Held most_bytes (extension_file name) files) (StatesExtension name)
      (held_final Q most_bytes (extension_file name) files)
      (λ bytes held. states_final name bytes)

  visits_final : (language : List ℕ) (files : Files) (name : List ℕ) →
      Final Q (ReadsExtension language files name)
  visits_final language files name =
      then_final Q (ReadsFile files name) (IsFor language name) (reads_final files name)
      (λ given reads stop h.
      no_type_error Q (wrong_language (extension_file name) given.header.language) stop (λ e. e)
      h.1)

  pub uses_final : (file language : List ℕ) (files : Files) (roots : List (List ℕ)) →
      Final Q (ReadsUses file language roots files)
  uses_final file language files roots =
      reaches_final Q used_names (ReadsExtension language files) (visits_final language files) file
      roots
