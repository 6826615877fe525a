-- Walks through extensions.
use Rattle.std.proofs.Common.{ℕ, List}
use Rattle.std.specs.Prelude.{Result, Ok, Err}
use Rattle.std.proofs.lemmas.Slice.Eq.{bytes_eq-Decides}
use Rattle.sx_outside.specs.Files.{Files}
use Rattle.sx_imports.specs.Walk.{Name}
use Rattle.sx_steps.specs.Steps.{StepsGo}
use Rattle.sx_steps.specs.Stop.{Gives}
use Rattle.sx_steps.specs.declared.stop.Stop.{Stop}
use Rattle.sx_steps.specs.declared.step_error.StepError.{StepError}
use Rattle.sx_walking.specs.Kinds.{FileFits, Visits, ReachesBy}
use Rattle.sx_walking.proofs.Reaching.{gives_as}
use Rattle.sx_walking.proofs.Tables.{unlike}
use Rattle.sx_uses.specs.ExtensionFile.{Extension, used_names}
use Rattle.sx_uses.specs.ExtensionKind.{extensions_for}
use Rattle.sx_uses.specs.ReadExtension.{IsFor, ReadsExtension}
use Rattle.sx_uses.specs.ReadUses.{ReadsUses}

module _ (language : List ℕ) where
  for_as : (name : Name) (given : Extension) (r : Result Extension Stop) →
      FileFits (extensions_for language) name given r → IsFor language name given r
  for_as name given (Ok x) h = ((bytes_eq-Decides given.header.language language).0 h.0, h.1)
  for_as name given (Err stop) h = (unlike given.header.language language h.0, h.1)

  goes_as : (name : Name) (given r : Result Extension Stop) →
      StepsGo (FileFits (extensions_for language) name) given r → StepsGo (IsFor language name) given r
  goes_as name (Ok x) r h = for_as name x r h
  goes_as name (Err stop) r h = h

  reads_as : (files : Files) (name : Name) (r : Result Extension Stop) →
      Visits (extensions_for language) files name r → ReadsExtension language files name r
  reads_as files name r h = record {
    given = h.given;
    begins = h.begins;
    goes = goes_as name h.given r h.goes;
  }

  pub uses_as : {X : Type 0} (view : X → List Extension) (file : List ℕ) (roots : List Name)
      (files : Files) (r : Result X StepError) →
      Gives view (ReachesBy (extensions_for language) file roots files) r →
      Gives view (ReadsUses file language roots files) r
  uses_as view file roots files r h =
      gives_as used_names (Visits (extensions_for language) files) (ReadsExtension language files)
      (reads_as files) file view roots r h
