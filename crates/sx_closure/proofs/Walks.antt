-- Walks through modules.
use Rattle.std.proofs.Common.{◌≡◌, ℕ, List, [], ◌∷◌, ◌∙◌, sym, subst, ap}
use Rattle.std.specs.Prelude.{Result, Ok, Err}
use Rattle.std.proofs.lemmas.Slice.Eq.{bytes_eq-Decides}
use Rattle.sx_outside.specs.Files.{Files}
use Rattle.sx_imports.specs.Walk.{Name}
use Rattle.sx_steps.specs.Held.{Held}
use Rattle.sx_term.specs.Limits.{most_bytes}
use Rattle.sx_steps.specs.Steps.{StepsGo}
use Rattle.sx_steps.specs.Stop.{Gives}
use Rattle.sx_steps.specs.declared.stop.Stop.{Stop}
use Rattle.sx_steps.specs.declared.step_error.StepError.{StepError}
use Rattle.sx_steps.proofs.StepsOn.{went}
use Rattle.sx_walking.specs.Kinds.{FileFits, Visits, ReachesBy}
use Rattle.sx_walking.proofs.Reaching.{gives_as}
use Rattle.sx_walking.proofs.Tables.{unlike}
use Rattle.sx_headers.specs.ReadModule.{Module, HasHeader, StatesModule}
use Rattle.sx_headers.specs.ModuleFiles.{module_file}
use Rattle.sx_closure.specs.ModuleKind.{modules_with}
use Rattle.sx_closure.specs.ReadImport.{ReadsNamed, HasSameLanguage, ReadsImportedModule}
use Rattle.sx_closure.specs.ReadModules.{imports_of, ReachesModules}

-- ---- what was read

-- a header that is stated under a name has the name
pub headed : (name bytes : List ℕ) (m : Module) → HasHeader name bytes m → m.header.name ≡ name
headed name bytes m h = h.states.same

pub stated : (name : List ℕ) (m : Module) (bytes : List ℕ) → HasHeader name bytes m →
    m.bytes ≡ bytes → HasHeader m.header.name m.bytes m
stated name m bytes h same =
    subst (λ (n : List ℕ). HasHeader n m.bytes m) (sym h.states.same)
    (subst (λ (b : List ℕ). HasHeader name b m) (sym same) h)

-- a module has the name under which it is read
pub read_headed : (files : Files) (name : Name) (m : Module) → ReadsNamed files name (Ok m) →
    m.header.name ≡ name
read_headed files name m reads =
    let w = went (Held most_bytes (module_file name) files) (StatesModule (module_file name) name) m
    reads in
    w.goes.states.same

module _ (language : List ℕ) (files : Files) (name : Name) (m : Module)
    (reads : ReadsImportedModule language files name (Ok m)) where
  -- the import is read from its file
  pub import_read : ReadsNamed files name (Ok m)
  import_read =
      let w = went (ReadsNamed files name) (HasSameLanguage language name) m reads in
      subst (λ (n : Module). ReadsNamed files name (Ok n)) (sym w.goes.1) w.begins

  pub import_named : m.header.name ≡ name
  import_named = read_headed files name m import_read

  -- and has the language
  pub import_language : m.header.language ≡ language
  import_language =
      let w = went (ReadsNamed files name) (HasSameLanguage language name) m reads in
      ap (λ (n : Module). n.header.language) w.goes.1 ∙ w.goes.0

-- ---- the walk

module _ (language : List ℕ) where
  has_as : (name : Name) (given : Module) (r : Result Module Stop) →
      FileFits (modules_with language) name given r → HasSameLanguage language name given r
  has_as name given (Ok m) h = ((bytes_eq-Decides given.header.language language).0 h.0, h.1)
  has_as name given (Err stop) h = (unlike given.header.language language h.0, h.1)

  goes_as : (name : Name) (given r : Result Module Stop) →
      StepsGo (FileFits (modules_with language) name) given r → StepsGo (HasSameLanguage language name) given r
  goes_as name (Ok m) r h = has_as name m r h
  goes_as name (Err stop) r h = h

  reads_as : (files : Files) (name : Name) (r : Result Module Stop) →
      Visits (modules_with language) files name r → ReadsImportedModule language files name r
  reads_as files name r h = record {
    given = h.given;
    begins = h.begins;
    goes = goes_as name h.given r h.goes;
  }

  walk_as : {X : Type 0} (view : X → List Module) (name : Name) (files : Files)
      (r : Result X StepError) →
      Gives view (ReachesBy (modules_with language) (module_file name) (name ∷ []) files) r →
      Gives view (ReachesModules language name files) r
  walk_as view name files r h =
      gives_as imports_of (Visits (modules_with language) files) (ReadsImportedModule language files)
      (reads_as files) (module_file name) view (name ∷ []) r h

  pub modules_as : {X : Type 0} (view : X → List Module) (name file : Name) (roots : List Name)
      (files : Files) (r : Result X StepError) → file ≡ module_file name → roots ≡ name ∷ [] →
      Gives view (ReachesBy (modules_with language) file roots files) r →
      Gives view (ReachesModules language name files) r
  modules_as view name file roots files r of_file of_roots h =
      walk_as view name files r
      (subst (λ (f : Name).
      Gives view (ReachesBy (modules_with language) f (name ∷ []) files) r) of_file
      (subst (λ (l : List Name).
      Gives view (ReachesBy (modules_with language) file l files) r) of_roots h))
