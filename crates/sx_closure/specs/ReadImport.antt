-- The steps that read the files of modules along their `import` lines.
use Rattle.std.specs.Prelude.{◌≡◌, ◌≢◌, ℕ, List, Result, Ok, Err}
use Rattle.sx_outside.specs.Files.{Files}
use Rattle.sx_words.specs.declared.closure_defect.ClosureDefect.TheVariants as closure_defect
use Rattle.sx_words.specs.declared.refusal.Defect.TheVariants as defect
use Rattle.sx_steps.specs.declared.stop.Stop.{Stop}
use Rattle.sx_steps.specs.Refusal.{about}
use Rattle.sx_steps.specs.Steps.{Then}
use Rattle.sx_headers.specs.ReadModule.{Module, ReadsModule}
use Rattle.sx_headers.specs.ModuleFiles.{module_file}

-- the module in the file has this language, which is not that of its importer
abbrev pub language_differs : List ℕ → List ℕ → Stop
language_differs file language =
    about file (defect.Closure (closure_defect.LanguageDiffers language))

-- the file of the module with this name
abbrev pub ReadsNamed : Files → List ℕ → Result Module Stop → Type 0
ReadsNamed files name = ReadsModule (module_file name) name files

-- the module with this name has the language, and any other is refused
abbrev pub HasSameLanguage : (language name : List ℕ) → Module → Result Module Stop → Type 0
HasSameLanguage language name given (Ok m) = (given.header.language ≡ language) × (m ≡ given)
HasSameLanguage language name given (Err stop) = (given.header.language ≢ language) ×
    (stop ≡ language_differs (module_file name) given.header.language)

-- the file of the module with this name, which is to have the language
abbrev pub ReadsImportedModule : (language : List ℕ) → Files → List ℕ → Result Module Stop → Type 0
ReadsImportedModule language files name = Then (ReadsNamed files name)
    (HasSameLanguage language name)
