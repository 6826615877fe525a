-- The steps of `build NAME`.
use Rattle.std.specs.Prelude.{◌≡◌, ℕ, List, [], ◌∷◌, ◌++◌, Result, Ok}
use Rattle.std.specs.List.{flat_map}
use Rattle.sx_extcheck.specs.declared.budgets.Budgets.{Budgets}
use Rattle.sx_unit.specs.Written.{UnitData}
use Rattle.sx_audit.specs.Meaning.{Meaning}
use Rattle.sx_outside.specs.Files.{Files}
use Rattle.sx_steps.specs.declared.stop.Stop.{Stop}
use Rattle.sx_steps.specs.declared.step_error.StepError.{StepError}
use Rattle.sx_steps.specs.Steps.{Then, Untried, AndThen}
use Rattle.sx_steps.specs.Work.{Plan}
use Rattle.sx_accepting.specs.ReadLanguage.{Stated, ReadsLanguage}
use Rattle.sx_headers.specs.ReadModule.{Module}
use Rattle.sx_importing.specs.ReadImports.{ImportData, ReadsImports}
use Rattle.sx_compiling.specs.Given.{GivenModule}
use Rattle.sx_compiling.specs.MakeUnit.{MakesUnit}
use Rattle.sx_auditing.specs.Shows.{Shows}
use Rattle.sx_auditing.specs.Texts.{texts_of}
use Rattle.sx_headers.specs.ModuleFiles.{module_file}
use Rattle.sx_closure.specs.ReadModules.{ReadsModules}
use Rattle.sx_build.specs.MadeModules.{Made, made_of, made_plan, made_files, with_made}

-- ---- what is made

-- the modules that were made so far, in order, and the auditors as they were left
pub record BuildProgress : Type 0 where
  pub made : List Made
  pub auditors : List Meaning

-- none was made
abbrev pub none_made : List Meaning → BuildProgress
none_made auditors = record { made = []; auditors = auditors }

-- the unit of one module more, and the auditors after they were shown it
abbrev pub with_unit : BuildProgress → Module → UnitData → List Meaning → BuildProgress
with_unit before m unit auditors =
    record { made = before.made ++ made_of m.header.name unit ∷ []; auditors = auditors }

-- the module, in this language, with these imports
abbrev pub given_in : Stated → Module → List ImportData → GivenModule
given_in l m imports = record {
  file = module_file m.header.name;
  read = m;
  language = l;
  imports = imports;
}

-- ---- one module

-- the unit is shown to the auditors
abbrev pub ShowsUnit : Stated → BuildProgress → Module → UnitData →
    Result BuildProgress Stop → Type 0
ShowsUnit l before m unit =
    Then (Shows (module_file m.header.name) l.language.rules before.auditors unit.list)
    (λ auditors result. result ≡ Ok (with_unit before m unit auditors))

-- the module's unit is made with these imports, and shown
abbrev pub MakesWith : Budgets → Files → Stated → BuildProgress → Module → List ImportData →
    Result BuildProgress StepError → ℕ → Type 0
MakesWith budgets files l before m imports =
    AndThen (MakesUnit budgets files (given_in l m imports))
    (λ unit. Untried (ShowsUnit l before m unit))

-- one module more, with the interfaces of its imports, as they are once the files of those made
-- before it were written
abbrev pub MakesNext : Budgets → Files → Stated → BuildProgress → Module →
    Result BuildProgress StepError →
    ℕ → Type 0
MakesNext budgets files l before m =
    AndThen (Untried (ReadsImports (with_made before.made files) m.header.imports))
    (MakesWith budgets files l before m)

-- ---- all modules

-- the modules in order, each after all before it
abbrev pub MakesAfter : Budgets → Files → Stated → BuildProgress → List Module →
    Result BuildProgress StepError → ℕ → Type 0
MakesAfter budgets files l before [] = Untried (λ result. result ≡ Ok before)
MakesAfter budgets files l before (m ∷ ms) =
    AndThen (MakesNext budgets files l before m) (λ next. MakesAfter budgets files l next ms)

-- all files in order, then the lines, then the texts of the auditors
abbrev pub whole_plan : BuildProgress → Plan
whole_plan end = record {
  files = made_files end.made;
  lines = flat_map (λ m. (made_plan m).lines) end.made ++ texts_of end.auditors;
}

-- all modules are made, and then there is a plan
abbrev pub BuildsOver : Budgets → List Meaning → Files → List Module → Stated →
    Result Plan StepError → ℕ → Type 0
BuildsOver budgets auditors files ms l =
    AndThen (MakesAfter budgets files l (none_made auditors) ms)
    (λ end. Untried (λ result. result ≡ Ok (whole_plan end)))

-- the language that the first of the modules names
abbrev pub language_in : List Module → List ℕ
language_in [] = []
language_in (m ∷ ms) = m.header.language

-- the language of the modules, and then all of them
abbrev pub BuildsRead : Budgets → List Meaning → Files → List Module → Result Plan StepError → ℕ →
    Type 0
BuildsRead budgets auditors files ms =
    AndThen (Untried (ReadsLanguage (language_in ms) files)) (BuildsOver budgets auditors files ms)

-- the steps of the command: the modules of the closure, and then the language
abbrev pub BuildsModule : List ℕ → Budgets → List Meaning → Files → Result Plan StepError → ℕ →
    Type 0
BuildsModule name budgets auditors files =
    AndThen (Untried (ReadsModules name files)) (BuildsRead budgets auditors files)
