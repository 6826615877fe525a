-- What `build NAME` promises.
use Rattle.std.specs.Prelude.{◌≡◌, ◌≢◌, ℕ, true, false, List, [], ◌∷◌, ◌++◌, Ok, Some, Contains}
use Rattle.std.specs.List.{flat_map, AllByRecursion}
use Rattle.sx_lines.specs.Words.{is_name}
use Rattle.sx_extcheck.specs.declared.budgets.Budgets.{Budgets}
use Rattle.sx_unit.specs.Written.{UnitData}
use Rattle.sx_audit.specs.Meaning.{Meaning}
use Rattle.sx_outside.specs.Files.{Files, after_writes}
use Rattle.sx_steps.specs.Unit.{base_file, list_file, interface_file, built_line}
use Rattle.sx_steps.specs.Work.{Plan}
use Rattle.sx_accepting.specs.ReadLanguage.{Stated, ReadsLanguage}
use Rattle.sx_headers.specs.ReadModule.{Module}
use Rattle.sx_importing.specs.ReadImports.{ImportData, ReadsImports}
use Rattle.sx_compiling.specs.Headline.{HasUnit, HasHeadline}
use Rattle.sx_auditing.specs.Shows.{Shows}
use Rattle.sx_auditing.specs.Texts.{texts_of}
use Rattle.sx_closure.specs.Closures.{IsClosure}
use Rattle.sx_headers.specs.ModuleFiles.{module_file}
use Rattle.sx_closure.specs.ReadModules.{ReadsModules}
use Rattle.sx_build.specs.BuildModules.{given_in, language_in, BuildsModule}
use Rattle.sx_build.specs.MadeModules.{Made, made_of}

-- ---- one module

-- The module's unit is made in its dialect, with the interfaces of its imports as the new files
-- hold them; and its list is shown to the auditors, who do not object.
pub record IsModuleBuilt (budgets : Budgets) (old new : Files) (l : Stated) (from to : List Meaning)
    (m : Module) (made : Made) : Type 0 where
  pub imports : List ImportData
  pub reads : ReadsImports new m.header.imports (Ok imports)
  pub unit : UnitData
  pub compiled : HasUnit budgets old (given_in l m imports) unit
  pub is : made ≡ made_of m.header.name unit
  pub shown : Shows (module_file m.header.name) l.language.rules from unit.list (Ok to)

-- so it is of each module in order, and the auditors of one are shown the next
abbrev pub AreModulesBuilt : Budgets → (old new : Files) → Stated → (from to : List Meaning) →
    List Module → List Made → Type 0
AreModulesBuilt budgets old new l from to [] [] = to ≡ from
AreModulesBuilt budgets old new l from to (m ∷ ms) (x ∷ made) =
    (next : List Meaning) × IsModuleBuilt budgets old new l from next m x ×
    AreModulesBuilt budgets old new l next to ms made
AreModulesBuilt budgets old new l from to (m ∷ ms) [] = ⊥
AreModulesBuilt budgets old new l from to [] (x ∷ made) = ⊥

-- ---- all modules

-- the three files of the module hold its texts
pub record HoldsTexts (files : Files) (m : Made) : Type 0 where
  pub base : files (base_file m.name) ≡ Some m.base
  pub list : files (list_file m.name) ≡ Some m.list
  pub interface : files (interface_file m.name) ≡ Some m.interface

-- the file is none of those of the module
pub record IsNoFileOf (file : List ℕ) (m : Made) : Type 0 where
  pub base : file ≢ base_file m.name
  pub list : file ≢ list_file m.name
  pub interface : file ≢ interface_file m.name

-- The modules of the closure of this one are made in order, each after all that it imports, and
-- their files hold the texts of their units. All other files are as before. The lines tell of each
-- module how many nodes its base derivation has, and then the texts of the auditors.
pub record BuiltModules (name : List ℕ) (budgets : Budgets) (auditors : List Meaning)
    (old new : Files) (lines : List ℕ) : Type 0 where
  pub modules : List Module
  pub reads : ReadsModules name old (Ok modules)
  pub closure : IsClosure name modules
  pub language : Stated
  pub states : ReadsLanguage (language_in modules) old (Ok language)
  pub made : List Made
  pub left : List Meaning
  pub built : AreModulesBuilt budgets old new language auditors left modules made
  pub files : AllByRecursion (HoldsTexts new) made
  pub others : (file : List ℕ) → AllByRecursion (IsNoFileOf file) made → new file ≡ old file
  pub told : lines ≡ flat_map (λ m. built_line m.name m.nodes) made ++ texts_of left

-- where the build ends with a plan, and the files are as it leaves them, it promises this
abbrev pub BuildsKeepPromise : Type 0
BuildsKeepPromise =
    (name : List ℕ) (budgets : Budgets) (auditors : List Meaning) (old new : Files) (plan : Plan)
    (tries : ℕ) → BuildsModule name budgets auditors old (Ok plan) tries →
    new ≡ after_writes plan.files old → BuiltModules name budgets auditors old new plan.lines

-- and the three texts of each of the modules that is built so have the headline
abbrev pub BuiltHaveHeadline : Type 0
BuiltHaveHeadline =
    (name : List ℕ) (budgets : Budgets) (auditors : List Meaning) (old new : Files)
    (lines : List ℕ) → is_name false name ≡ true →
    (b : BuiltModules name budgets auditors old new lines) →
    (m : Module) → Contains b.modules m →
    (from to : List Meaning) (x : Made) → (i : IsModuleBuilt budgets old new b.language from to m
    x) →
    HasHeadline m.header.name budgets old (given_in b.language m i.imports) i.unit
