-- The steps of `compile NAME`.
use Rattle.std.specs.Prelude.{ℕ, List, Result}
use Rattle.sx_extcheck.specs.declared.budgets.Budgets.{Budgets}
use Rattle.sx_audit.specs.Meaning.{Meaning}
use Rattle.sx_outside.specs.Files.{Files}
use Rattle.sx_steps.specs.declared.step_error.StepError.{StepError}
use Rattle.sx_steps.specs.Steps.{Untried, AndThen}
use Rattle.sx_steps.specs.Work.{Plan}
use Rattle.sx_accepting.specs.ReadLanguage.{Stated, ReadsLanguage}
use Rattle.sx_headers.specs.ReadModule.{Module, ReadsModule}
use Rattle.sx_importing.specs.ReadImports.{ImportData, ReadsImports}
use Rattle.sx_compiling.specs.Given.{GivenModule}
use Rattle.sx_compiling.specs.MakeUnit.{MakesUnit}
use Rattle.sx_headers.specs.ModuleFiles.{module_file}
use Rattle.sx_compile.specs.AuditedPlans.{AuditsUnit}
use Rattle.sx_compile.specs.Imports.{ImportsOthers, ImportsFew}

-- what the module with this name is made from
abbrev pub given_to_compile : (name : List ℕ) → Module → Stated → List ImportData → GivenModule
given_to_compile name m l imports = record {
  file = module_file name;
  read = m;
  language = l;
  imports = imports;
}

-- its unit is made, and then shown to the auditors
abbrev pub CompilesGiven : (name : List ℕ) → Budgets → List Meaning → Files → GivenModule →
    Result Plan StepError → ℕ → Type 0
CompilesGiven name budgets auditors files g =
    AndThen (MakesUnit budgets files g)
    (λ unit. Untried (AuditsUnit name g.language.language.rules auditors unit))

-- the interfaces of the imports, in the order of the header, and then the unit
abbrev pub CompilesOver : (name : List ℕ) → Budgets → List Meaning → Files → Module → Stated →
    Result Plan StepError → ℕ → Type 0
CompilesOver name budgets auditors files m l =
    AndThen (Untried (ReadsImports files m.header.imports))
    (λ imports. CompilesGiven name budgets auditors files (given_to_compile name m l imports))

-- the language that the header names, and then the imports
abbrev pub CompilesFew : (name : List ℕ) → Budgets → List Meaning → Files → Module →
    Result Plan StepError → ℕ → Type 0
CompilesFew name budgets auditors files m =
    AndThen (Untried (ReadsLanguage m.header.language files))
    (CompilesOver name budgets auditors files m)

-- there are not too many imports, and then the language
abbrev pub CompilesOthers : (name : List ℕ) → Budgets → List Meaning → Files → Module →
    Result Plan StepError → ℕ → Type 0
CompilesOthers name budgets auditors files m =
    AndThen (Untried (ImportsFew (module_file name) m.header))
    (λ done. CompilesFew name budgets auditors files m)

-- the module does not import itself, and then the number of its imports
abbrev pub CompilesRead : (name : List ℕ) → Budgets → List Meaning → Files → Module →
    Result Plan StepError → ℕ → Type 0
CompilesRead name budgets auditors files m =
    AndThen (Untried (ImportsOthers (module_file name) name m.header))
    (λ done. CompilesOthers name budgets auditors files m)

-- the steps of the command, with so many tries to spend for each walk, and so many nodes for each
-- derivation that is lowered
abbrev pub CompilesModule : (name : List ℕ) → Budgets → List Meaning → Files →
    Result Plan StepError → ℕ → Type 0
CompilesModule name budgets auditors files =
    AndThen (Untried (ReadsModule (module_file name) name files))
    (CompilesRead name budgets auditors files)
