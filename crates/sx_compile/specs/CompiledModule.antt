-- What `compile NAME` promises.
use Rattle.std.specs.Prelude.{◌≡◌, ◌≢◌, ℕ, true, false, List, ◌++◌, Ok, Some}
use Rattle.sx_lines.specs.Words.{is_name}
use Rattle.sx_audit.specs.Meaning.{Meaning}
use Rattle.sx_extcheck.specs.declared.budgets.Budgets.{Budgets}
use Rattle.sx_unit.specs.Written.{UnitData}
use Rattle.sx_outside.specs.Files.{Files, after_writes}
use Rattle.sx_steps.specs.Unit.{base_file, list_file, interface_file, built_line}
use Rattle.sx_steps.specs.Work.{Plan}
use Rattle.sx_auditing.specs.Shows.{Shows}
use Rattle.sx_auditing.specs.Texts.{texts_of}
use Rattle.sx_compiling.specs.Headline.{HasUnit, HasHeadline}
use Rattle.sx_headers.specs.ModuleFiles.{module_file}
use Rattle.sx_compile.specs.CompileModule.{CompilesModule}
use Rattle.sx_compile.specs.Found.{IsModuleFound, given_from}

-- The three files hold the texts of the unit of the module NAME.mod in its dialect, in the
-- environment of its imports by their interfaces. The auditors are shown its list, and no one
-- objects. All other files are as before. The first line tells the number of the base derivation's
-- nodes, and behind it stands the text of each auditor.
pub record CompiledModule (name : List ℕ) (budgets : Budgets) (auditors : List Meaning)
    (old new : Files) (lines : List ℕ) : Type 0 where
  pub found : IsModuleFound name old
  pub unit : UnitData
  pub compiled : HasUnit budgets old (given_from found) unit
  pub kept : List Meaning
  pub shown : Shows (module_file name) found.language.language.rules auditors unit.list (Ok kept)
  pub base : new (base_file name) ≡ Some unit.base
  pub list : new (list_file name) ≡ Some unit.derivation
  pub interface : new (interface_file name) ≡ Some unit.interface
  pub others : (other : List ℕ) → other ≢ base_file name → other ≢ list_file name →
      other ≢ interface_file name → new other ≡ old other
  pub told : lines ≡ built_line name unit.nodes ++ texts_of kept

-- where it ends with a plan, and the files are as this leaves them, it promises this
abbrev pub CompilesKeepPromise : Type 0
CompilesKeepPromise =
    (name : List ℕ) (budgets : Budgets) (auditors : List Meaning) (old new : Files) (plan : Plan)
    (tries : ℕ) → CompilesModule name budgets auditors old (Ok plan) tries →
    new ≡ after_writes plan.files old → CompiledModule name budgets auditors old new plan.lines

-- and the three files that it leaves have the headline
abbrev pub CompiledHasHeadline : Type 0
CompiledHasHeadline =
    (name : List ℕ) (budgets : Budgets) (auditors : List Meaning) (old new : Files)
    (lines : List ℕ) → is_name false name ≡ true →
    (c : CompiledModule name budgets auditors old new lines) →
    HasHeadline name budgets old (given_from c.found) c.unit
