-- The step from a unit that was made: it is shown to the auditors.
use Rattle.std.specs.Prelude.{◌≡◌, ℕ, List, ◌++◌, Result, Ok}
use Rattle.sx_rules.specs.Views.{NamedRule}
use Rattle.sx_audit.specs.Meaning.{Meaning}
use Rattle.sx_unit.specs.Written.{UnitData}
use Rattle.sx_steps.specs.declared.stop.Stop.{Stop}
use Rattle.sx_steps.specs.Steps.{Then}
use Rattle.sx_steps.specs.Work.{Plan}
use Rattle.sx_auditing.specs.Shows.{Shows}
use Rattle.sx_auditing.specs.Texts.{texts_of}
use Rattle.sx_headers.specs.ModuleFiles.{module_file}
use Rattle.sx_compiling.specs.UnitPlans.{unit_plan}

-- the three files, the line, and then the text of each auditor on a line
abbrev pub audited_plan : (name : List ℕ) → UnitData → List Meaning → Plan
audited_plan name unit auditors = record {
  files = (unit_plan name unit).files;
  lines = (unit_plan name unit).lines ++ texts_of auditors;
}

-- the auditors are shown the list of the unit, by these rules, and then the files and the lines
abbrev pub AuditsUnit : (name : List ℕ) → List NamedRule → List Meaning → UnitData →
    Result Plan Stop → Type 0
AuditsUnit name rules auditors unit =
    Then (Shows (module_file name) rules auditors unit.list)
    (λ after result. result ≡ Ok (audited_plan name unit after))
