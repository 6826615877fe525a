-- The steps of `sample N`.
use Rattle.std.specs.Prelude.{◌≡◌, ℕ, List, [], codes, Result, Ok}
use Rattle.sx_extcheck.specs.declared.budgets.Budgets.{Budgets}
use Rattle.sx_unit.specs.Written.{UnitData}
use Rattle.sx_outside.specs.Files.{Files}
use Rattle.sx_steps.specs.declared.stop.Stop.{Stop}
use Rattle.sx_steps.specs.declared.step_error.StepError.{StepError}
use Rattle.sx_steps.specs.Steps.{Untried, AndThen}
use Rattle.sx_steps.specs.Work.{Plan}
use Rattle.sx_accepting.specs.ReadLanguage.{Stated, ReadsLanguage}
use Rattle.sx_headers.specs.ReadModule.{Module, ReadsModule}
use Rattle.sx_importing.specs.ReadImports.{ImportData, ReadsImports}
use Rattle.sx_compiling.specs.Given.{GivenModule}
use Rattle.sx_compiling.specs.MakeUnit.{MakesUnit}
use Rattle.sx_sample.specs.declared.summary.Summary.{Summary}
use Rattle.sx_sample.specs.Holding.{sample_files}
use Rattle.sx_sample.specs.Summaries.{summary_line}
use Rattle.sx_term.specs.Limits.{most_budget}

-- the sample module, and its file
abbrev pub sample_name : List ℕ
sample_name = codes "Sample"

abbrev pub sample_file : List ℕ
sample_file = codes "Sample.mod"

-- so many tries for each walk, and so many nodes for each derivation that is lowered
abbrev pub sample_budgets : Budgets
sample_budgets = record { tries = most_budget; nodes = most_budget }

-- what its unit is made from
abbrev pub given_for_sample : Module → Stated → List ImportData → GivenModule
given_for_sample m l its = record { file = sample_file; read = m; language = l; imports = its }

-- the interfaces of the imports that the header names, and then the unit
abbrev pub MakesOver : Files → Module → Stated → Result UnitData StepError → ℕ → Type 0
MakesOver files m l =
    AndThen (Untried (ReadsImports files m.header.imports))
    (λ its. MakesUnit sample_budgets files (given_for_sample m l its))

-- the language that the header names, and then these
abbrev pub MakesRead : Files → Module → Result UnitData StepError → ℕ → Type 0
MakesRead files m =
    AndThen (Untried (ReadsLanguage m.header.language files)) (MakesOver files m)

-- the unit of the module Sample over these files
abbrev pub MakesSample : Files → Result UnitData StepError → ℕ → Type 0
MakesSample files =
    AndThen (Untried (ReadsModule sample_file sample_name files)) (MakesRead files)

-- how big the sample with so many names is, whose unit this is
abbrev pub summary_in : ℕ → UnitData → Summary
summary_in number unit = record {
  number = number;
  source_tokens = unit.source_tokens;
  base_tokens = unit.base_tokens;
  nodes = unit.nodes;
}

-- no file is written, and the line tells how big it is
abbrev pub sample_plan : ℕ → UnitData → Plan
sample_plan number unit = record { files = []; lines = summary_line (summary_in number unit) }

-- what is left to do is this
abbrev pub PlansSample : ℕ → UnitData → Result Plan Stop → Type 0
PlansSample number unit result = result ≡ Ok (sample_plan number unit)

-- the unit of the sample module with so many names, over the files that it needs alone, and then
-- the line
abbrev pub Samples : ℕ → Result Plan StepError → ℕ → Type 0
Samples number =
    AndThen (MakesSample (sample_files number)) (λ unit. Untried (PlansSample number unit))
