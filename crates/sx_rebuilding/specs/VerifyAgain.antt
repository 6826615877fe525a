-- `verify` of modules over the files that a build leaves.
use Rattle.std.specs.Prelude.{◌≡◌, ℕ, ◌≤◌, true, false, List, Result, Ok, Contains}
use Rattle.sx_lines.specs.Words.{is_name}
use Rattle.sx_audit.specs.Meaning.{Meaning}
use Rattle.sx_extcheck.specs.declared.budgets.Budgets.{Budgets}
use Rattle.sx_outside.specs.Files.{Files, after_writes}
use Rattle.sx_steps.specs.declared.step_error.StepError.{StepError}
use Rattle.sx_steps.specs.Agree.{IsSure}
use Rattle.sx_steps.specs.Steps.{Untried}
use Rattle.sx_steps.specs.Work.{Plan}
use Rattle.sx_headers.specs.ReadModule.{Module}
use Rattle.sx_closure.specs.ReadModules.{ReadsModules}
use Rattle.sx_build.specs.BuildModules.{BuildsModule}
use Rattle.sx_verify.specs.VerifyModule.{VerifiesModule}
use Rattle.sx_term.specs.Limits.{most_budget}

-- with these files `verify` of the module ends with a plan, but for read faults and out of memory
abbrev pub VerifiesWell : (name : List ℕ) → Files → Type 0
VerifiesWell name files =
    (result : Result Plan StepError) (tries : ℕ) →
    Untried (VerifiesModule name files) result tries → IsSure result →
    (plan : Plan) × (result ≡ Ok plan)

-- where a build with at most 1,000,000 nodes to spend for each derivation ended with a plan, so it
-- is of each of its modules over the files that it leaves
abbrev pub VerifyingFollowsBuilding : Type 0
VerifyingFollowsBuilding =
    (name : List ℕ) (budgets : Budgets) (auditors : List Meaning) (old new : Files) (plan : Plan)
    (tries : ℕ) → is_name false name ≡ true → budgets.nodes ≤ most_budget →
    BuildsModule name budgets auditors old (Ok plan) tries → new ≡ after_writes plan.files old →
    (modules : List Module) → ReadsModules name old (Ok modules) →
    (m : Module) → Contains modules m → VerifiesWell m.header.name new
