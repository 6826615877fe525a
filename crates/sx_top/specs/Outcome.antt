-- What a run comes to, by its words and the files.
use Rattle.std.specs.Prelude.{List, [], ℕ, true, false, Result}
use Rattle.sx_outside.specs.Files.{Files}
use Rattle.sx_words.specs.Commands.{AuditWord, Meant, builds, compiles, checks, verifies, samples}
use Rattle.sx_audit.specs.Meaning.{Meaning}
use Rattle.sx_auditing.specs.Naming.{Names}
use Rattle.sx_steps.specs.declared.stop.Stop.{Stop}
use Rattle.sx_steps.specs.declared.step_error.StepError.{StepError}
use Rattle.sx_steps.specs.Steps.{Untried, AndThen}
use Rattle.sx_top.specs.Calls.{Call}
use Rattle.sx_top.specs.Commands.{Commands}
use Rattle.sx_steps.specs.Work.{Plan}
use Rattle.sx_build.specs.BuildModules.{BuildsModule}
use Rattle.sx_build.specs.BuiltModules.{BuiltModules}
use Rattle.sx_extcheck.specs.declared.budgets.Budgets.{Budgets}
use Rattle.sx_compile.specs.CompileModule.{CompilesModule}
use Rattle.sx_compile.specs.CompiledModule.{CompiledModule}
use Rattle.sx_sampling.specs.SampleSteps.{Samples}
use Rattle.sx_sampling.specs.Sampled.{Sampled}
use Rattle.sx_verify.specs.VerifyModule.{VerifiesModule}
use Rattle.sx_verify.specs.VerifiedModule.{VerifiedModule}
use Rattle.sx_check.specs.CheckExtension.{ChecksExtension}
use Rattle.sx_check.specs.CheckedExtension.{CheckedExtension}
use Rattle.sx_top.specs.BuildCore.{BuildsWhole, BuiltUnit}
use Rattle.sx_top.specs.VerifyCore.{VerifiesWhole, VerifiedUnit}

-- so many tries for each walk, of a module or of a rule of an extension, and so many nodes for each
-- derivation that is lowered
abbrev pub budgets_of : (tries nodes : ℕ) → Budgets
budgets_of tries nodes = record { tries = tries; nodes = nodes }

-- the auditors that the command names
abbrev pub audits_of : Meant → List AuditWord
audits_of (builds of_core name tries nodes audits) = audits
audits_of (compiles name tries nodes audits) = audits
audits_of command = []

-- those that are handed in under these names, as the command sets them
abbrev pub NamesFor : List Meaning → Meant → Result (List Meaning) Stop → Type 0
NamesFor handed command = Names handed (audits_of command)

-- the steps of each command with these auditors
abbrev pub Runs : Meant → List Meaning → Files → Result Plan StepError → ℕ → Type 0
Runs (builds true name tries nodes audits) named files result made =
    BuildsWhole name tries files result made
Runs (builds false name tries nodes audits) named files result made =
    BuildsModule name (budgets_of tries nodes) named files result made
Runs (compiles name tries nodes audits) named files result made =
    CompilesModule name (budgets_of tries nodes) named files result made
Runs (checks name tries nodes) named files result made =
    ChecksExtension name (budgets_of tries nodes) files result made
Runs (verifies true name) named files result made = Untried (VerifiesWhole name files) result made
Runs (verifies false name) named files result made =
    Untried (VerifiesModule name files) result made
Runs (samples number) named files result made = Samples number result made

-- what each command promises when it is done, of the files and of the lines that the sink gets
abbrev pub Promises : Meant → List Meaning → Files → Files → List ℕ → Type 0
Promises (builds true name tries nodes audits) named old new lines = BuiltUnit name old new lines
Promises (builds false name tries nodes audits) named old new lines =
    BuiltModules name (budgets_of tries nodes) named old new lines
Promises (compiles name tries nodes audits) named old new lines =
    CompiledModule name (budgets_of tries nodes) named old new lines
Promises (checks name tries nodes) named old new lines =
    CheckedExtension name (budgets_of tries nodes) old new lines
Promises (verifies true name) named old new lines = VerifiedUnit name old new lines
Promises (verifies false name) named old new lines = VerifiedModule name old new lines
Promises (samples number) named old new lines = Sampled number old new lines

-- the command's auditors, and then its steps
abbrev pub RunsFor : List Meaning → Files → Meant → Result Plan StepError → ℕ → Type 0
RunsFor handed files command =
    AndThen (Untried (NamesFor handed command)) (λ named. Runs command named files)

-- the words, and then their command, with the tries that its steps make
unfoldable pub RunOutcome : Call → Files → Result Plan StepError → ℕ → Type 0
RunOutcome c files = AndThen (Untried (Commands c.words)) (RunsFor c.auditors files)
