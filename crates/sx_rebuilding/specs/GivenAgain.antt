-- Commands that are given again over the files that a build left.
use Rattle.std.specs.Prelude.{◌≡◌, ℕ, false, List, [], Result, Ok, Contains}
use Rattle.sx_outside.specs.Files.{Files, after_writes}
use Rattle.sx_words.specs.Commands.{AuditWord, builds, compiles, verifies, SpellsCommand}
use Rattle.sx_steps.specs.declared.step_error.StepError.{StepError}
use Rattle.sx_steps.specs.Agree.{IsSure}
use Rattle.sx_steps.specs.Work.{Plan}
use Rattle.sx_headers.specs.ReadModule.{Module}
use Rattle.sx_closure.specs.ReadModules.{ReadsModules}
use Rattle.sx_top.specs.Calls.{Call}
use Rattle.sx_top.specs.Outcome.{RunOutcome}

-- the call builds a module with these words for auditors, and the files are as it leaves them
pub record HasBuilt (c : Call) (name : List ℕ) (tries nodes : ℕ) (audits : List AuditWord)
    (old new : Files) : Type 0 where
  pub spells : SpellsCommand c.words (builds false name tries nodes audits)
  pub plan : Plan
  pub made : ℕ
  pub comes : RunOutcome c old (Ok plan) made
  pub leaves : new ≡ after_writes plan.files old

-- one of the modules that are reached from this one by imports
abbrev pub IsReachedByImports : (name : List ℕ) → Files → Module → Type 0
IsReachedByImports name files m =
    (modules : List Module) × ReadsModules name files (Ok modules) × Contains modules m

-- Over the files that a build without auditors left, `compile` of one of the modules that were
-- built, with the same tries and nodes, changes no file, but for read faults and out of memory.
abbrev pub CompileRepeatsBuild : Type 0
CompileRepeatsBuild =
    (b c : Call) (name : List ℕ) (tries nodes : ℕ) (old new : Files) →
    HasBuilt b name tries nodes [] old new → (m : Module) → IsReachedByImports name old m →
    SpellsCommand c.words (compiles m.header.name tries nodes []) →
    (result : Result Plan StepError) (made : ℕ) → RunOutcome c new result made → IsSure result →
    (plan : Plan) × (result ≡ Ok plan)
    × ((file : List ℕ) → after_writes plan.files new file ≡ new file)

-- Over the files that a build left, `verify` of one of the modules that were built is not refused,
-- but for read faults and out of memory.
abbrev pub VerifyFollowsBuild : Type 0
VerifyFollowsBuild =
    (b c : Call) (name : List ℕ) (tries nodes : ℕ) (audits : List AuditWord) (old new : Files) →
    HasBuilt b name tries nodes audits old new → (m : Module) → IsReachedByImports name old m →
    SpellsCommand c.words (verifies false m.header.name) →
    (result : Result Plan StepError) (made : ℕ) → RunOutcome c new result made → IsSure result →
    (plan : Plan) × (result ≡ Ok plan)
