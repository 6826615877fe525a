-- How a run ends, by its words, the status, and what is seen of the shelf and the sink.
use Rattle.std.specs.Prelude.{◌≡◌, ◌⊎◌, ℕ, ◌+◌, List, ◌++◌, Result, Ok, Err, Option}
use Rattle.sx_outside.specs.Files.{Files}
use Rattle.sx_outside.specs.Told.{Told, WhereTold}
use Rattle.sx_outside.specs.Faults.{Rose}
use Rattle.sx_steps.specs.Work.{Plan}
use Rattle.sx_steps.specs.declared.stop.Stop.{Stop}
use Rattle.sx_steps.specs.declared.step_error.StepError.{StepError}
use Rattle.sx_steps.specs.declared.step_error.StepError.TheVariants as errors
use Rattle.sx_steps.specs.Refusal.{status_of}
use Rattle.sx_audit.specs.Meaning.{Meaning}
use Rattle.sx_top.specs.Calls.{Call}
use Rattle.sx_top.specs.Outcome.{NamesFor, RunOutcome, Promises}
use Rattle.sx_words.specs.Commands.{SpellsCommand}
use Rattle.sx_top.specs.Course.{Seen, Course, status_after, HoldsOfSteps, Leaves}
use Rattle.sx_words.specs.Commands.{Meant}
use Rattle.sx_steps.specs.declared.status.Status.{Status}
use Rattle.sx_steps.specs.declared.status.Status.TheVariants as statuses

-- by the words and the files, where these are told, the steps come to this, and the tries that they
-- make were counted
abbrev pub StepsComeTo : Call → Option Files → ℕ → ℕ → Result Plan StepError → Type 0
StepsComeTo c told before after result =
    WhereTold told (λ files. (tries : ℕ) × RunOutcome c files result tries ×
    (after ≡ before + tries))

-- the course of the run: its status, what its steps came to, with their tries, and what it leaves
pub record Ends (c : Call) (status : Status) (old new : Seen)
    (before after : ℕ) : Type 0 where
  pub course : Course
  pub is : status_after course ≡ status
  pub begins : HoldsOfSteps (StepsComeTo c old.files before after) course
  pub leaves : Leaves course old new

-- the command that the words are keeps its promise, with lines that the sink got where it tells
-- what it got
abbrev pub KeepsFor : List Meaning → Meant → Option (List ℕ) → Option (List ℕ) → Files → Files →
    Type 0
KeepsFor handed command out out' old new = (named : List Meaning) × (lines : List ℕ) ×
    NamesFor handed command (Ok named) × Promises command named old new lines ×
    Told (λ sent sent'. sent' ≡ sent ++ lines) out out'

-- where the run is done, the command keeps its promise
abbrev pub KeepsPromise : Call → Status → Option (List ℕ) → Option (List ℕ) → Files →
    Files → Type 0
KeepsPromise c status out out' old new = status ≡ statuses.Done → (command : Meant) →
    SpellsCommand c.words command → KeepsFor c.auditors command out out' old new

-- a read failed: the status says so, unless the sink failed on the line, or memory lacked for it
abbrev pub IsAfterRead : Status → ℕ → ℕ → Type 0
IsAfterRead status before after = (status ≡ statuses.ReadFault) ⊎
    ((status ≡ statuses.WriteFault) × Rose before after) ⊎ (status ≡ statuses.NoMemory)

-- the words and files have no defect: nothing but a failed read stops their steps
abbrev pub HasNoDefect : Call → Files → Type 0
HasNoDefect c files = (stop : Stop) (tries : ℕ) →
    RunOutcome c files (Err (errors.Stopped stop)) tries → status_of stop ≡ statuses.ReadFault

-- done, or memory lacked
abbrev pub IsDoneOrShort : Status → Type 0
IsDoneOrShort status = (status ≡ statuses.Done) ⊎ (status ≡ statuses.NoMemory)
