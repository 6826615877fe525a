-- The course of a run: how far it went, what stands on the shelf after it, and what the sink got.
use Rattle.std.specs.Prelude.{◌≡◌, ◌≢◌, ℕ, zero, suc, ◌<◌, List, [], ◌∷◌, length, take, Result, Ok}
use Rattle.std.specs.Prelude.{Err, Option}
use Rattle.sx_outside.specs.Files.{Files, File, after_writes, SameBut}
use Rattle.sx_outside.specs.Faults.{RoseWhere}
use Rattle.sx_outside.specs.Told.{Told}
use Rattle.sx_outside.specs.Sink.{IsAppending}
use Rattle.sx_outside.specs.declared.answer.WriteAnswer.{WriteAnswer}
use Rattle.sx_outside.specs.declared.answer.WriteAnswer.TheVariants as write
use Rattle.sx_steps.specs.Work.{Plan}
use Rattle.sx_steps.specs.declared.stop.Stop.{Stop}
use Rattle.sx_steps.specs.declared.step_error.StepError.{StepError}
use Rattle.sx_steps.specs.declared.step_error.StepError.TheVariants as errors
use Rattle.sx_steps.specs.Refusal.{write_fault, line_of, status_of}
use Rattle.sx_steps.specs.declared.status.Status.{Status}
use Rattle.sx_steps.specs.declared.status.Status.TheVariants as statuses

-- what is seen of a shelf and of a sink: the files and the bytes, where they are told, and the
-- counts of faults
pub record Seen : Type 0 where
  pub files : Option Files
  pub bytes : Option (List ℕ)
  pub reads : ℕ
  pub writes : ℕ
  pub sends : ℕ

-- so much is seen
abbrev pub seen : Option Files → Option (List ℕ) → ℕ → ℕ → ℕ → Seen
seen files bytes reads writes sends =
    record { files = files; bytes = bytes; reads = reads; writes = writes; sends = sends }

-- How far a run went. Memory lacked before anything was written; or a stop ended it, and the sink
-- answered so to the stop's line; or memory lacked for the file of the plan with this number; or
-- writing that file failed, and the sink answered so to the line of the failed write; or all files
-- were written, and the sink answered so to the plan's lines. Where memory lacks for a line, that
-- is answered in the sink's place.
pub data Course : Type 0 where
  lacking : Course
  stopped : Stop → WriteAnswer → Course
  short : Plan → ℕ → Course
  failed : Plan → ℕ → WriteAnswer → Course
  written : Plan → WriteAnswer → Course

-- the status, by the answer to the last text that was sent
abbrev pub answered : Status → WriteAnswer → Status
answered status write.Done = status
answered status write.Failed = statuses.WriteFault
answered status write.NoMemory = statuses.NoMemory

-- the status of the run
abbrev pub status_after : Course → Status
status_after lacking = statuses.NoMemory
status_after (stopped stop answer) = answered (status_of stop) answer
status_after (short plan number) = statuses.NoMemory
status_after (failed plan number answer) = statuses.WriteFault
status_after (written plan answer) = answered statuses.Done answer

-- this holds of what the steps came to
abbrev pub HoldsOfSteps : (Result Plan StepError → Type 0) → Course → Type 0
HoldsOfSteps Holds lacking = Holds (Err errors.Memory)
HoldsOfSteps Holds (stopped stop answer) = Holds (Err (errors.Stopped stop))
HoldsOfSteps Holds (short plan number) = Holds (Ok plan)
HoldsOfSteps Holds (failed plan number answer) = Holds (Ok plan)
HoldsOfSteps Holds (written plan answer) = Holds (Ok plan)

-- ---- what is left

-- the text was sent, and the sink answered so: its count of faults rose where it failed, and
-- nowhere else
pub record Sent (text : List ℕ) (answer : WriteAnswer) (old new : Option (List ℕ))
    (before after : ℕ) : Type 0 where
  pub bytes : IsAppending old text answer new
  pub faults : RoseWhere (answer ≡ write.Failed) before after

-- nothing was written, and the stop is no failed write; the count of read faults rose where it is a
-- failed read, and nowhere else
pub record WasStopped (stop : Stop) (answer : WriteAnswer) (old new : Seen) : Type 0 where
  pub files : new.files ≡ old.files
  pub reads : RoseWhere (status_of stop ≡ statuses.ReadFault) old.reads new.reads
  pub writes : new.writes ≡ old.writes
  pub never : status_of stop ≢ statuses.WriteFault
  pub line : Sent (line_of stop) answer old.bytes new.bytes old.sends new.sends

-- the files before this number were written, nothing was sent, and no count rose
pub record WasShort (plan : Plan) (number : ℕ) (old new : Seen) : Type 0 where
  pub below : number < length plan.files
  pub files : Told (λ before now. now ≡ after_writes (take number plan.files) before) old.files
      new.files
  pub reads : new.reads ≡ old.reads
  pub writes : new.writes ≡ old.writes
  pub bytes : new.bytes ≡ old.bytes
  pub sends : new.sends ≡ old.sends

-- the name of the file with this number
abbrev pub name_at : List File → ℕ → List ℕ
name_at [] number = []
name_at (file ∷ files) zero = file.name
name_at (file ∷ files) (suc number) = name_at files number

-- the files before this number were written, this one may hold anything, and all others are as
-- before; the count of write faults rose
pub record HasWriteFailed (plan : Plan) (number : ℕ) (answer : WriteAnswer)
    (old new : Seen) : Type 0 where
  pub below : number < length plan.files
  pub files : Told (λ before now.
      SameBut (name_at plan.files number) (after_writes (take number plan.files) before) now)
      old.files
      new.files
  pub reads : new.reads ≡ old.reads
  pub writes : RoseWhere (Unit {0}) old.writes new.writes
  pub line : Sent (line_of (write_fault (name_at plan.files number))) answer old.bytes new.bytes
      old.sends new.sends

-- all files of the plan were written
pub record HasWritten (plan : Plan) (answer : WriteAnswer) (old new : Seen) : Type 0 where
  pub files : Told (λ before now. now ≡ after_writes plan.files before) old.files new.files
  pub reads : new.reads ≡ old.reads
  pub writes : new.writes ≡ old.writes
  pub lines : Sent plan.lines answer old.bytes new.bytes old.sends new.sends

-- what the course leaves
abbrev pub Leaves : Course → Seen → Seen → Type 0
Leaves lacking old new = new ≡ old
Leaves (stopped stop answer) old new = WasStopped stop answer old new
Leaves (short plan number) old new = WasShort plan number old new
Leaves (failed plan number answer) old new = HasWriteFailed plan number answer old new
Leaves (written plan answer) old new = HasWritten plan answer old new
