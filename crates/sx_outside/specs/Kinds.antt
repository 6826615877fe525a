-- The memory kinds as plain data, and what their calls do.
use Rattle.std.specs.Prelude.{◌≡◌, ◌↔◌, ℕ, ◌/◌, List, [], length, take}
use Rattle.sx_outside.specs.Files.{Files, put, no_files}
use Rattle.sx_outside.specs.Faults.{Counts}
use Rattle.sx_outside.specs.Calls.{Calls, no_calls, called, IsToFail}
use Rattle.sx_outside.specs.declared.answer.ReadAnswer.{ReadAnswer}
use Rattle.sx_outside.specs.declared.answer.ReadAnswer.TheVariants as reads
use Rattle.sx_outside.specs.declared.answer.WriteAnswer.{WriteAnswer}
use Rattle.sx_outside.specs.declared.answer.WriteAnswer.TheVariants as writes
use Rattle.sx_outside.specs.declared.answer.TakeAnswer.{TakeAnswer}
use Rattle.sx_outside.specs.declared.answer.TakeAnswer.TheVariants as takes

-- a shelf in memory: its files, its calls, and how many reads and writes have failed
pub record ShelfData : Type 0 where
  pub files : Files
  pub calls : Calls
  pub read_faults : ℕ
  pub write_faults : ℕ

-- no files, no calls and no faults
abbrev pub new_shelf : ShelfData
new_shelf = record { files = no_files; calls = no_calls; read_faults = 0; write_faults = 0 }

-- a sink in memory: the bytes that it got, its calls, and how many of them have failed
pub record SinkData : Type 0 where
  pub bytes : List ℕ
  pub calls : Calls
  pub faults : ℕ

-- no bytes, no calls and no faults
abbrev pub new_sink : SinkData
new_sink = record { bytes = []; calls = no_calls; faults = 0 }

-- a source in memory: the bytes that it has left, its calls, and how many of them have failed
pub record SourceData : Type 0 where
  pub bytes : List ℕ
  pub calls : Calls
  pub faults : ℕ

-- these bytes are left, no calls and no faults
abbrev pub new_source : List ℕ → SourceData
new_source bytes = record { bytes = bytes; calls = no_calls; faults = 0 }

-- a read fails exactly where its number is to fail, and then it is counted
pub record IsShelfRead (old new : ShelfData) (answer : ReadAnswer) : Type 0 where
  pub calls : new.calls ≡ called old.calls
  pub fails : (answer ≡ reads.Failed) ↔ IsToFail old.calls
  pub counts : Counts (answer ≡ reads.Failed) old.read_faults new.read_faults

-- A write is done only where its number is not to fail. It fails only where its number is to fail:
-- then it is counted, and under the name stands the first half of the bytes, rounded down.
pub record IsShelfWritten (old new : ShelfData) (name bytes : List ℕ)
    (answer : WriteAnswer) : Type 0 where
  pub calls : new.calls ≡ called old.calls
  pub done : answer ≡ writes.Done → IsToFail old.calls → ⊥
  pub fails : answer ≡ writes.Failed → IsToFail old.calls
  pub half : answer ≡ writes.Failed → new.files ≡ put old.files name (take (length bytes / 2) bytes)
  pub counts : Counts (answer ≡ writes.Failed) old.write_faults new.write_faults

-- a write on the sink fails exactly where its number is to fail: then it is counted, and appends
-- nothing
pub record IsSent (old new : SinkData) (answer : WriteAnswer) : Type 0 where
  pub calls : new.calls ≡ called old.calls
  pub fails : (answer ≡ writes.Failed) ↔ IsToFail old.calls
  pub nothing : answer ≡ writes.Failed → new.bytes ≡ old.bytes
  pub counts : Counts (answer ≡ writes.Failed) old.faults new.faults

-- a take fails exactly where its number is to fail, and then it is counted
pub record IsSourceTaken (old new : SourceData) (answer : TakeAnswer) : Type 0 where
  pub calls : new.calls ≡ called old.calls
  pub fails : (answer ≡ takes.Failed) ↔ IsToFail old.calls
  pub counts : Counts (answer ≡ takes.Failed) old.faults new.faults
