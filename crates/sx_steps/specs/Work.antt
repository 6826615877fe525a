-- What is left to do where no step stopped.
use Rattle.std.specs.Prelude.{ℕ, List, map}
use Rattle.sx_outside.specs.Files.{File}
use Rattle.sx_steps.specs.declared.work.Output.{Output}
use Rattle.sx_steps.specs.declared.work.Work.{Work}

-- the files to write in order, and the lines for the sink
pub record Plan : Type 0 where
  pub files : List File
  pub lines : List ℕ

-- a file to write as plain data
abbrev pub file_of : Output → File
file_of output = record { name = output.name; bytes = output.bytes.items }

-- what is left to do as plain data
abbrev pub plan_of : Work → Plan
plan_of work = record { files = map file_of work.files.items; lines = work.lines.items }
