-- The exit code of a status.
use Rattle.std.specs.Prelude.{ℕ}
use Rattle.sx_steps.specs.declared.status.Status.{Status}
use Rattle.sx_steps.specs.declared.status.Status.TheVariants.{Done, Refused, Words, ReadFault}
use Rattle.sx_steps.specs.declared.status.Status.TheVariants.{WriteFault, NoMemory, Spent}

-- the exit code
abbrev pub code_of : Status → ℕ
code_of Done = 0
code_of Refused = 1
code_of Words = 2
code_of ReadFault = 3
code_of WriteFault = 4
code_of NoMemory = 5
code_of Spent = 6
