use Rattle.std.proofs.Common.{take}
use Rattle.sx_grammar.specs.Tables.{literals_of}
use Rattle.sx_interface.specs.FreeNames.{AreFree}
use Rattle.sx_headers.proofs.free_imports.first_taken.Given as goal

-- the names so far are free
abbrev pub invariant-loop-i : goal.invariant-loop-i
invariant-loop-i l = AreFree (literals_of l.grammar.parts) (take l.i l.names)
