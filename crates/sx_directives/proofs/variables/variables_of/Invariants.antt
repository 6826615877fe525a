use Rattle.std.proofs.Common.{take}
use Rattle.sx_grammar.specs.Parts.{texts}
use Rattle.sx_directives.specs.Spelling.{IsVariable, EachSpelled}
use Rattle.sx_directives.proofs.variables.variables_of.Given as goal

abbrev pub invariant-loop-part : goal.invariant-loop-part
invariant-loop-part l = EachSpelled IsVariable (take l.part-index (texts l.parts)) l.names.items
