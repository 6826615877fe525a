use Rattle.std.proofs.Common.{◌≡◌, ◌++◌, length}
use Rattle.sx_directives.specs.Parts.{parts_of}
use Rattle.sx_grammar.specs.Parts.{texts}
use Rattle.sx_directives.proofs.parts.split_parts.Given as goal

abbrev pub invariant-loop-part : goal.invariant-loop-part
invariant-loop-part l = texts l.parts.items ++ parts_of l.left ≡ parts_of l.line

abbrev pub decreases-loop-part : goal.decreases-loop-part
decreases-loop-part l = length l.left
