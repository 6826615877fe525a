use Rattle.std.proofs.Common.{◌≡◌, map, take}
use Rattle.sx_grammar.specs.Parts.{line, parts}
use Rattle.sx_grammar.specs.Extended.{extended}
use Rattle.tests_syntax.proofs.extended_grammars.add_copies.Given as goal

abbrev pub invariant-loop-i : goal.invariant-loop-i
invariant-loop-i l = parts l.parts ≡ extended (parts l.fn.parts) (map line (take l.i l.more))
