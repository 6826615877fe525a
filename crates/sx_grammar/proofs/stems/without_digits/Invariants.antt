use Rattle.std.proofs.Common.{◌≡◌, length}
use Rattle.sx_grammar.specs.Stems.{without_digits}
use Rattle.sx_grammar.proofs.stems.without_digits.Given as goal

abbrev pub invariant-loop-last : goal.invariant-loop-last
invariant-loop-last l = without_digits l.rest ≡ without_digits l.bytes

abbrev pub decreases-loop-last : goal.decreases-loop-last
decreases-loop-last l = length l.rest
