use Rattle.std.proofs.Common.{drop, map}
use Rattle.sx_term.specs.Term.{tree}
use Rattle.sx_expand.specs.Readings.{AllSmall}
use Rattle.sx_unit.proofs.base_writing.are_small.Given as goal

abbrev pub invariant-loop-term : goal.invariant-loop-term
invariant-loop-term l = AllSmall (map tree (drop l.term-index l.terms)) → AllSmall (map tree l.terms)
