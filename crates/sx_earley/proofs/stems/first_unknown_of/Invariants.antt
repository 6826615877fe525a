use Rattle.std.proofs.Common.{take}
use Rattle.std.specs.List.{AllByRecursion}
use Rattle.sx_earley.specs.Tokens.{Stems}
use Rattle.sx_earley.specs.Showing.{IsStems}
use Rattle.sx_earley.specs.Unknown.{HasKnownStem}
use Rattle.sx_earley.proofs.stems.first_unknown_of.Given as goal

abbrev pub invariant-loop-i : goal.invariant-loop-i
invariant-loop-i l = (stems : Stems) → IsStems stems l.table → AllByRecursion (HasKnownStem stems) (take l.i l.tokens)
