use Rattle.std.proofs.Common.{◌≡◌, drop}
use Rattle.sx_notation.specs.Language.{sorts_with}
use Rattle.sx_typing.specs.BodySource.{only_sort}
use Rattle.sx_typing.proofs.reading.sort_with.Given as goal

abbrev pub invariant-loop-i : goal.invariant-loop-i
invariant-loop-i l = only_sort (sorts_with l.role (drop l.i l.places)) ≡ only_sort
    (sorts_with l.role l.places)
