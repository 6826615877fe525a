use Rattle.std.proofs.Common.{take, map}
use Rattle.std.specs.List.{AllByRecursion}
use Rattle.std.specs.Str.{IsUtf8}
use Rattle.sx_notation.proofs.telling.labels_are_texts.Given as goal

abbrev pub invariant-loop-i : goal.invariant-loop-i
invariant-loop-i l = AllByRecursion IsUtf8 (map (λ r. r.label) (take l.i l.productions))
