use Rattle.std.proofs.Common.{take}
use Rattle.sx_earley.specs.Shown.{plain}
use Rattle.sx_earley.specs.Completed.{head_of}
use Rattle.sx_forest.specs.Useful.{KeepsHead}
use Rattle.sx_forest.proofs.Sifting.{Sifted}
use Rattle.sx_forest.proofs.useful.useful_spans.Given as goal

abbrev pub invariant-loop-span : goal.invariant-loop-span
invariant-loop-span l = Sifted (λ s. KeepsHead (plain l.grammar) l.levels (head_of s.of) s.to) (take l.span-index l.spans) l.useful.items
