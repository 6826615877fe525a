use Rattle.std.proofs.Common.{take}
use Rattle.sx_earley.specs.Shown.{plain}
use Rattle.sx_earley.specs.Completed.{AreSpans}
use Rattle.sx_earley.proofs.spanned.complete_spans.Given as goal

abbrev pub invariant-loop-place : goal.invariant-loop-place
invariant-loop-place l = AreSpans (plain l.grammar) (take l.place l.found) l.spans.items
