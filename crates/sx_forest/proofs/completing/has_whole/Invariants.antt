use Rattle.std.proofs.Common.{◌≡◌, ◌<◌, ℕ, Some}
use Rattle.std.specs.List.{slice_get}
use Rattle.sx_earley.specs.Shown.{plain}
use Rattle.sx_earley.specs.declared.span.Span.{Span}
use Rattle.sx_forest.specs.Verdict.{IsWholeSpan}
use Rattle.sx_forest.proofs.completing.has_whole.Given as goal

abbrev pub invariant-loop-i : goal.invariant-loop-i
invariant-loop-i l = (k : ℕ) (s : Span) → k < l.i → slice_get l.spans k ≡ Some s → IsWholeSpan (plain l.grammar) l.start l.count s → ⊥
