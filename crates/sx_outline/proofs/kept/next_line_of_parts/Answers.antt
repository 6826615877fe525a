use Rattle.std.proofs.Common.{arith, sym}
use Rattle.sx_outline.proofs.LineLaws.{kept-over, kept-line, kept-dropped}
use Rattle.sx_outline.proofs.kept.next_line_of_parts.Goals as goal

pub returns-in-Err-clause-first : goal.returns-in-Err-clause-first
returns-in-Err-clause-first c = kept-over _ _ _ c.kept.invariant.1 c.in-Err.ensures.first

pub returns-then-not-is_dropped-clause-first : goal.returns-then-not-is_dropped-clause-first
returns-then-not-is_dropped-clause-first c = kept-line _ _ _ _ _ _ c.kept.invariant.1 c.in-Ok.ensures.first (sym c.if-not-is_dropped.ensures)

pub returns-then-not-is_dropped-clause-utf8 : goal.returns-then-not-is_dropped-clause-utf8
returns-then-not-is_dropped-clause-utf8 c = λ u. c.in-Ok.ensures.utf8 (c.kept.invariant.2 u)

pub kept-preserved : goal.kept-preserved
kept-preserved c = (omega (arith, c.in-Ok.ensures.shorter), kept-dropped _ _ _ _ _ _ c.kept.invariant.1 c.in-Ok.ensures.first (sym c.if-not-is_dropped.ensures), λ u. (c.in-Ok.ensures.utf8 (c.kept.invariant.2 u)).1)
