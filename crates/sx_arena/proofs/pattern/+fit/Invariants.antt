use Rattle.sx_arena.specs.Arena.{trees}
use Rattle.sx_arena.proofs.Patterns.{Fitting}
use Rattle.sx_arena.proofs.pattern.+fit.Given as goal

abbrev pub invariant-loop-i : goal.invariant-loop-i
invariant-loop-i l = Fitting (trees l.arena) l.initial.binds l.binds l.env l.last l.kids.items l.others.items l.i
