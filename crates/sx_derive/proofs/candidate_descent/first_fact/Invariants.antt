use Rattle.std.proofs.Common.{Option, drop}
use Rattle.sx_arena.specs.declared.fact.Fact.{Fact}
use Rattle.sx_derive.specs.Descents.{IsFirstFact}
use Rattle.sx_derive.proofs.candidate_descent.first_fact.Given as goal

abbrev pub invariant-loop-i : goal.invariant-loop-i
invariant-loop-i l = (x : Option Fact) → IsFirstFact l.form l.terms (drop l.i l.facts) x → IsFirstFact l.form l.terms l.facts x
