use Rattle.std.proofs.Common.{◌≡◌, ℕ, length}
use Rattle.std.specs.Prelude.{Contains}
use Rattle.sx_grammar.specs.Cycles.{list_at}
use Rattle.sx_grammar.proofs.Stepping.{StepsBefore}
use Rattle.sx_grammar.proofs.steps.steps.Given as goal

abbrev pub invariant-loop : goal.invariant-loop
invariant-loop l = record {
  same : length l.lists.items ≡ l.counter;
  none : (p x : ℕ) → Contains (list_at l.lists.items p) x → ⊥;
}

abbrev pub invariant-loop-production : goal.invariant-loop-production
invariant-loop-production l = StepsBefore l.marks l.productions l.sorts l.lists.items l.production-index
