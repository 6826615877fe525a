use Rattle.std.proofs.Common.{◌≡◌, ◌++◌, drop}
use Rattle.std.specs.Prelude.{flat_map}
use Rattle.sx_grammar.specs.Parts.{texts, bracket_literals}
use Rattle.sx_grammar.proofs.standing.add_brackets_of.Given as goal

abbrev pub invariant-loop-sort : goal.invariant-loop-sort
invariant-loop-sort l = texts l.out.items ++ flat_map (λ s. bracket_literals s.brackets) (drop l.sort-index l.sorts) ≡ texts l.fn.out.items ++ flat_map (λ s. bracket_literals s.brackets) l.sorts
