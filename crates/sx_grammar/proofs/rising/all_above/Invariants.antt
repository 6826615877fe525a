use Rattle.std.proofs.Common.{◌≡◌, ℕ, ◌<◌, Some}
use Rattle.std.specs.Prelude.{slice_get, slice_index_or}
use Rattle.sx_grammar.proofs.rising.all_above.Given as goal

abbrev pub invariant-loop-sort : goal.invariant-loop-sort
invariant-loop-sort l = (k t : ℕ) → k < l.sort-index → slice_get l.sorts k ≡ Some t → l.bound < slice_index_or l.numbers t 0
