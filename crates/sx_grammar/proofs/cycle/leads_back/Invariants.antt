use Rattle.std.proofs.Common.{◌+◌, ◌*◌, length, not}
use Rattle.std.specs.Prelude.{count_by}
use Rattle.sx_grammar.proofs.Searching.{SearchBefore}
use Rattle.sx_grammar.proofs.cycle.leads_back.Given as goal

abbrev pub invariant-loop-next : goal.invariant-loop-next
invariant-loop-next l = SearchBefore l.steps l.sort l.marks.items l.stack.items

abbrev pub decreases-loop-next : goal.decreases-loop-next
decreases-loop-next l = 2 * count_by not l.marks.items + length l.stack.items
