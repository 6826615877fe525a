use Rattle.sx_slots.proofs.Seeking.{left_of}
use Rattle.sx_earley.proofs.Leasts.{IsLeastSo}
use Rattle.sx_earley.proofs.ask_set.AskSet.least.Given as goal

abbrev pub invariant-loop-here : goal.invariant-loop-here
invariant-loop-here l = IsLeastSo l.self-inside.asks.items l.self-inside.slots l.ask l.hash l.least l.here

abbrev pub decreases-loop-here : goal.decreases-loop-here
decreases-loop-here l = left_of l.here
