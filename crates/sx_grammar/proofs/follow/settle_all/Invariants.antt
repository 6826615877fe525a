use Rattle.sx_grammar.specs.Settled.{SettlesTo}
use Rattle.sx_grammar.proofs.follow.settle_all.Given as goal

abbrev pub invariant-loop-index : goal.invariant-loop-index
invariant-loop-index l = SettlesTo l.rules l.index l.fn.progress l.progress
