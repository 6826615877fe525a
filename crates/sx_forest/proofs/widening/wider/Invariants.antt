use Rattle.sx_earley.specs.Shown.{plain, tokens_of}
use Rattle.sx_forest.proofs.Wider.{AreWiderTo}
use Rattle.sx_forest.proofs.widening.wider.Given as goal

abbrev pub invariant-loop-dot : goal.invariant-loop-dot
invariant-loop-dot l = AreWiderTo (plain l.basis.grammar.now) (tokens_of l.basis.grammar.now l.basis.shown.now) l.basis.table.now.lists.items l.kept.head l.from l.kept.to l.kept.stretches.items l.dot l.all.items l.new
