use Rattle.sx_arena.specs.Views.{rules_of, set_modes}
use Rattle.sx_replay.proofs.Followed.{Following}
use Rattle.sx_replay.proofs.follow.follow.Given as goal

abbrev pub invariant-loop-i : goal.invariant-loop-i
invariant-loop-i l = Following (set_modes l.given.rules.now) (rules_of l.given.rules.now) l.given.facts.now l.given.pairs.now l.initial.reader l.initial.form l.initial.terms.items l.list l.reader l.i l.form l.terms.items
