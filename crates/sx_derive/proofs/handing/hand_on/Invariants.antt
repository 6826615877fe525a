use Rattle.sx_arena.specs.Views.{rules_of, set_modes}
use Rattle.sx_derive.proofs.Handed.{Handing}
use Rattle.sx_derive.proofs.handing.hand_on.Given as goal

abbrev pub invariant-loop-store : goal.invariant-loop-store
invariant-loop-store l = Handing (set_modes l.given.rules.now) (rules_of l.given.rules.now) l.given.pairs.now l.initial.store l.store l.frames l.initial.head l.initial.outputs.items l.waiting l.head l.outputs.items

abbrev pub decreases-loop-store : goal.decreases-loop-store
decreases-loop-store l = l.waiting
