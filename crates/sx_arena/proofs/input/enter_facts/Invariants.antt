use Rattle.std.proofs.Common.{map, take}
use Rattle.sx_arena.specs.Views.{set_modes, judgement_of}
use Rattle.sx_arena.specs.Entered.{AreFactsIn}
use Rattle.sx_arena.proofs.input.enter_facts.Given as goal

abbrev pub invariant-loop-i : goal.invariant-loop-i
invariant-loop-i l = AreFactsIn (set_modes l.rules) l.initial.arena l.arena (map judgement_of (take l.i l.holds)) l.facts.items
