use Rattle.std.proofs.Common.{map, drop}
use Rattle.sx_arena.specs.Views.{rule_of, rules_of, set_modes, premise_of}
use Rattle.sx_replay.proofs.Premised.{Reached}
use Rattle.sx_replay.proofs.premise_loop.premises.Given as goal

abbrev pub invariant-loop-k : goal.invariant-loop-k
invariant-loop-k l = Reached (set_modes l.given.rules.now) (rules_of l.given.rules.now) l.given.pairs.now l.initial.reader (rule_of l.rule) l.env l.reader (drop l.from (map premise_of l.rule.premises.items)) (drop l.k (map premise_of l.rule.premises.items))
