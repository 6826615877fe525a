use Rattle.std.proofs.Common.{map, drop}
use Rattle.sx_arena.specs.Views.{rule_of, rules_of, set_modes, premise_of}
use Rattle.sx_derive.specs.Premises.{ArePassed}
use Rattle.sx_derive.proofs.premise_loop.premises.Given as goal

abbrev pub invariant-loop-k : goal.invariant-loop-k
invariant-loop-k l = ArePassed (set_modes l.given.rules.now) (rules_of l.given.rules.now) l.given.pairs.now l.initial.store l.store l.from.rule (rule_of l.rule) l.from.levels l.from.env l.from.kids l.from.before (drop l.from.premise (map premise_of l.rule.premises.items)) (drop l.k (map premise_of l.rule.premises.items))
