use Rattle.std.proofs.Common.{map, drop}
use Rattle.sx_rules.specs.Rules.{Hypotheses}
use Rattle.sx_arena.specs.Views.{rules_of, set_modes, rule_of, premise_of}
use Rattle.sx_derive.specs.Ways.{subject_modes}
use Rattle.sx_derive.proofs.Descended.{Descending}
use Rattle.sx_derive.proofs.premise_descent.descend_in_order.Given as goal

abbrev pub invariant-loop-k : goal.invariant-loop-k
invariant-loop-k l = (hyps : Hypotheses) × Descending (set_modes l.given.rules.now) (subject_modes l.given.rules.now) (rules_of l.given.rules.now) hyps l.from.noted l.notes.items l.bounds.budget l.bounds.levels l.from.candidate.number (rule_of l.from.candidate.rule.now) l.initial.store l.given.facts.now l.given.pairs.now l.from.candidate.env l.spot l.store l.k (drop l.k (map premise_of l.from.candidate.rule.now.premises.items)) l.env
