use Rattle.std.proofs.Common.{◌+◌, ◌*◌, List, ◌++◌, map, drop}
use Rattle.sx_rules.specs.Rules.{Judgement}
use Rattle.sx_arena.specs.Views.{rules_of, set_modes, rule_of, premise_of}
use Rattle.sx_derive.specs.Givens.{HasFacts}
use Rattle.sx_derive.specs.Runs.{FitIn, candidates_of}
use Rattle.sx_derive.specs.Turns.{PutsBehind}
use Rattle.sx_derive.specs.declared.tasks.Task.{Task}
use Rattle.sx_derive.proofs.CandidateTraces.{Going}
use Rattle.sx_derive.proofs.trace.+trace.Given as goal

abbrev pub decreases-trace : goal.decreases-trace
decreases-trace l = 5 * l.goal.levels + 4

abbrev pub decreases-trace_under : goal.decreases-trace_under
decreases-trace_under l = 5 * l.goal.levels + 5

abbrev pub decreases-trace_judgement : goal.decreases-trace_judgement
decreases-trace_judgement l = 5 * l.from.levels + 1

abbrev pub decreases-trace_premise : goal.decreases-trace_premise
decreases-trace_premise l = 5 * l.from.levels + 2

abbrev pub decreases-trace_rule : goal.decreases-trace_rule
decreases-trace_rule l = 5 * l.levels + 3

abbrev pub invariant-trace_rule-loop-k : goal.invariant-trace_rule-loop-k
invariant-trace_rule-loop-k l =
    PutsBehind l.initial.tasks.items l.tasks.items
    (λ more. (js : List Judgement) (tasks : List Task) → HasFacts l.given l.initial.store js → FitIn l.given l.initial.store tasks →
    Going (set_modes l.given.rules.now) (rules_of l.given.rules.now) l.given.pairs.now js (candidates_of l.given) l.candidate.number (rule_of l.candidate.rule.now) l.levels l.initial.store l.candidate.env l.initial.tries tasks l.store l.tries l.k (drop l.k (map premise_of l.candidate.rule.now.premises.items)) l.env l.kids (tasks ++ more))
