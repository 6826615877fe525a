use Rattle.std.proofs.Common.{◌<◌, ◌^◌, length, arith}
use Rattle.std.proofs.lemmas.List.{length-map}
use Rattle.sx_rules.specs.Views.{goal as goal_of, hypotheses}
use Rattle.sx_arena.specs.Views.{rules_of, set_modes, judgement_of}
use Rattle.sx_derive.proofs.Standing.{begun}
use Rattle.sx_derive.proofs.search.Search.begin.Goals as goal

pub returns : goal.returns
returns c =
    let l : length (hypotheses c.args.given.now).judgements < 2 ^ 32 = (let b = length-map c.args.given.now.holds.items judgement_of in let f = c.requires.few in omega arith) in
    begun (set_modes c.args.rules.now) (rules_of c.args.rules.now) (hypotheses c.args.given.now) c.args.goal.form (goal_of c.args.goal).terms c.in_ok-problem.problem c.in_ok-problem.ensures l c.mark-mark.result c.in_ok-tasks.tasks c.in_ok-tasks.ensures
