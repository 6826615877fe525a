use Rattle.std.proofs.Common.{map}
use Rattle.std.specs.Prelude.{Ok, Err}
use Rattle.sx_term.specs.Term.{tree}
use Rattle.sx_rules.specs.EntryView.{entries}
use Rattle.sx_rules.specs.Sets.{forms_in, rules_in}
use Rattle.sx_rules.specs.Views.{goal as goal_of, hypotheses, modes_of}
use Rattle.sx_typing.specs.Outcomes.{nameless}
use Rattle.sx_verify.proofs.Replayed.{replayed_shallow}
use Rattle.sx_verify.proofs.Replaying.{plainly}
use Rattle.sx_verify.proofs.list_replaying.replay_goal.Goals as goal

pub returns-in-Ok-clause-step : goal.returns-in-Ok-clause-step
returns-in-Ok-clause-step c =
    plainly c.args.rules.now (goal_of c.args.goal.now) (entries c.args.list.now)
    (hypotheses c.none-given.result) (Ok (map tree c.in-Ok.outputs.items))
    c.none-given.ensures.none c.in-Ok.ensures

pub returns-in-Ok-clause-shallow : goal.returns-in-Ok-clause-shallow
returns-in-Ok-clause-shallow c =
    let rules = c.args.rules.now in
    replayed_shallow (modes_of (forms_in rules)) (nameless (rules_in rules)) (goal_of c.args.goal.now)
    (entries c.args.list.now) (map tree c.in-Ok.outputs.items)
    (plainly rules (goal_of c.args.goal.now) (entries c.args.list.now)
    (hypotheses c.none-given.result) (Ok (map tree c.in-Ok.outputs.items))
    c.none-given.ensures.none c.in-Ok.ensures)

pub returns-in-Ok-bad_replay-clause-step : goal.returns-in-Ok-bad_replay-clause-step
returns-in-Ok-bad_replay-clause-step c = (
  c.in-Err.error,
  plainly c.args.rules.now (goal_of c.args.goal.now) (entries c.args.list.now)
      (hypotheses c.none-given.result) (Err c.in-Err.error) c.none-given.ensures.none
      c.in-Err.ensures,
  c.in-Ok-bad_replay.ensures.stop,
)
