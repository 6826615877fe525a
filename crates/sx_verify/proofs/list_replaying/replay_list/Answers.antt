use Rattle.sx_rules.specs.EntryView.{entries}
use Rattle.sx_rules.specs.Views.{goal as goal_of}
use Rattle.sx_notation.specs.Language.{language_data}
use Rattle.sx_verify.proofs.MainTerms.{goal_shallow}
use Rattle.sx_verify.proofs.Replaying.{only_output, output_good, output_given, stop_given}
use Rattle.sx_verify.proofs.list_replaying.replay_list.Goals as goal

pub replay_goal-requires-clause-goal : goal.replay_goal-requires-clause-goal
replay_goal-requires-clause-goal c =
    goal_shallow (language_data c.args.language.now) c.requires.language.main
    (goal_of c.args.goal.now) c.requires.goal

pub only_output-requires : goal.only_output-requires
only_output-requires c =
    only_output c.args.language.now (goal_of c.args.goal.now) (entries c.args.list.now)
    c.requires.language c.requires.goal c.facts.ensures.good c.in-Ok.outputs c.in-Ok.ensures.step

pub returns-in-Ok-clause-step : goal.returns-in-Ok-clause-step
returns-in-Ok-clause-step c =
    output_given c.args.language.now (goal_of c.args.goal.now) (entries c.args.list.now)
    c.in-Ok.outputs c.only_output.result c.only_output.ensures c.in-Ok.ensures.step

pub returns-in-Ok-clause-good : goal.returns-in-Ok-clause-good
returns-in-Ok-clause-good c =
    output_good c.args.language.now (goal_of c.args.goal.now) (entries c.args.list.now)
    c.requires.language c.requires.goal c.facts.ensures.good c.in-Ok.outputs c.only_output.result
    c.only_output.ensures c.in-Ok.ensures.step

pub returns-in-Err-clause-step : goal.returns-in-Err-clause-step
returns-in-Err-clause-step c =
    stop_given c.args.file.now (language_data c.args.language.now) (goal_of c.args.goal.now)
    c.args.list.now c.in-Err.e c.in-Err.ensures.step
