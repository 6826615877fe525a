use Rattle.std.proofs.Common.{List, map}
use Rattle.std.specs.Prelude.{Ok, Err}
use Rattle.sx_term.specs.Term.{tree}
use Rattle.sx_rules.specs.EntryView.{entries}
use Rattle.sx_rules.specs.Rules.{Rule, Hypotheses}
use Rattle.sx_rules.specs.Views.{hypotheses, modes_of}
use Rattle.sx_core.specs.Problem.{problem as problem_data}
use Rattle.sx_replay.specs.Replay.{IsReplayAnswer}
use Rattle.sx_top.proofs.VerifySteps.{by_plain, replayed_terms}
use Rattle.sx_top.proofs.verify_core.replay_list.Goals as goal

pub returns-in-Ok-clause-step : goal.returns-in-Ok-clause-step
returns-in-Ok-clause-step c =
    let p = problem_data c.args.problem.now in
    by_plain c.args.problem.now (λ (rs : List Rule) (hyps : Hypotheses). IsReplayAnswer (modes_of p.forms) rs hyps p.goal (entries c.args.list.now) (Ok (map tree c.in-Ok.outputs.items)))
    (hypotheses c.none-given.result) c.none-given.ensures.none c.in-Ok.ensures

pub returns-in-Ok-clause-terms : goal.returns-in-Ok-clause-terms
returns-in-Ok-clause-terms c =
    replayed_terms (problem_data c.args.problem.now) c.requires.proper (entries c.args.list.now) (map tree c.in-Ok.outputs.items) (returns-in-Ok-clause-step c)

pub returns-clause-step : goal.returns-clause-step
returns-clause-step c =
    let p = problem_data c.args.problem.now in (
      c.in-Err.error,
      by_plain c.args.problem.now (λ (rs : List Rule) (hyps : Hypotheses). IsReplayAnswer (modes_of p.forms) rs hyps p.goal (entries c.args.list.now) (Err c.in-Err.error))
          (hypotheses c.none-given.result) c.none-given.ensures.none c.in-Err.ensures,
      c.in_ok-bad_replay-in-Err.ensures.stop,
    )
