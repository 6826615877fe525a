use Rattle.std.proofs.Common.{ℕ, List, length, subst}
use Rattle.std.specs.Prelude.{Ok, Err}
use Rattle.sx_term.specs.Term.{tree}
use Rattle.sx_rules.specs.Views.{goal as goal_of}
use Rattle.sx_notation.specs.Language.{language_data}
use Rattle.sx_steps.specs.Stop.{Gives}
use Rattle.sx_steps.specs.Unit.{list_file}
use Rattle.sx_steps.specs.Work.{plan_of}
use Rattle.sx_steps.proofs.StepsOn.{goes_next, stops_first}
use Rattle.sx_verify.specs.Replays.{ReplaysMainGoal}
use Rattle.sx_verify.specs.VerifyModule.{VerifiesOutput}
use Rattle.sx_verify.specs.WrittenFiles.{written_of}
use Rattle.sx_verify.proofs.verify_over.verify_entries.Goals as goal

pub returns-in-Ok-clause-step : goal.returns-in-Ok-clause-step
returns-in-Ok-clause-step c =
    let name = c.args.asked.now.name.now in
    let w = written_of c.args.over.now.written.now in
    let d = language_data c.args.over.now.language.now.language in
    let goal = goal_of c.args.goal.now in
    let list = c.args.list.now in
    goes_next plan_of (ReplaysMainGoal (list_file name) d goal list)
    (VerifiesOutput name w d (length list)) (tree c.in-Ok.output) c.verify_output.result
    (subst (λ (file : List ℕ). ReplaysMainGoal file d goal list (Ok (tree c.in-Ok.output)))
    c.requires.files.list c.in-Ok.ensures.step)
    c.verify_output.ensures.step

pub returns-in-Err-clause-step : goal.returns-in-Err-clause-step
returns-in-Err-clause-step c =
    let name = c.args.asked.now.name.now in
    let w = written_of c.args.over.now.written.now in
    let d = language_data c.args.over.now.language.now.language in
    let goal = goal_of c.args.goal.now in
    let list = c.args.list.now in
    stops_first tree plan_of (ReplaysMainGoal (list_file name) d goal list)
    (VerifiesOutput name w d (length list)) c.in-Err.e
    (subst (λ (file : List ℕ). Gives tree (ReplaysMainGoal file d goal list) (Err c.in-Err.e))
    c.requires.files.list c.in-Err.ensures.step)
