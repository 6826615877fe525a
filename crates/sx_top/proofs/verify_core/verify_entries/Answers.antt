use Rattle.std.proofs.Common.{ℕ, List, map, length, subst}
use Rattle.std.specs.Prelude.{Err}
use Rattle.std.specs.Global.{Vec}
use Rattle.sx_term.specs.Term.{tree}
use Rattle.sx_term.specs.declared.term.Term.{Term}
use Rattle.sx_core.specs.Problem.{problem as problem_data}
use Rattle.sx_steps.specs.Unit.{list_file}
use Rattle.sx_steps.specs.Stop.{Gives}
use Rattle.sx_top.specs.VerifyCore.{ReplaysProblem, VerifiesOutputs}
use Rattle.sx_steps.specs.Work.{plan_of}
use Rattle.sx_steps.proofs.StepsOn.{goes_next, stops_first}
use Rattle.sx_top.proofs.verify_core.verify_entries.Goals as goal

pub returns-in-Ok-clause-step : goal.returns-in-Ok-clause-step
returns-in-Ok-clause-step g c = λ files told.
    let name = c.args.name.now in
    let p = problem_data c.args.problem.now in
    let list = c.args.list.now in
    goes_next plan_of (ReplaysProblem (list_file name) p list) (VerifiesOutputs name files (length list)) (map tree c.in-Ok.outputs.items) c.verify_outputs.result c.in-Ok.ensures.step
    (subst (λ (ts : List Term). Gives plan_of (VerifiesOutputs name files (length list) (map tree ts)) c.verify_outputs.result) c.deref.ensures.value (c.verify_outputs.ensures.step files told))

pub returns-in-Err-clause-step : goal.returns-in-Err-clause-step
returns-in-Err-clause-step g c = λ files told.
    let name = c.args.name.now in
    let p = problem_data c.args.problem.now in
    let list = c.args.list.now in
    stops_first (λ (outputs : Vec Term). map tree outputs.items) plan_of (ReplaysProblem (list_file name) p list) (VerifiesOutputs name files (length list)) c.in-Err.e
    (subst (λ (file : List ℕ). Gives (λ (outputs : Vec Term). map tree outputs.items) (ReplaysProblem file p list) (Err c.in-Err.e)) c.requires.file c.in-Err.ensures.step)
