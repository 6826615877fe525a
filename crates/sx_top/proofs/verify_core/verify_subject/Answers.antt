use Rattle.std.proofs.Common.{ℕ, List, map, ap, ◌∙◌}
use Rattle.std.specs.Prelude.{Ok, Err}
use Rattle.sx_term.specs.Term.{tree}
use Rattle.sx_rules.specs.Views.{FormData}
use Rattle.sx_core.specs.Problem.{problem as problem_data}
use Rattle.sx_top.specs.CoreTexts.{subject_text}
use Rattle.sx_steps.specs.Unit.{base_file}
use Rattle.sx_steps.specs.Stop.{Gives}
use Rattle.sx_top.specs.VerifyCore.{VerifiesCoreList}
use Rattle.sx_steps.specs.Work.{plan_of}
use Rattle.sx_top.specs.Written.{Compares}
use Rattle.sx_top.proofs.Propers.{terms_of}
use Rattle.sx_steps.proofs.StepsOn.{goes_next, stops_first}
use Rattle.sx_top.proofs.VerifySteps.{same_two}
use Rattle.sx_top.proofs.verify_core.verify_subject.Goals as goal

pub base_text-requires : goal.base_text-requires
base_text-requires g c = terms_of (map tree c.args.problem.now.goal.inputs.items) c.requires.texts c.requires.shallow

pub returns-in-Ok-clause-step : goal.returns-in-Ok-clause-step
returns-in-Ok-clause-step g c = λ files told.
    let name = c.args.name.now in
    let p = problem_data c.args.problem.now in
    goes_next plan_of (Compares (base_file name) (subject_text p.forms p.goal) files) (λ done. VerifiesCoreList name files p) c.in-Ok.field-0 c.verify_list.result
    (same_two (λ (file text : List ℕ). Compares file text files (Ok c.in-Ok.field-0)) c.in_ok-file.file (base_file name)
    c.deref.result.now (subject_text p.forms p.goal) c.in_ok-file.ensures (c.deref.ensures.value ∙ c.in_ok-text.ensures ∙ ap (λ (fs : List FormData). subject_text fs p.goal) c.forms.ensures) (c.in-Ok.ensures.step files told))
    (c.verify_list.ensures.step files (c.in-Ok.ensures.reads.content ∙ told))

pub returns-clause-step : goal.returns-clause-step
returns-clause-step g c = λ files told.
    let name = c.args.name.now in
    let p = problem_data c.args.problem.now in
    stops_first (λ (done : Unit {0}). done) plan_of (Compares (base_file name) (subject_text p.forms p.goal) files) (λ done. VerifiesCoreList name files p) c.in-Err.e
    (same_two (λ (file text : List ℕ). Gives (λ (done : Unit {0}). done) (Compares file text files) (Err c.in-Err.e)) c.in_ok-file.file (base_file name)
    c.deref.result.now (subject_text p.forms p.goal) c.in_ok-file.ensures (c.deref.ensures.value ∙ c.in_ok-text.ensures ∙ ap (λ (fs : List FormData). subject_text fs p.goal) c.forms.ensures) (c.in-Err.ensures.step files told))
