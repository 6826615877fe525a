use Rattle.std.proofs.Common.{ℕ, List, ◌∙◌, subst}
use Rattle.std.specs.Prelude.{Ok, Err}
use Rattle.sx_core.specs.Problem.{problem}
use Rattle.sx_top.specs.ReadCore.{core_file, ReadsCore}
use Rattle.sx_steps.specs.Stop.{Gives}
use Rattle.sx_top.specs.VerifyCore.{VerifiesCoreSubject}
use Rattle.sx_steps.specs.Work.{plan_of}
use Rattle.sx_steps.proofs.StepsOn.{goes_next, stops_first}
use Rattle.sx_top.proofs.verify_core.plan_verify_core.Goals as goal

pub returns-in-Ok-clause-step : goal.returns-in-Ok-clause-step
returns-in-Ok-clause-step g c = λ files told.
    let name = c.args.name.now in
    goes_next plan_of (ReadsCore (core_file name) files) (VerifiesCoreSubject name files) (problem c.in-Ok.problem) c.verify_subject.result
    (subst (λ (file : List ℕ). ReadsCore file files (Ok (problem c.in-Ok.problem))) c.in_ok-file.ensures (c.in-Ok.ensures.step files told))
    (c.verify_subject.ensures.step files (c.in-Ok.ensures.reads.content ∙ told))

pub returns-clause-step : goal.returns-clause-step
returns-clause-step g c = λ files told.
    let name = c.args.name.now in
    stops_first problem plan_of (ReadsCore (core_file name) files) (VerifiesCoreSubject name files) c.in-Err.e
    (subst (λ (file : List ℕ). Gives problem (ReadsCore file files) (Err c.in-Err.e)) c.in_ok-file.ensures (c.in-Err.ensures.step files told))
