use Rattle.std.proofs.Common.{subst}
use Rattle.sx_term.specs.Term.{tree}
use Rattle.sx_rules.specs.Modes.{Goal}
use Rattle.sx_notation.specs.Language.{language_data}
use Rattle.sx_steps.specs.Stop.{Gives}
use Rattle.sx_steps.specs.Work.{plan_of}
use Rattle.sx_verify.specs.VerifyModule.{VerifiesList}
use Rattle.sx_verify.specs.WrittenFiles.{written_of}
use Rattle.sx_verify.proofs.OverTerms.{main_within}
use Rattle.sx_verify.proofs.verify_over.verify_subject.Goals as goal

pub main_goal-requires-clause-form : goal.main_goal-requires-clause-form
main_goal-requires-clause-form g c =
    let l = c.args.over.now.language.now.language in
    main_within (language_data l) c.requires.over.language.main

pub verify_list-work-requires-clause-goal : goal.verify_list-work-requires-clause-goal
verify_list-work-requires-clause-goal g c = record {
  environment = tree c.args.environment.now;
  subject = tree c.args.subject.now;
  input = c.requires.environment;
  typed = c.requires.subject;
  is = c.in-Ok.ensures;
}

pub returns-in-Ok-clause-step : goal.returns-in-Ok-clause-step
returns-in-Ok-clause-step g c = λ files told.
    let name = c.args.asked.now.name.now in
    let w = written_of c.args.over.now.written.now in
    let d = language_data c.args.over.now.language.now.language in
    subst (λ (x : Goal). Gives plan_of (VerifiesList name files w d x) c.verify_list-work.result)
    c.in-Ok.ensures (c.verify_list-work.ensures.step files told)
