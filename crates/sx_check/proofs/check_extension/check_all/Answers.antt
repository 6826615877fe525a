use Rattle.std.proofs.Common.{◌≡◌, map, arith}
use Rattle.std.specs.Prelude.{Result, Ok}
use Rattle.sx_notation.specs.Language.{language_data}
use Rattle.sx_steps.specs.declared.stop.Stop.{Stop}
use Rattle.sx_steps.specs.Steps.{Untried}
use Rattle.sx_steps.specs.Work.{Plan, plan_of}
use Rattle.sx_steps.proofs.StepsOn.{goes_from, stops_at, untried}
use Rattle.sx_uses.specs.ExtensionFile.{extension_of}
use Rattle.sx_accepting.specs.ExtendedLanguages.{base_of, extended_data, unextended}
use Rattle.sx_accepting.specs.Extending.{ExtendsLanguage}
use Rattle.sx_check.specs.CheckExtension.{check_plan}
use Rattle.sx_check.proofs.LastRules.{last_among}
use Rattle.sx_check.proofs.check_extension.check_all.Goals as goal

pub accepted_work-work-requires : goal.accepted_work-work-requires
accepted_work-work-requires g c =
    let made = c.in-Ok.ensures.step in
    last_among (base_of c.args.language.now) c.args.asked.now.budgets (map extension_of c.args.files.now) (unextended (language_data c.args.language.now)) (extended_data c.args.language.now c.in-Ok.extended) made.0
    (omega arith) made.1

pub returns-in-Ok-clause-step : goal.returns-in-Ok-clause-step
returns-in-Ok-clause-step g c =
    let l = c.args.language.now in
    let x = extended_data l c.in-Ok.extended in
    let name = c.args.asked.now.name.now in
    goes_from plan_of (ExtendsLanguage (base_of l) c.args.asked.now.budgets (map extension_of c.args.files.now) (unextended (language_data l))) (λ y. Untried (λ result. result ≡ Ok (check_plan name y))) x c.accepted_work-work.result
    c.args.steps.now c.extend_language.new.steps c.extend_language.new.steps c.in-Ok.ensures.step
    (untried plan_of (λ (result : Result Plan Stop). result ≡ Ok (check_plan name x)) c.accepted_work-work.result c.extend_language.new.steps c.accepted_work-work.ensures.step)

pub returns-in-Err-clause-step : goal.returns-in-Err-clause-step
returns-in-Err-clause-step g c =
    let l = c.args.language.now in
    stops_at (extended_data l) plan_of (ExtendsLanguage (base_of l) c.args.asked.now.budgets (map extension_of c.args.files.now) (unextended (language_data l))) (λ y. Untried (λ result. result ≡ Ok (check_plan c.args.asked.now.name.now y))) c.in-Err.e
    c.args.steps.now c.extend_language.new.steps c.in-Err.ensures.step
