use Rattle.std.proofs.Common.{◌≡◌, ℕ, List, ap, subst}
use Rattle.std.specs.Prelude.{Result, Ok, Err}
use Rattle.sx_term.specs.Term.{tree}
use Rattle.sx_notation.specs.Language.{language_data}
use Rattle.sx_unit.specs.Texts.{print_text}
use Rattle.sx_words.specs.declared.closure_defect.Kept.TheVariants.{Signature}
use Rattle.sx_steps.specs.declared.stop.Stop.{Stop}
use Rattle.sx_steps.specs.Stop.{Gives}
use Rattle.sx_steps.specs.Unit.{interface_file}
use Rattle.sx_steps.specs.Work.{Plan, plan_of}
use Rattle.sx_steps.proofs.StepsOn.{stops_first}
use Rattle.sx_importing.specs.KeptValues.{KeepsText}
use Rattle.sx_verify.specs.Verified.{verified_plan}
use Rattle.sx_verify.proofs.verify_over.verify_output.Goals as goal

pub returns-in-Ok-verified_work-clause-step : goal.returns-in-Ok-verified_work-clause-step
returns-in-Ok-verified_work-clause-step c =
    let kept = c.args.over.now.written.now.interface.signature in
    let found = print_text (language_data c.args.over.now.language.now.language).parts
    (tree c.args.output.now) in
    record {
      given = Ok tt;
      begins = subst (λ (file : List ℕ). KeepsText file Signature kept found (Ok tt))
          c.requires.files.interface c.in-Ok.ensures.step;
      goes = ap (λ (p : Plan). Ok p) c.in-Ok-verified_work.ensures;
    }

pub returns-in-Err-clause-step : goal.returns-in-Err-clause-step
returns-in-Err-clause-step c =
    let kept = c.args.over.now.written.now.interface.signature in
    let found = print_text (language_data c.args.over.now.language.now.language).parts
    (tree c.args.output.now) in
    let name = c.args.asked.now.name.now in
    let next : Unit {0} → Result Plan Stop → Type 0 = λ done result.
    result ≡ Ok (verified_plan name c.args.nodes) in
    stops_first (λ (done : Unit {0}). done) plan_of
    (KeepsText (interface_file name) Signature kept found) next c.in-Err.e
    (subst (λ (file : List ℕ).
    Gives (λ (done : Unit {0}). done) (KeepsText file Signature kept found) (Err c.in-Err.e))
    c.requires.files.interface c.in-Err.ensures.step)
