use Rattle.std.proofs.Common.{refl, sym, subst}
use Rattle.std.specs.Prelude.{Err}
use Rattle.sx_term.specs.Term.{tree}
use Rattle.sx_forest.specs.Readings.{plain_reading}
use Rattle.sx_typing.specs.Refused.{HasReadBody}
use Rattle.sx_typing.specs.declared.module_error.ModuleError.{ModuleError}
use Rattle.sx_unit.specs.Modules.{module_data}
use Rattle.sx_unit.specs.Refused.{IsBadModule, IsCounted}
use Rattle.sx_unit.proofs.MadeUnits.{not_compiled, unread_bad, passed_counted, typed_counted}
use Rattle.sx_unit.proofs.MadeUnits.{untyped_counted}
use Rattle.sx_unit.proofs.compiling.compile_body.Goals as goal

pub returns-in_err-typed-clause-answer : goal.returns-in_err-typed-clause-answer
returns-in_err-typed-clause-answer g c =
    let m = module_data c.args.given.now in
    let bad = unread_bad m c.args.budgets _ c.in_err-typed.ensures.refused in
    not_compiled m c.args.budgets c.from_residual.result _ c.from_residual.ensures.1
    (λ e is. subst (λ (x : ModuleError). IsBadModule m c.args.budgets x) (sym is) bad)

pub returns-in_err-typed-clause-tries : goal.returns-in_err-typed-clause-tries
returns-in_err-typed-clause-tries g c =
    let m = module_data c.args.given.now in
    let body = c.args.body.now in
    let b : HasReadBody m.source = record {
      tokens = body.tokens.items;
      reading = plain_reading body.reading;
      subject = tree body.term;
      read = c.requires.body;
    } in
    let counted = untyped_counted m c.args.budgets b c.args.steps.now c.type_source.new.steps _
    c.in_err-typed.ensures.tries in
    passed_counted m c.args.budgets c.args.steps.now c.type_source.new.steps
    c.from_residual.result _ c.from_residual.ensures.1
    (λ e is. subst (λ (x : ModuleError). IsCounted m c.args.budgets (Err x) c.args.steps.now
    c.type_source.new.steps) (sym is) counted)

pub returns-clause-tries : goal.returns-clause-tries
returns-clause-tries g c =
    let m = module_data c.args.given.now in
    let body = c.args.body.now in
    let b : HasReadBody m.source = record {
      tokens = body.tokens.items;
      reading = plain_reading body.reading;
      subject = tree body.term;
      read = c.requires.body;
    } in
    typed_counted m c.args.budgets b c.args.steps.now c.type_source.new.steps c.in_ok-typed.typed
    c.in_ok-typed.ensures.tries c.compile_typed.result

pub returns-clause-answer : goal.returns-clause-answer
returns-clause-answer g c = c.compile_typed.ensures c.args.budgets refl c.in_ok-typed.ensures.typed
