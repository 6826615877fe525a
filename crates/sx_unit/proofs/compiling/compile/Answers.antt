use Rattle.std.proofs.Common.{[], sym, subst}
use Rattle.std.specs.Prelude.{Err}
use Rattle.sx_grammar.specs.Told.{shapes_of}
use Rattle.sx_rules.specs.Modes.{AllModed}
use Rattle.sx_rules.specs.Views.{modes_of}
use Rattle.sx_rules.proofs.Refusals.{good_moded}
use Rattle.sx_typing.specs.declared.module_error.ModuleError.{ModuleError}
use Rattle.sx_typing.specs.Dialects.{DialectData, IsDialect}
use Rattle.sx_typing.specs.Goals.{dialect_rules}
use Rattle.sx_unit.specs.Modules.{module_data}
use Rattle.sx_unit.specs.Refused.{IsBadModule, IsCounted}
use Rattle.sx_unit.proofs.MadeUnits.{not_compiled, unread_bad, passed_counted, unread_counted}
use Rattle.sx_unit.proofs.MadeUnits.{unit_if, final_if}
use Rattle.sx_unit.proofs.compiling.compile.Goals as goal

-- the rules of a dialect can be followed
is_moded : (d : DialectData) → IsDialect d → AllModed (modes_of d.language.forms) (dialect_rules d)
is_moded d is = good_moded (shapes_of d.parts) d.language.forms [] d.rules is.rule_set.1

pub returns-clause-unit : goal.returns-clause-unit
returns-clause-unit g c =
    let m = module_data c.args.given.now in
    unit_if m c.args.budgets (is_moded m.source.dialect c.requires.dialect.is) c.compile_body.result
    c.compile_body.ensures.answer

pub returns-clause-untyped : goal.returns-clause-untyped
returns-clause-untyped g c =
    let m = module_data c.args.given.now in
    final_if m c.args.budgets (is_moded m.source.dialect c.requires.dialect.is)
    c.compile_body.result c.compile_body.ensures.answer

pub returns-in_err-body-clause-answer : goal.returns-in_err-body-clause-answer
returns-in_err-body-clause-answer g c =
    let m = module_data c.args.given.now in
    let bad = unread_bad m c.args.budgets _ (c.in_err-body.ensures.refused c.args.budgets.tries) in
    not_compiled m c.args.budgets c.from_residual.result _ c.from_residual.ensures.1
    (λ e is. subst (λ (x : ModuleError). IsBadModule m c.args.budgets x) (sym is) bad)

pub returns-in_err-body-clause-untyped : goal.returns-in_err-body-clause-untyped
returns-in_err-body-clause-untyped g c =
    let m = module_data c.args.given.now in
    let bad = unread_bad m c.args.budgets _ (c.in_err-body.ensures.refused c.args.budgets.tries) in
    final_if m c.args.budgets (is_moded m.source.dialect c.requires.dialect.is)
    c.from_residual.result
    (not_compiled m c.args.budgets c.from_residual.result _ c.from_residual.ensures.1
    (λ e is. subst (λ (x : ModuleError). IsBadModule m c.args.budgets x) (sym is) bad))

pub returns-in_err-body-clause-tries : goal.returns-in_err-body-clause-tries
returns-in_err-body-clause-tries g c =
    let m = module_data c.args.given.now in
    let counted = unread_counted m c.args.budgets _ c.args.steps.now c.in_err-body.ensures.none in
    passed_counted m c.args.budgets c.args.steps.now c.args.steps.now c.from_residual.result _
    c.from_residual.ensures.1
    (λ e is. subst (λ (x : ModuleError). IsCounted m c.args.budgets (Err x) c.args.steps.now
    c.args.steps.now) (sym is) counted)
