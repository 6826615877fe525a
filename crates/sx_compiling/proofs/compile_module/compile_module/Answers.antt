use Rattle.std.proofs.Common.{refl}
use Rattle.std.specs.Prelude.{Ok, Err}
use Rattle.sx_unit.specs.Modules.{module_data}
use Rattle.sx_unit.specs.Written.{unit_of}
use Rattle.sx_steps.specs.declared.step_error.StepError.TheVariants as errors
use Rattle.sx_steps.proofs.StepsOn.{trying_by_view}
use Rattle.sx_compiling.specs.CompileModule.{Compiles, CompilingTries}
use Rattle.sx_compiling.proofs.Counted.{counted_short, counted_unit, counted_stop, uncompiled}
use Rattle.sx_compiling.proofs.DerivationLists.{list_derives}
use Rattle.sx_compiling.proofs.compile_module.compile_module.Goals as goal

pub returns-in-Ok-clause-step : goal.returns-in-Ok-clause-step
returns-in-Ok-clause-step g c =
    let m = module_data c.args.given.now in
    let b = c.args.budgets in
    trying_by_view unit_of (CompilingTries b m) (Compiles c.args.file.now b m)
    (Ok c.in-Ok.compiled) c.args.steps.now c.compile.new.steps
    (record { is = c.in-Ok.ensures.unit; made = c.in-Ok.ensures.answer })
    (counted_unit m b c.args.steps.now c.compile.new.steps c.in-Ok.compiled c.in-Ok.ensures.tries)

pub returns-in-Ok-bad_module-clause-step : goal.returns-in-Ok-bad_module-clause-step
returns-in-Ok-bad_module-clause-step g c =
    let m = module_data c.args.given.now in
    let b = c.args.budgets in
    let file = c.args.file.now in
    trying_by_view unit_of (CompilingTries b m) (Compiles file b m)
    (Err (errors.Stopped c.in-Ok-bad_module.stop)) c.args.steps.now c.compile.new.steps
    (uncompiled file m b c.in-Err.error c.in-Ok-bad_module.stop c.in-Err.ensures.answer
    c.in-Ok-bad_module.ensures)
    (counted_stop m b c.args.steps.now c.compile.new.steps file c.in-Err.error
    c.in-Ok-bad_module.stop c.in-Ok-bad_module.ensures c.in-Err.ensures.tries)

pub returns-in-Err-bad_module-clause-step : goal.returns-in-Err-bad_module-clause-step
returns-in-Err-bad_module-clause-step g c =
    let m = module_data c.args.given.now in
    let b = c.args.budgets in
    trying_by_view unit_of (CompilingTries b m) (Compiles c.args.file.now b m)
    (Err errors.Memory) c.args.steps.now c.compile.new.steps tt
    (counted_short m b c.args.steps.now c.compile.new.steps c.in-Err.error
    c.in-Err.ensures.tries)

pub returns-in-Ok-clause-list : goal.returns-in-Ok-clause-list
returns-in-Ok-clause-list g c =
    let given = c.args.given.now in
    list_derives (module_data given) c.requires.dialect.is c.args.budgets
    (unit_of c.in-Ok.compiled) c.in-Ok.ensures.answer given.source.dialect.language.now.rules refl
