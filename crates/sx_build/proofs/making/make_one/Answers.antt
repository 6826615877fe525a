use Rattle.std.proofs.Common.{ℕ, List, map, subst}
use Rattle.sx_grammar.specs.Tables.{literals_of}
use Rattle.sx_unit.specs.Written.{unit_of}
use Rattle.sx_steps.specs.Steps.{NoTries}
use Rattle.sx_steps.specs.Stop.{Does}
use Rattle.sx_steps.proofs.StepsOn.{lacks_first}
use Rattle.sx_accepting.specs.ReadLanguage.{stated_of}
use Rattle.sx_headers.specs.FreeImports.{HasFreeImports}
use Rattle.sx_headers.specs.ReadModule.{module_of}
use Rattle.sx_importing.specs.ReadImports.{import_of}
use Rattle.sx_compiling.specs.Given.{GivenModule}
use Rattle.sx_compiling.specs.MakeUnit.{MakesReached, MakesUnit}
use Rattle.sx_build.specs.BuildModules.{given_in}
use Rattle.sx_build.proofs.Imported.{given_with}
use Rattle.sx_build.proofs.making.make_one.Goals as goal

pub returns-in-Err-clause-step : goal.returns-in-Err-clause-step
returns-in-Err-clause-step g c = λ files told.
    let asked = c.args.asked.now in
    let given : GivenModule =
    given_in (stated_of asked.language.now) (module_of c.args.source.now)
    (map import_of c.args.imports.now) in
    lacks_first unit_of NoTries
    (HasFreeImports given.file (literals_of given.language.language.parts) given.read)
    (λ done. MakesReached asked.budgets files given) c.args.steps.now

pub returns-in-Ok-clause-step : goal.returns-in-Ok-clause-step
returns-in-Ok-clause-step g c = λ files told.
    let asked = c.args.asked.now in
    let l = stated_of asked.language.now in
    let m = module_of c.args.source.now in
    let is = map import_of c.args.imports.now in
    subst (λ (file : List ℕ). Does unit_of (MakesUnit asked.budgets files (given_with file m l is))
    c.make_unit_of_several-unit.result c.args.steps.now c.make_unit_of_several-unit.new.steps) c.in-Ok.ensures
    (c.make_unit_of_several-unit.ensures.step files told)
