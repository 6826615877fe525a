use Rattle.std.proofs.Common.{refl, arith}
use Rattle.std.specs.Prelude.{Err}
use Rattle.sx_grammar.specs.Tables.{literals_of}
use Rattle.sx_unit.specs.Written.{unit_of}
use Rattle.sx_steps.specs.Steps.{Untried}
use Rattle.sx_steps.proofs.StepsOn.{goes_from, stops_at, untried}
use Rattle.sx_headers.specs.FreeImports.{HasFreeImports}
use Rattle.sx_compiling.specs.CanMake.{given_of}
use Rattle.sx_compiling.specs.MakeUnit.{MakesReached}
use Rattle.sx_compiling.proofs.unit_making.make_unit_of_several.Goals as goal

pub returns-in-Ok-clause-step : goal.returns-in-Ok-clause-step
returns-in-Ok-clause-step g c = λ files told.
    let given = given_of c.args.given.now in
    let literals = literals_of given.language.language.parts in
    goes_from unit_of (Untried (HasFreeImports given.file literals given.read))
    (λ done. MakesReached c.args.budgets files given) c.in-Ok.field-0 c.make_reached.result
    c.args.steps.now c.args.steps.now c.make_reached.new.steps
    (0, (c.in-Ok.ensures.step, refl), omega arith) (c.make_reached.ensures.step files told)

pub returns-in-Err-clause-step : goal.returns-in-Err-clause-step
returns-in-Err-clause-step g c = λ files told.
    let given = given_of c.args.given.now in
    let literals = literals_of given.language.language.parts in
    stops_at (λ (done : Unit {0}). done) unit_of
    (Untried (HasFreeImports given.file literals given.read))
    (λ done. MakesReached c.args.budgets files given) c.in-Err.e c.args.steps.now c.args.steps.now
    (untried (λ (done : Unit {0}). done) (HasFreeImports given.file literals given.read)
    (Err c.in-Err.e) c.args.steps.now c.in-Err.ensures.step)
