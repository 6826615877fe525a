use Rattle.std.proofs.Common.{List, map, refl, subst, arith}
use Rattle.std.specs.Prelude.{Err}
use Rattle.sx_unit.specs.Written.{unit_of}
use Rattle.sx_steps.specs.Steps.{Untried}
use Rattle.sx_steps.specs.Stop.{Does}
use Rattle.sx_steps.proofs.StepsOn.{goes_from, stops_at, untried, reads_on}
use Rattle.sx_uses.specs.declared.extension_file.ExtensionFile.{ExtensionFile}
use Rattle.sx_uses.specs.ExtensionFile.{extension_of, extensions_of}
use Rattle.sx_uses.specs.ReadUses.{ReadsUses}
use Rattle.sx_compiling.specs.CanMake.{given_of}
use Rattle.sx_compiling.specs.MakeUnit.{MakesExtended}
use Rattle.sx_compiling.proofs.unit_making.make_reached.Goals as goal

pub returns-in-Ok-clause-step : goal.returns-in-Ok-clause-step
returns-in-Ok-clause-step g c = λ files told.
    let given = given_of c.args.given.now in
    let b = c.args.budgets in
    let header = given.read.header in
    let xs = extensions_of c.in-Ok.files in
    goes_from unit_of (Untried (ReadsUses given.file header.language header.uses files))
    (MakesExtended b given) xs c.make_with-unit.result c.args.steps.now c.args.steps.now
    c.make_with-unit.new.steps (
      0,
      (
        c.in-Ok.ensures.step files told,
        refl,
      ),
      omega arith,
    )
    (subst (λ (ys : List ExtensionFile). Does unit_of (MakesExtended b given (map extension_of ys))
    c.make_with-unit.result c.args.steps.now c.make_with-unit.new.steps) c.deref.ensures.value
    c.make_with-unit.ensures.step)

pub returns-in-Ok-clause-reads : goal.returns-in-Ok-clause-reads
returns-in-Ok-clause-reads g c =
    reads_on _ _ _ _ _ _ _ c.make_with-unit.result c.in-Ok.ensures.reads
    c.make_with-unit.ensures.no_fault

pub returns-in-Err-clause-step : goal.returns-in-Err-clause-step
returns-in-Err-clause-step g c = λ files told.
    let given = given_of c.args.given.now in
    let header = given.read.header in
    stops_at extensions_of unit_of
    (Untried (ReadsUses given.file header.language header.uses files))
    (MakesExtended c.args.budgets given) c.in-Err.e c.args.steps.now c.args.steps.now
    (untried extensions_of (ReadsUses given.file header.language header.uses files)
    (Err c.in-Err.e) c.args.steps.now (c.in-Err.ensures.step files told))
