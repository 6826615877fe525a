use Rattle.std.proofs.Common.{map, sym, subst}
use Rattle.sx_unit.specs.Written.{unit_of}
use Rattle.sx_steps.specs.Steps.{Untried}
use Rattle.sx_steps.proofs.StepsOn.{goes_from, stops_at, untried}
use Rattle.sx_accepting.specs.ReadLanguage.{stated_of}
use Rattle.sx_headers.specs.ReadModule.{module_of}
use Rattle.sx_importing.specs.ReadImports.{import_of}
use Rattle.sx_compiling.specs.MakeUnit.{MakesUnit}
use Rattle.sx_build.specs.BuildModules.{BuildProgress, given_in, ShowsUnit}
use Rattle.sx_build.specs.Buildings.{mades_view}
use Rattle.sx_outside.specs.Views.{clean_files_of}
use Rattle.sx_outside.specs.declared.clean.CleanShelf.{CleanShelf}
use Rattle.sx_compiling.specs.KeptFiles.{AreKeptOf}
use Rattle.sx_build.proofs.making.make_with.Goals as goal

pub returns-in-Ok-clause-kept : goal.returns-in-Ok-clause-kept
returns-in-Ok-clause-kept g c = λ files told.
    subst (λ (k : CleanShelf). AreKeptOf (clean_files_of k) files) (sym c.show_made.ensures.extensions)
    (c.in-Ok.ensures.kept files told)

pub returns-in-Ok-clause-step : goal.returns-in-Ok-clause-step
returns-in-Ok-clause-step g c = λ files told.
    let asked = c.args.asked.now in
    let l = stated_of asked.language.now in
    let m = module_of c.args.source.now in
    let before : BuildProgress = record {
      made = mades_view c.args.building.now.made.items;
      auditors = map (λ b. (goal.Auditor-dyn g (b.vtable, b.value)).meaning b.value)
          c.args.building.now.auditors.items;
    } in
    let after : BuildProgress = record {
      made = mades_view c.show_made.new.building.made.items;
      auditors = map (λ b. (goal.Auditor-dyn g (b.vtable, b.value)).meaning b.value)
          c.show_made.new.building.auditors.items;
    } in
    let unit = unit_of c.in-Ok.unit in
    let is = map import_of c.args.imports.now in
    goes_from (λ (done : Unit {0}). after) (MakesUnit asked.budgets files (given_in l m is))
    (λ unit. Untried (ShowsUnit l before m unit)) unit c.show_made.result
    c.args.steps.now c.make_one.new.steps c.make_one.new.steps
    (c.in-Ok.ensures.step files told)
    (untried (λ (done : Unit {0}). after) (ShowsUnit l before m unit) c.show_made.result
    c.make_one.new.steps c.show_made.ensures.step)

pub returns-in-Err-clause-step : goal.returns-in-Err-clause-step
returns-in-Err-clause-step g c = λ files told.
    let asked = c.args.asked.now in
    let l = stated_of asked.language.now in
    let m = module_of c.args.source.now in
    let before : BuildProgress = record {
      made = mades_view c.args.building.now.made.items;
      auditors = map (λ b. (goal.Auditor-dyn g (b.vtable, b.value)).meaning b.value)
          c.args.building.now.auditors.items;
    } in
    let is = map import_of c.args.imports.now in
    stops_at unit_of (λ (done : Unit {0}). before)
    (MakesUnit asked.budgets files (given_in l m is))
    (λ unit. Untried (ShowsUnit l before m unit)) c.in-Err.e c.args.steps.now
    c.make_one.new.steps
    (c.in-Err.ensures.step files told)
