use Rattle.std.proofs.Common.{◌≡◌, [], map, refl, ap, arith, inl}
use Rattle.std.specs.Prelude.{Ok, Err}
use Rattle.sx_steps.specs.Steps.{Untried}
use Rattle.sx_steps.specs.Work.{plan_of}
use Rattle.sx_steps.specs.declared.step_error.StepError.TheVariants.{Memory}
use Rattle.sx_steps.proofs.StepsOn.{goes_from}
use Rattle.sx_accepting.specs.ReadLanguage.{stated_of}
use Rattle.sx_headers.specs.ReadModule.{module_of}
use Rattle.sx_build.specs.BuildModules.{BuildProgress, none_made, MakesAfter, whole_plan}
use Rattle.sx_build.specs.Buildings.{mades_view}
use Rattle.sx_build.specs.Remembering.{remembered_imports}
use Rattle.sx_outside.specs.Views.{clean_files_of}
use Rattle.sx_compiling.proofs.KeptReads.{none_kept}
use Rattle.sx_build.proofs.Recalled.{none_remembered}
use Rattle.sx_build.proofs.build_module.build_over.Goals as goal

pub make_all-requires-clause-remembers : goal.make_all-requires-clause-remembers
make_all-requires-clause-remembers g c =
    none_remembered [] (remembered_imports c.new-2.result) c.new-2.ensures

pub make_all-requires-clause-kept : goal.make_all-requires-clause-kept
make_all-requires-clause-kept g c = λ files told.
    none_kept (clean_files_of c.new-3.result) files c.new-3.ensures

pub returns-in-Ok-whole_work-clause-step : goal.returns-in-Ok-whole_work-clause-step
returns-in-Ok-whole_work-clause-step g c = λ files told.
    let asked = c.args.asked.now in
    let start = none_made (map (λ b. (goal.Auditor-dyn g (b.vtable, b.value)).meaning b.value)
    c.args.auditors.items) in
    let end : BuildProgress = record {
      made = mades_view c.make_all.new.building.made.items;
      auditors = map (λ b. (goal.Auditor-dyn g (b.vtable, b.value)).meaning b.value)
          c.make_all.new.building.auditors.items;
    } in
    goes_from plan_of
    (MakesAfter asked.budgets files (stated_of asked.language.now) start
    (map module_of c.args.sources.now))
    (λ end. Untried (λ result. result ≡ Ok (whole_plan end))) end (Ok c.in-Ok-whole_work.work)
    c.args.steps.now c.make_all.new.steps c.make_all.new.steps (c.in-Ok.ensures.step files told)
    (0, (ap Ok c.in-Ok-whole_work.ensures, refl), omega arith)

pub returns-in-Err-whole_work-clause-step : goal.returns-in-Err-whole_work-clause-step
returns-in-Err-whole_work-clause-step g c = λ files told.
    let asked = c.args.asked.now in
    let start = none_made (map (λ b. (goal.Auditor-dyn g (b.vtable, b.value)).meaning b.value)
    c.args.auditors.items) in
    let end : BuildProgress = record {
      made = mades_view c.make_all.new.building.made.items;
      auditors = map (λ b. (goal.Auditor-dyn g (b.vtable, b.value)).meaning b.value)
          c.make_all.new.building.auditors.items;
    } in
    goes_from plan_of
    (MakesAfter asked.budgets files (stated_of asked.language.now) start
    (map module_of c.args.sources.now))
    (λ end. Untried (λ result. result ≡ Ok (whole_plan end))) end (Err Memory)
    c.args.steps.now c.make_all.new.steps c.make_all.new.steps (c.in-Ok.ensures.step files told)
    (0, inl refl, omega arith)
