use Rattle.std.proofs.Common.{ℕ, List, map, refl, sym, subst, arith, Vec}
use Rattle.std.specs.Global.{Global}
use Rattle.std.specs.Prelude.{Ok, Err}
use Rattle.sx_interface.specs.declared.import.Import.{Import}
use Rattle.sx_build.specs.declared.made.Made.{Made}
use Rattle.sx_steps.specs.Steps.{Untried}
use Rattle.sx_steps.specs.Stop.{Gives, Does}
use Rattle.sx_steps.proofs.StepsOn.{goes_from, stops_at, untried}
use Rattle.sx_accepting.specs.ReadLanguage.{stated_of}
use Rattle.sx_headers.specs.ReadModule.{module_of}
use Rattle.sx_importing.specs.ReadImports.{import_of, ReadsImports}
use Rattle.sx_build.specs.BuildModules.{BuildProgress, MakesWith}
use Rattle.sx_build.specs.Buildings.{mades_view}
use Rattle.sx_build.specs.MadeModules.{with_made}
use Rattle.std.specs.List.{AllByRecursion}
use Rattle.sx_build.specs.declared.remembered.Remembered.{Remembered}
use Rattle.sx_build.specs.Remembering.{remembered_imports, IsOwnImport, Remembers}
use Rattle.sx_build.proofs.Recalled.{remembers_on}
use Rattle.sx_build.proofs.making.make_next.Goals as goal

pub returns-in-Ok-clause-step : goal.returns-in-Ok-clause-step
returns-in-Ok-clause-step g c = λ files told.
    let asked = c.args.asked.now in
    let l = stated_of asked.language.now in
    let m = module_of c.args.source.now in
    let before : BuildProgress = record {
      made = mades_view c.args.building.now.made.items;
      auditors = map (λ b. (goal.Auditor-dyn g (b.vtable, b.value)).meaning b.value)
          c.args.building.now.auditors.items;
    } in
    let after : BuildProgress = record {
      made = mades_view c.make_with-done.new.building.made.items;
      auditors = map (λ b. (goal.Auditor-dyn g (b.vtable, b.value)).meaning b.value)
          c.make_with-done.new.building.auditors.items;
    } in
    let is = map import_of c.in-Ok.imports.items in
    let all = with_made before.made files in
    goes_from (λ (done : Unit {0}). after) (Untried (ReadsImports all m.header.imports))
    (MakesWith asked.budgets files l before m) is c.make_with-done.result c.args.steps.now
    c.args.steps.now c.make_with-done.new.steps (
      0,
      (
        subst (λ (mades : List Made). ReadsImports (with_made (mades_view mades) files)
            m.header.imports (Ok is)) c.deref.ensures.value
            (subst (λ (names : List (List ℕ)).
            ReadsImports (with_made (mades_view c.deref.result.now) files) names (Ok is))
            c.deref-2.ensures.value (c.in-Ok.ensures.step files)),
        refl,
      ),
      omega arith,
    )
    (subst (λ (imports : List Import). Does (λ (done : Unit {0}). after)
    (MakesWith asked.budgets files l before m (map import_of imports)) c.make_with-done.result
    c.args.steps.now c.make_with-done.new.steps) c.deref-in-Ok.ensures.value
    (c.make_with-done.ensures.step files told))

pub returns-in-Err-clause-step : goal.returns-in-Err-clause-step
returns-in-Err-clause-step g c = λ files told.
    let asked = c.args.asked.now in
    let l = stated_of asked.language.now in
    let m = module_of c.args.source.now in
    let before : BuildProgress = record {
      made = mades_view c.args.building.now.made.items;
      auditors = map (λ b. (goal.Auditor-dyn g (b.vtable, b.value)).meaning b.value)
          c.args.building.now.auditors.items;
    } in
    let all = with_made before.made files in
    stops_at (λ (v : Vec Import Global). map import_of v.items) (λ (done : Unit {0}). before)
    (Untried (ReadsImports all m.header.imports)) (MakesWith asked.budgets files l before m)
    c.in-Err.e c.args.steps.now c.args.steps.now
    (untried (λ (v : Vec Import Global). map import_of v.items)
    (ReadsImports all m.header.imports) (Err c.in-Err.e) c.args.steps.now
    (subst (λ (mades : List Made). Gives (λ (v : Vec Import Global). map import_of v.items)
    (ReadsImports (with_made (mades_view mades) files) m.header.imports) (Err c.in-Err.e))
    c.deref.ensures.value
    (subst (λ (names : List (List ℕ)). Gives (λ (v : Vec Import Global). map import_of v.items)
    (ReadsImports (with_made (mades_view c.deref.result.now) files) names) (Err c.in-Err.e))
    c.deref-2.ensures.value (c.in-Err.ensures.step files))))

pub returns-in-Ok-clause-remembers : goal.returns-in-Ok-clause-remembers
returns-in-Ok-clause-remembers g c =
    let mades = mades_view c.args.building.now.made.items in
    remembers_on c.make_with-done.result mades
    (mades_view c.make_with-done.new.building.made.items)
    (remembered_imports c.make_with-done.new.building.remembered) (remembered_imports c.keep_all.new.self)
    c.in-Ok.imports.items c.make_with-done.ensures.more
    (subst (λ (r : Remembered). Remembers mades (remembered_imports r))
    (sym c.make_with-done.ensures.remembered)
    (subst (λ (ms : List Made). Remembers (mades_view ms)
    (remembered_imports c.imports_made.new.remembered)) c.deref.ensures.value c.in-Ok.ensures.remembers))
    (subst (λ (ms : List Made). AllByRecursion (IsOwnImport (mades_view ms)) c.in-Ok.imports.items)
    c.deref.ensures.value c.in-Ok.ensures.own) c.keep_all.ensures
