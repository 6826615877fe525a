use Rattle.std.proofs.Common.{◌≡◌, ℕ, ◌+◌, map, take}
use Rattle.sx_outside.specs.Told.{WhereTold}
use Rattle.sx_outside.specs.Views.{clean_files_of}
use Rattle.sx_compiling.specs.KeptFiles.{AreKeptOf}
use Rattle.sx_accepting.specs.ReadLanguage.{stated_of}
use Rattle.sx_headers.specs.ReadModule.{module_of}
use Rattle.sx_closure.specs.ReadModules.{module_name}
use Rattle.sx_build.specs.BuildModules.{none_made}
use Rattle.sx_build.specs.Buildings.{mades_view, AreNamedApart}
use Rattle.sx_build.specs.Remembering.{remembered_imports, Remembers}
use Rattle.sx_build.proofs.MakingOn.{GoesOn}
use Rattle.sx_build.proofs.build_module.make_all.Given as goal

-- what comes of the modules that are left comes of all; the modules that were made are those before
-- them, each once; what is remembered is of these; and no read failed
abbrev pub invariant-loop-i : goal.invariant-loop-i
invariant-loop-i g l = record {
  step : WhereTold (g.S.Shelf.content l.initial.shelf) (λ files. (tries : ℕ)
      × (l.steps ≡ l.initial.steps + tries)
      × GoesOn l.asked.budgets files (stated_of l.asked.language.now)
      (none_made (map (λ b. (goal.Auditor-dyn g (b.vtable, b.value)).meaning b.value)
      l.initial.building.auditors.items))
      (map module_of l.sources)
      (record {
        made = mades_view l.building.made.items;
        auditors = map (λ b. (goal.Auditor-dyn g (b.vtable, b.value)).meaning b.value)
            l.building.auditors.items;
      }) l.i tries);
  names : map (λ m. m.name) (mades_view l.building.made.items)
      ≡ map module_name (take l.i (map module_of l.sources));
  distinct : AreNamedApart (mades_view l.building.made.items);
  remembers : Remembers (mades_view l.building.made.items) (remembered_imports l.building.remembered);
  kept : WhereTold (g.S.Shelf.content l.initial.shelf)
      (AreKeptOf (clean_files_of l.building.extensions));
  content : g.S.Shelf.content l.shelf ≡ g.S.Shelf.content l.initial.shelf;
  reads : g.S.Shelf.read_faults l.shelf ≡ g.S.Shelf.read_faults l.initial.shelf;
  writes : g.S.Shelf.write_faults l.shelf ≡ g.S.Shelf.write_faults l.initial.shelf;
}
