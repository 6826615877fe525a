use Rattle.std.proofs.Common.{◌≡◌, ◌++◌, ◌∷◌, [], List, map, refl, sym, subst, Vec, arith}
use Rattle.std.specs.Global.{Global}
use Rattle.std.specs.Prelude.{Ok}
use Rattle.std.specs.List.{AllByRecursion}
use Rattle.sx_interface.specs.Interfaces.{InterfaceParts}
use Rattle.sx_environment.specs.SeenFrom.{IsShort, interfaces_of}
use Rattle.sx_interface.specs.declared.import.Import.{Import}
use Rattle.sx_importing.specs.Each.{GivesAfter, ForEach}
use Rattle.sx_importing.specs.ReadImports.{ReadsImport, import_of}
use Rattle.sx_importing.proofs.EachLoops.{Have, goes_next, goes_stop, goes_end, have_next}
use Rattle.sx_steps.proofs.StepsOn.{stops_first}
use Rattle.sx_build.proofs.Imported.{next_given, next_short, next_named}
use Rattle.sx_build.specs.Buildings.{mades_view}
use Rattle.sx_build.specs.MadeModules.{with_made}
use Rattle.sx_build.specs.Remembering.{IsOwnImport}
use Rattle.sx_build.proofs.Recalled.{own_next}
use Rattle.sx_build.proofs.imports_made.imports_made.Goals as goal

pub loop-i-init : goal.loop-i-init
loop-i-init c =
    let none = sym c.new-imports.ensures.items in
    let names = c.args.names.now in
    record {
      step = λ files r.
          let all = with_made (mades_view c.args.mades.now) files in
          subst (λ (is : List Import). GivesAfter (ReadsImport all) (map import_of is) names r →
          ForEach (ReadsImport all) names r) none (λ h. h);
      short = subst (λ (is : List Import). AllByRecursion IsShort (interfaces_of is)) none tt;
      names = subst (λ (is : List Import).
          Have names (map (λ (it : InterfaceParts). it.name) (interfaces_of is)) 0) none refl;
      own = subst (λ (is : List Import). AllByRecursion (IsOwnImport (mades_view c.args.mades.now)) is)
          none tt;
      remembers = c.requires.remembers;
    }

pub loop-i-preserved : goal.loop-i-preserved
loop-i-preserved c =
    let names = c.args.names.now in
    let i = c.loop-i.i in
    let name = c.index-names-i.result in
    let before = c.loop-i.invariant in
    let import = c.in-Ok.import in
    let is = c.in-Ok-add_import.ensures in
    record {
      step = λ files. goes_next (ReadsImport (with_made (mades_view c.args.mades.now) files)) names
          (map import_of c.loop-i.imports.items) i name c.loop-i-test.true c.index-names-i.is
          (before.step files) (map import_of c.add_import.new.imports.items)
          (next_given (ReadsImport (with_made (mades_view c.args.mades.now) files)) name
          c.loop-i.imports.items c.add_import.new.imports.items import is
          (c.in-Ok.ensures.step files));
      short = next_short c.loop-i.imports.items c.add_import.new.imports.items import is
          before.short c.in-Ok.ensures.is.short;
      names = have_next names
          (map (λ (it : InterfaceParts). it.name) (interfaces_of c.loop-i.imports.items))
          (map (λ (it : InterfaceParts). it.name) (interfaces_of c.add_import.new.imports.items))
          i name c.loop-i-test.true c.index-names-i.is
          (next_named c.loop-i.imports.items c.add_import.new.imports.items import is
          name c.in-Ok.ensures.is.own) before.names;
      own = own_next (mades_view c.args.mades.now) name c.loop-i.imports.items
          c.add_import.new.imports.items import is before.own c.in-Ok.ensures.is;
      remembers = c.in-Ok.ensures.remembers;
    }

pub returns-in-Err-clause-step : goal.returns-in-Err-clause-step
returns-in-Err-clause-step c = λ files.
    let Step = ReadsImport (with_made (mades_view c.args.mades.now) files) in
    let before = c.loop-i.invariant in
    let given = map import_of c.loop-i.imports.items in
    let name = c.index-names-i.result in
    goes_stop Step c.args.names.now given c.loop-i.i name c.loop-i-test.true c.index-names-i.is
    (before.step files) (λ (v : Vec Import Global). map import_of v.items)
    (λ (done : Unit {0}). given) c.in-Err.e
    (stops_first import_of (λ (done : Unit {0}). given) (Step name)
    (λ y result. result ≡ Ok (given ++ y ∷ [])) c.in-Err.e (c.in-Err.ensures.step files))

pub returns-clause-step : goal.returns-clause-step
returns-clause-step c = λ files.
    goes_end (ReadsImport (with_made (mades_view c.args.mades.now) files)) c.args.names.now
    (map import_of c.loop-i.imports.items) c.loop-i.i (omega (arith, c.loop-i-test.false))
    (c.loop-i.invariant.step files)
