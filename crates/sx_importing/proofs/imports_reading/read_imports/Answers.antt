use Rattle.std.proofs.Common.{List, map, refl, sym, ◌∙◌, subst, Vec}
use Rattle.std.specs.Global.{Global}
use Rattle.std.specs.List.{AllByRecursion}
use Rattle.sx_interface.specs.Interfaces.{InterfaceParts}
use Rattle.sx_environment.specs.SeenFrom.{IsShort, interfaces_of}
use Rattle.sx_interface.specs.declared.import.Import.{Import}
use Rattle.sx_importing.specs.Each.{GivesAfter, ForEach}
use Rattle.sx_importing.specs.ReadImports.{ReadsImport, import_of}
use Rattle.sx_importing.proofs.EachLoops.{Have, goes_next, goes_stop, have_next}
use Rattle.sx_importing.proofs.Results.{reads_on_from, reads_err}
use Rattle.sx_importing.proofs.imports_reading.read_imports.Goals as goal

pub loop-i-init : goal.loop-i-init
loop-i-init g c =
    let none = sym c.new-imports.ensures.items in
    let names = c.args.names.now in
    record {
      step = λ files told r.
          subst (λ (is : List Import). GivesAfter (ReadsImport files) (map import_of is) names r →
          ForEach (ReadsImport files) names r) none (λ h. h);
      short = subst (λ (is : List Import). AllByRecursion IsShort (interfaces_of is)) none tt;
      names = subst (λ (is : List Import).
          Have names (map (λ (it : InterfaceParts). it.name) (interfaces_of is)) 0) none refl;
      content = refl;
      reads = refl;
      writes = refl;
    }

pub loop-i-preserved : goal.loop-i-preserved
loop-i-preserved g c =
    let names = c.args.names.now in
    let i = c.loop-i.i in
    let name = c.index-names-i.result in
    let before = c.loop-i.invariant in
    record {
      step = λ files told. goes_next (ReadsImport files) names
          (map import_of c.loop-i.imports.items) i name c.loop-i-test.true c.index-names-i.is
          (before.step files told) (map import_of c.read_next.new.imports.items)
          (c.in-Ok.ensures.step files (before.content ∙ told));
      short = c.in-Ok.ensures.short;
      names = have_next names
          (map (λ (it : InterfaceParts). it.name) (interfaces_of c.loop-i.imports.items))
          (map (λ (it : InterfaceParts). it.name) (interfaces_of c.read_next.new.imports.items))
          i name c.loop-i-test.true c.index-names-i.is c.in-Ok.ensures.names before.names;
      content = c.in-Ok.ensures.reads.content ∙ before.content;
      reads = c.in-Ok.ensures.reads.kept (λ fault. fault) ∙ before.reads;
      writes = c.in-Ok.ensures.reads.writes ∙ before.writes;
    }

pub returns-in-Err-clause-step : goal.returns-in-Err-clause-step
returns-in-Err-clause-step g c = λ files told.
    let before = c.loop-i.invariant in
    goes_stop (ReadsImport files) c.args.names.now (map import_of c.loop-i.imports.items)
    c.loop-i.i c.index-names-i.result c.loop-i-test.true c.index-names-i.is
    (before.step files told) (λ (v : Vec Import Global). map import_of v.items)
    (λ (done : Unit {0}). map import_of c.read_next.new.imports.items) c.in-Err.e
    (c.in-Err.ensures.step files (before.content ∙ told))

pub returns-in-Err-clause-reads : goal.returns-in-Err-clause-reads
returns-in-Err-clause-reads g c =
    let before = c.loop-i.invariant in
    reads_on_from _ _ _ _ _ _ _ _ _ _ before.content before.reads before.writes
    (reads_err {X = Unit {0}} _ _ _ _ _ _ c.in-Err.e c.in-Err.ensures.reads)
