use Rattle.std.proofs.Common.{List, map, refl, sym, ◌∙◌, subst, Vec}
use Rattle.std.specs.Global.{Global}
use Rattle.std.specs.List.{AllByRecursion}
use Rattle.sx_interface.specs.Interfaces.{InterfaceParts, MarkData}
use Rattle.sx_interface.specs.InterfaceView.{mark_view}
use Rattle.sx_environment.specs.SeenFrom.{IsShort, interfaces_of}
use Rattle.sx_interface.specs.declared.import.Import.{Import}
use Rattle.sx_importing.specs.Each.{GivesAfter, ForEach}
use Rattle.sx_importing.proofs.EachLoops.{Have, goes_next, goes_stop, have_next}
use Rattle.sx_importing.proofs.Results.{reads_on_from, reads_err}
use Rattle.sx_verify.specs.BaseFits.{mark_names}
use Rattle.sx_verify.specs.KeptImports.{ReadsKept}
use Rattle.sx_verify.proofs.SeenElements.{seen_within, seen_at}
use Rattle.sx_verify.proofs.kept_imports.read_all_kept.Goals as goal

pub loop-i-init : goal.loop-i-init
loop-i-init g c =
    let none = sym c.new-imports.ensures.items in
    let file = c.args.file.now in
    let marks = map mark_view c.args.marks.now in
    record {
      step = λ files told r.
          subst (λ (is : List Import). GivesAfter (ReadsKept file files) (interfaces_of is) marks r
          → ForEach (ReadsKept file files) marks r) none (λ h. h);
      short = subst (λ (is : List Import). AllByRecursion IsShort (interfaces_of is)) none tt;
      names = subst (λ (is : List Import). Have (mark_names marks)
          (map (λ (it : InterfaceParts). it.name) (interfaces_of is)) 0) none refl;
      content = refl;
      reads = refl;
      writes = refl;
    }

pub loop-i-preserved : goal.loop-i-preserved
loop-i-preserved g c =
    let marks = map mark_view c.args.marks.now in
    let i = c.loop-i.i in
    let m = c.index-marks-i.result in
    let before = c.loop-i.invariant in
    let within = seen_within mark_view c.args.marks.now i c.loop-i-test.true in
    let at = seen_at mark_view c.args.marks.now i m c.loop-i-test.true c.index-marks-i.is in
    record {
      step = λ files told. goes_next (ReadsKept c.args.file.now files) marks
          (interfaces_of c.loop-i.imports.items) i (mark_view m) within at
          (before.step files told) (interfaces_of c.read_next.new.imports.items)
          (c.in-Ok.ensures.step files (before.content ∙ told));
      short = c.in-Ok.ensures.short;
      names = have_next (mark_names marks)
          (map (λ (it : InterfaceParts). it.name) (interfaces_of c.loop-i.imports.items))
          (map (λ (it : InterfaceParts). it.name) (interfaces_of c.read_next.new.imports.items))
          i m.name (seen_within (λ (x : MarkData). x.name) marks i within)
          (seen_at (λ (x : MarkData). x.name) marks i (mark_view m) within at)
          c.in-Ok.ensures.names before.names;
      content = c.in-Ok.ensures.reads.content ∙ before.content;
      reads = c.in-Ok.ensures.reads.kept (λ fault. fault) ∙ before.reads;
      writes = c.in-Ok.ensures.reads.writes ∙ before.writes;
    }

pub returns-in-Err-clause-step : goal.returns-in-Err-clause-step
returns-in-Err-clause-step g c = λ files told.
    let before = c.loop-i.invariant in
    let m = c.index-marks-i.result in
    goes_stop (ReadsKept c.args.file.now files) (map mark_view c.args.marks.now)
    (interfaces_of c.loop-i.imports.items) c.loop-i.i (mark_view m)
    (seen_within mark_view c.args.marks.now c.loop-i.i c.loop-i-test.true)
    (seen_at mark_view c.args.marks.now c.loop-i.i m c.loop-i-test.true c.index-marks-i.is)
    (before.step files told) (λ (v : Vec Import Global). interfaces_of v.items)
    (λ (done : Unit {0}). interfaces_of c.read_next.new.imports.items) c.in-Err.e
    (c.in-Err.ensures.step files (before.content ∙ told))

pub returns-in-Err-clause-reads : goal.returns-in-Err-clause-reads
returns-in-Err-clause-reads g c =
    let before = c.loop-i.invariant in
    reads_on_from _ _ _ _ _ _ _ _ _ _ before.content before.reads before.writes
    (reads_err {X = Unit {0}} _ _ _ _ _ _ c.in-Err.e c.in-Err.ensures.reads)
