use Rattle.std.proofs.Common.{ℕ, ◌<◌, List, map, length, refl, sym, subst}
use Rattle.std.proofs.lemmas.List.{length-map}
use Rattle.sx_outside.specs.Sink.{IsAppending}
use Rattle.sx_outside.specs.Told.{Told}
use Rattle.sx_steps.specs.declared.work.Output.{Output}
use Rattle.sx_steps.specs.Refusal.{write_fault, line_of}
use Rattle.sx_steps.specs.Work.{file_of, plan_of}
use Rattle.sx_top.specs.Course.{Sent, short, failed, written}
use Rattle.sx_top.specs.Writing.{Wrote}
use Rattle.sx_top.specs.declared.perform.WriteEnd.TheVariants as write_ends
use Rattle.sx_top.proofs.Writes.{name_there}
use Rattle.sx_top.proofs.perform.perform.Goals as goal

pub returns-in-All : goal.returns-in-All
returns-in-All g c = record {
  course = written (plan_of c.args.work.now) c.write.result;
  is = sym c.answered.ensures;
  begins = refl;
  leaves = record {
    files = subst (λ (l : List Output). Told (Wrote (map file_of l) write_ends.All) (g.S.Shelf.content c.args.shelf.now) (g.S.Shelf.content c.write_files.new.shelf)) c.deref.ensures.value c.in-All.ensures.wrote;
    reads = c.in-All.ensures.reads;
    writes = c.in-All.ensures.writes.kept (λ failed. failed);
    lines = record {
      bytes = subst (λ (l : List ℕ). IsAppending (g.K.Sink.content c.args.out.now) l c.write.result (g.K.Sink.content c.write.new.self)) c.deref-in-All.ensures.value c.write.ensures.answer;
      faults = record { least = c.write.ensures.faults; rose = c.write.ensures.cause; kept = c.write.ensures.only };
    };
  };
}

pub returns-in-Failed : goal.returns-in-Failed
returns-in-Failed g c =
    let outputs = c.args.work.now.files.items in
    let number = c.in-Failed.number in
    let below = subst (λ (l : List Output). number < length l) c.deref.ensures.value c.in-Failed.ensures.below in
    record {
      course = failed (plan_of c.args.work.now) number c.send_fault.result;
      is = refl;
      begins = refl;
      leaves = record {
        below = subst (λ (n : ℕ). number < n) (sym (length-map outputs file_of)) below;
        files = subst (λ (l : List Output). Told (Wrote (map file_of l) (write_ends.Failed number)) (g.S.Shelf.content c.args.shelf.now) (g.S.Shelf.content c.write_files.new.shelf)) c.deref.ensures.value c.in-Failed.ensures.wrote;
        reads = c.in-Failed.ensures.reads;
        writes = record { least = c.in-Failed.ensures.writes.least; rose = λ fails. c.in-Failed.ensures.writes.rose tt; kept = λ never. absurd (never tt) };
        line = subst (λ (name : List ℕ). Sent (line_of (write_fault name)) c.send_fault.result (g.K.Sink.content c.args.out.now) (g.K.Sink.content c.send_fault.new.out) (g.K.Sink.faults c.args.out.now) (g.K.Sink.faults c.send_fault.new.out))
            (sym (name_there outputs number c.index-file.result.now below c.index-file.ensures)) c.send_fault.ensures;
      };
    }

pub returns-in-NoMemory : goal.returns-in-NoMemory
returns-in-NoMemory g c =
    let outputs = c.args.work.now.files.items in
    let number = c.in-NoMemory.field-0 in
    let below = subst (λ (l : List Output). number < length l) c.deref.ensures.value c.in-NoMemory.ensures.below in
    record {
      course = short (plan_of c.args.work.now) number;
      is = refl;
      begins = refl;
      leaves = record {
        below = subst (λ (n : ℕ). number < n) (sym (length-map outputs file_of)) below;
        files = subst (λ (l : List Output). Told (Wrote (map file_of l) (write_ends.NoMemory number)) (g.S.Shelf.content c.args.shelf.now) (g.S.Shelf.content c.write_files.new.shelf)) c.deref.ensures.value c.in-NoMemory.ensures.wrote;
        reads = c.in-NoMemory.ensures.reads;
        writes = c.in-NoMemory.ensures.writes.kept (λ failed. failed);
        bytes = refl;
        sends = refl;
      };
    }
