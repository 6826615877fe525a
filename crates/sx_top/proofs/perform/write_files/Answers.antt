use Rattle.std.proofs.Common.{◌≡◌, ℕ, ◌+◌, List, sym, ap, ◌∙◌, subst, take, map, add-one}
use Rattle.sx_outside.specs.Files.{Files, after_writes, put, SameBut}
use Rattle.sx_steps.specs.Work.{file_of}
use Rattle.sx_top.specs.Writing.{Wrote}
use Rattle.sx_top.proofs.Writes.{told_then, after_more, name_there}
use Rattle.sx_top.proofs.perform.write_files.Goals as goal
use Rattle.sx_top.specs.declared.perform.WriteEnd.TheVariants as write_ends

pub returns-in-Failed-clause-wrote : goal.returns-in-Failed-clause-wrote
returns-in-Failed-clause-wrote g c =
    let outputs = c.args.files.now in
    let file = c.index-files-i.result in
    told_then (λ old new. new ≡ after_writes (take c.loop-i.i (map file_of outputs)) old) (SameBut file.name) (Wrote (map file_of outputs) (write_ends.Failed c.loop-i.i)) _ _ _
    c.loop-i.invariant.files c.in-Failed.ensures.answer
    (λ old mid new is same.
    subst (λ (name : List ℕ). SameBut name (after_writes (take c.loop-i.i (map file_of outputs)) old) new) (sym (name_there outputs c.loop-i.i file c.loop-i-test.true c.index-files-i.is))
    (subst (λ (m : Files). SameBut file.name m new) is same))

pub loop-i-preserved : goal.loop-i-preserved
loop-i-preserved g c =
    let outputs = c.args.files.now in
    let file = c.index-files-i.result in
    record {
      files = told_then (λ old new. new ≡ after_writes (take c.loop-i.i (map file_of outputs)) old) (λ old new. new ≡ put old file.name c.deref.result.now) (λ old new. new ≡ after_writes (take (c.loop-i.i + 1) (map file_of outputs)) old) _ _ _
          c.loop-i.invariant.files c.in-Done.ensures.answer
          (λ old mid new is puts. puts ∙ ap (λ (m : Files). put m file.name c.deref.result.now) is ∙ ap (λ bytes. put (after_writes (take c.loop-i.i (map file_of outputs)) old) file.name bytes) c.deref.ensures.value ∙ sym (rw add-one (after_more outputs c.loop-i.i file old c.loop-i-test.true c.index-files-i.is)));
      reads = c.in-Done.ensures.read_faults ∙ c.loop-i.invariant.reads;
      writes = c.in-Done.ensures.only (λ same. cc) ∙ c.loop-i.invariant.writes;
    }
