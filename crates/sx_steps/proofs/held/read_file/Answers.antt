use Rattle.std.proofs.Common.{◌≡◌, refl, ap, sym, ◌∙◌}
use Rattle.sx_steps.specs.declared.stop.Stop.{Stop}
use Rattle.sx_steps.specs.declared.status.Status.TheVariants.{Refused, ReadFault, WriteFault}
use Rattle.sx_steps.specs.Refusal.{status_of}
use Rattle.sx_steps.proofs.held.read_file.Goals as goal

-- a stop that is refused is no fault
no_fault : (stop wanted : Stop) → stop ≡ wanted → status_of wanted ≡ Refused →
    (status_of stop ≡ ReadFault → ⊥) × (status_of stop ≡ WriteFault → ⊥)
no_fault stop wanted is refused =
    let status = ap status_of is ∙ refused in (
      λ fault. let clash : Refused ≡ ReadFault = sym status ∙ fault in cc,
      λ fault. let clash : Refused ≡ WriteFault = sym status ∙ fault in cc,
    )

pub returns-in-Found-clause-reads : goal.returns-in-Found-clause-reads
returns-in-Found-clause-reads g c = record {
  content = c.read.ensures.content;
  reads = c.read.ensures.faults;
  writes = c.read.ensures.write_faults;
  cause = λ stopped. absurd stopped;
  kept = λ _. c.read.ensures.only (λ failed. cc);
  never = λ stopped. stopped;
}

pub returns-in-Absent-clause-reads : goal.returns-in-Absent-clause-reads
returns-in-Absent-clause-reads g c =
    let none = no_fault _ _ c.about.ensures refl in record {
      content = c.read.ensures.content;
      reads = c.read.ensures.faults;
      writes = c.read.ensures.write_faults;
      cause = λ stopped. absurd (none.0 stopped);
      kept = λ _. c.read.ensures.only (λ failed. cc);
      never = none.1;
    }

pub returns-in-TooLong-clause-reads : goal.returns-in-TooLong-clause-reads
returns-in-TooLong-clause-reads g c =
    let none = no_fault _ _ c.about-in-TooLong.ensures refl in record {
      content = c.read.ensures.content;
      reads = c.read.ensures.faults;
      writes = c.read.ensures.write_faults;
      cause = λ stopped. absurd (none.0 stopped);
      kept = λ _. c.read.ensures.only (λ failed. cc);
      never = none.1;
    }

pub returns-in-NoMemory-clause-reads : goal.returns-in-NoMemory-clause-reads
returns-in-NoMemory-clause-reads g c = record {
  content = c.read.ensures.content;
  reads = c.read.ensures.faults;
  writes = c.read.ensures.write_faults;
  cause = λ stopped. absurd stopped;
  kept = λ _. c.read.ensures.only (λ failed. cc);
  never = λ stopped. stopped;
}
