use Rattle.std.proofs.Common.{refl, arith}
use Rattle.sx_outside.proofs.memory_shelf.MemShelfShelf.read.Goals as goal

pub returns-then-call-clause-faults : goal.returns-then-call-clause-faults
returns-then-call-clause-faults c = omega arith

pub returns-then-call-clause-cause : goal.returns-then-call-clause-cause
returns-then-call-clause-cause c = λ _ below. omega arith

pub returns-then-call-clause-reads : goal.returns-then-call-clause-reads
returns-then-call-clause-reads c = record {
  calls = c.call.ensures.calls;
  fails = (λ _. c.call.ensures.fails.0 c.if-call.true, λ _. refl);
  counts = record { counted = λ _. c.next-self.ensures; kept = λ differs. absurd (differs refl) };
}
