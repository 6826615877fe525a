use Rattle.sx_steps.specs.Work.{plan_of}
use Rattle.sx_top.proofs.Endings.{ends_performed, ends_told, promise_kept, read_cause, write_cause, write_forces, send_forces, read_forces, is_complete}
use Rattle.sx_top.proofs.call.run.Goals as goal

pub returns-in-Ok-clause-ends : goal.returns-in-Ok-clause-ends
returns-in-Ok-clause-ends g c =
    ends_performed _ (plan_of c.in-Ok.work) c.perform-status.result _ _ _ _ _ _ _ _ _ _ _ _ _ _ _ c.in-Ok.ensures.reads.content (c.in-Ok.ensures.reads.kept (λ fault. fault)) c.in-Ok.ensures.reads.writes c.in-Ok.ensures.outcome c.perform-status.ensures

pub returns-in-Ok-clause-promise : goal.returns-in-Ok-clause-promise
returns-in-Ok-clause-promise g c = promise_kept _ _ _ _ _ _ (returns-in-Ok-clause-ends g c)

pub returns-in-Ok-clause-read_fault : goal.returns-in-Ok-clause-read_fault
returns-in-Ok-clause-read_fault g c = read_cause _ _ _ _ _ _ (returns-in-Ok-clause-ends g c)

pub returns-in-Ok-clause-write_fault : goal.returns-in-Ok-clause-write_fault
returns-in-Ok-clause-write_fault g c = write_cause _ _ _ _ _ _ (returns-in-Ok-clause-ends g c)

pub returns-in-Ok-clause-failed_write : goal.returns-in-Ok-clause-failed_write
returns-in-Ok-clause-failed_write g c = write_forces _ _ _ _ _ _ (returns-in-Ok-clause-ends g c)

pub returns-in-Ok-clause-failed_send : goal.returns-in-Ok-clause-failed_send
returns-in-Ok-clause-failed_send g c = send_forces _ _ _ _ _ _ (returns-in-Ok-clause-ends g c)

pub returns-in-Ok-clause-failed_read : goal.returns-in-Ok-clause-failed_read
returns-in-Ok-clause-failed_read g c = read_forces _ _ _ _ _ _ (returns-in-Ok-clause-ends g c)

pub returns-in-Ok-clause-complete : goal.returns-in-Ok-clause-complete
returns-in-Ok-clause-complete g c = λ files. is_complete _ _ _ _ _ _ files (returns-in-Ok-clause-ends g c)

pub returns-in-Err-clause-ends : goal.returns-in-Err-clause-ends
returns-in-Err-clause-ends g c = ends_told _ c.in-Err.error c.tell-status.result _ _ _ _ _ _ _ _ _ _ _ _ c.in-Err.ensures.reads c.in-Err.ensures.outcome c.tell-status.ensures

pub returns-in-Err-clause-promise : goal.returns-in-Err-clause-promise
returns-in-Err-clause-promise g c = promise_kept _ _ _ _ _ _ (returns-in-Err-clause-ends g c)

pub returns-in-Err-clause-read_fault : goal.returns-in-Err-clause-read_fault
returns-in-Err-clause-read_fault g c = read_cause _ _ _ _ _ _ (returns-in-Err-clause-ends g c)

pub returns-in-Err-clause-write_fault : goal.returns-in-Err-clause-write_fault
returns-in-Err-clause-write_fault g c = write_cause _ _ _ _ _ _ (returns-in-Err-clause-ends g c)

pub returns-in-Err-clause-failed_write : goal.returns-in-Err-clause-failed_write
returns-in-Err-clause-failed_write g c = write_forces _ _ _ _ _ _ (returns-in-Err-clause-ends g c)

pub returns-in-Err-clause-failed_send : goal.returns-in-Err-clause-failed_send
returns-in-Err-clause-failed_send g c = send_forces _ _ _ _ _ _ (returns-in-Err-clause-ends g c)

pub returns-in-Err-clause-failed_read : goal.returns-in-Err-clause-failed_read
returns-in-Err-clause-failed_read g c = read_forces _ _ _ _ _ _ (returns-in-Err-clause-ends g c)

pub returns-in-Err-clause-complete : goal.returns-in-Err-clause-complete
returns-in-Err-clause-complete g c = λ files. is_complete _ _ _ _ _ _ files (returns-in-Err-clause-ends g c)
