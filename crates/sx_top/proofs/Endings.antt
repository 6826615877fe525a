-- How a run ends, by its course.
use Rattle.std.proofs.Common.{◌≡◌, ℕ, ◌<◌, true, false, List, refl, sym, ap, ◌∙◌, subst, inl, inr, ◌⊎◌, arith}
use Rattle.std.specs.Prelude.{Result, Ok, Err, Option, Some}
use Rattle.sx_words.specs.Commands.{Meant, builds, compiles, checks, verifies, samples}
use Rattle.sx_words.specs.declared.file_defect.FileDefect.{FileDefect}
use Rattle.sx_words.specs.declared.file_defect.FileDefect.TheVariants as file_defect
use Rattle.sx_words.specs.declared.refusal.Defect.{Defect}
use Rattle.sx_words.specs.declared.refusal.Defect.TheVariants as defect
use Rattle.sx_words.proofs.CommandLaws.{one_command}
use Rattle.sx_outside.specs.Files.{Files, after_writes}
use Rattle.sx_outside.specs.Faults.{Rose}
use Rattle.sx_outside.specs.Told.{Told, WhereTold}
use Rattle.sx_outside.specs.declared.answer.WriteAnswer.{WriteAnswer}
use Rattle.sx_outside.specs.declared.answer.WriteAnswer.TheVariants as write
use Rattle.sx_steps.specs.Work.{Plan, plan_of}
use Rattle.sx_steps.specs.Stop.{OnlyReads, Does}
use Rattle.sx_audit.specs.Meaning.{Meaning}
use Rattle.sx_top.specs.Calls.{Call}
use Rattle.sx_words.specs.Commands.{SpellsCommand}
use Rattle.sx_top.specs.Course.{Seen, seen, Course, lacking, stopped, short, failed, written}
use Rattle.sx_top.specs.Course.{answered, status_after, HoldsOfSteps, Leaves}
use Rattle.sx_top.specs.Outcome.{budgets_of, NamesFor, RunOutcome, Runs, Promises}
use Rattle.sx_top.specs.Performing.{Performs}
use Rattle.sx_top.specs.Telling.{IsStopTold}
use Rattle.sx_steps.specs.declared.stop.Stop.{Stop}
use Rattle.sx_steps.specs.Refusal.{file_status, defect_status, status_of}
use Rattle.sx_top.specs.Ending.{StepsComeTo, Ends, KeepsPromise, IsAfterRead, HasNoDefect}
use Rattle.sx_top.specs.Ending.{IsDoneOrShort}
use Rattle.sx_steps.specs.declared.status.Status.{Status}
use Rattle.sx_steps.specs.declared.status.Status.TheVariants as statuses
use Rattle.sx_steps.specs.declared.step_error.StepError.{StepError}
use Rattle.sx_steps.specs.declared.step_error.StepError.TheVariants as errors
use Rattle.sx_steps.specs.declared.work.Work.{Work}
use Rattle.sx_steps.proofs.StepsOn.{went_on}
use Rattle.sx_build.proofs.Promise.{builds_keep_promise}
use Rattle.sx_compile.proofs.Promise.{compiles_keep_promise}
use Rattle.sx_sampling.proofs.Promise.{samples_keep_promise}
use Rattle.sx_verify.proofs.Promise.{verify_promise as verify_module_promise}
use Rattle.sx_check.proofs.Promise.{check_promise}
use Rattle.sx_top.proofs.BuildPromise.{build_promise}
use Rattle.sx_top.proofs.VerifyPromise.{verify_promise}
use Rattle.sx_top.proofs.VerifySteps.{replayed_derives}
use Rattle.sx_top.proofs.Writes.{told_same, told_goes}

-- ---- runs with a plan, and without one

begins_with : (Holds : Result Plan StepError → Type 0) (result : Result Plan StepError) (course : Course) → HoldsOfSteps (λ other. other ≡ result) course → Holds result → HoldsOfSteps Holds course
begins_with Holds result lacking begins holds = subst Holds (sym begins) holds
begins_with Holds result (stopped stop answer) begins holds = subst Holds (sym begins) holds
begins_with Holds result (short plan number) begins holds = subst Holds (sym begins) holds
begins_with Holds result (failed plan number answer) begins holds = subst Holds (sym begins) holds
begins_with Holds result (written plan answer) begins holds = subst Holds (sym begins) holds

-- a run that had a plan, after reads that did not fail
pub ends_performed : (given : Call) (plan : Plan) (status : Status) (files between files' : Option Files) (bytes bytes' : Option (List ℕ)) (reads read reads' writes wrote writes' sends sends' before after : ℕ) →
    between ≡ files → read ≡ reads → wrote ≡ writes → StepsComeTo given files before after (Ok plan) → Performs plan status (seen between bytes read wrote sends) (seen files' bytes' reads' writes' sends') →
    Ends given status (seen files bytes reads writes sends) (seen files' bytes' reads' writes' sends') before after
ends_performed given plan status files between files' bytes bytes' reads read reads' writes wrote writes' sends sends' before after same still kept comes performs = record {
  course = performs.course;
  is = performs.is;
  begins = begins_with (StepsComeTo given files before after) (Ok plan) performs.course performs.begins comes;
  leaves =
      let old : seen between bytes read wrote sends ≡ seen files bytes reads writes sends = λ i. seen (same i) bytes (still i) (kept i) sends in
      subst (λ (s : Seen). Leaves performs.course s (seen files' bytes' reads' writes' sends')) old performs.leaves;
}

-- a run that had none
pub ends_told : (given : Call) (e : StepError) (status : Status) (files files' : Option Files) (bytes bytes' : Option (List ℕ)) (reads reads' writes writes' sends sends' before after : ℕ) →
    OnlyReads {X = Work} files files' reads reads' writes writes' (Err e) → WhereTold files (λ held. Does plan_of (RunOutcome given held) (Err e) before after) → IsStopTold e status bytes bytes' sends sends' →
    Ends given status (seen files bytes reads writes sends) (seen files' bytes' reads' writes' sends') before after
ends_told given errors.Memory status files files' bytes bytes' reads reads' writes writes' sends sends' before after so outcome told = record {
  course = lacking;
  is = sym told.0;
  begins = outcome;
  leaves = λ i. seen (so.content i) (told.1 i) (so.kept (λ fault. fault) i) (so.writes i) (told.2 i);
}
ends_told given (errors.Stopped stop) status files files' bytes bytes' reads reads' writes writes' sends sends' before after so outcome told = record {
  course = stopped stop told.0;
  is = told.1;
  begins = outcome;
  leaves = record { files = so.content; reads = record { least = so.reads; rose = so.cause; kept = so.kept }; writes = so.writes; never = so.never; line = told.2 };
}

-- ---- stops

-- a stop may have this status
IsOfStop : Status → Type 0
IsOfStop statuses.Done = ⊥
IsOfStop statuses.NoMemory = ⊥
IsOfStop statuses.Refused = Unit {0}
IsOfStop statuses.Words = Unit {0}
IsOfStop statuses.ReadFault = Unit {0}
IsOfStop statuses.WriteFault = Unit {0}
IsOfStop statuses.Spent = Unit {0}

file_of_stop : (what : FileDefect) → IsOfStop (file_status what)
unfolding IsOfStop
file_of_stop (file_defect.Word place) = tt
file_of_stop file_defect.Absent = tt
file_of_stop file_defect.TooLong = tt
file_of_stop file_defect.ReadFault = tt
file_of_stop file_defect.WriteFault = tt
file_of_stop (file_defect.NotUtf8 place) = tt
file_of_stop (file_defect.Notation kind) = tt
file_of_stop file_defect.Header = tt
file_of_stop (file_defect.Version number) = tt
file_of_stop file_defect.BadList = tt

defect_of_stop : (what : Defect) → IsOfStop (defect_status what)
unfolding IsOfStop
defect_of_stop (defect.File what) = file_of_stop what
defect_of_stop (defect.Text what) = tt
defect_of_stop (defect.Grammar what) = tt
defect_of_stop (defect.Rule what) = tt
defect_of_stop (defect.Extension what) = tt
defect_of_stop (defect.Goal what) = tt
defect_of_stop (defect.Budget what) = tt
defect_of_stop (defect.Print part what) = tt
defect_of_stop (defect.Captured word) = tt
defect_of_stop (defect.Closure what) = tt
defect_of_stop (defect.List what) = tt
defect_of_stop (defect.Objected auditor node rule) = tt

-- a stop never ends as done
answered_done : (stop : Stop) (answer : WriteAnswer) → answered (status_of stop) answer ≡ statuses.Done → ⊥
unfolding IsOfStop
answered_done stop write.Done is = subst IsOfStop is (defect_of_stop stop.refusal.defect)
answered_done stop write.Failed is = cc
answered_done stop write.NoMemory is = cc

-- ---- promises

-- each command keeps its promise
kept : (command : Meant) (named : List Meaning) (plan : Plan) (old new : Files) (made : ℕ) →
    Runs command named old (Ok plan) made → new ≡ after_writes plan.files old →
    Promises command named old new plan.lines
kept (builds true name tries nodes audits) named plan old new made runs is =
    build_promise name tries old new plan made runs is
kept (builds false name tries nodes audits) named plan old new made runs is =
    builds_keep_promise name (budgets_of tries nodes) named old new plan made runs is
kept (compiles name tries nodes audits) named plan old new made runs is =
    compiles_keep_promise name (budgets_of tries nodes) named old new plan made runs is
kept (checks name tries nodes) named plan old new made runs is =
    check_promise name (budgets_of tries nodes) old new plan made runs is
kept (verifies true name) named plan old new made runs is =
    verify_promise replayed_derives name old new plan runs.0 is
kept (verifies false name) named plan old new made runs is =
    verify_module_promise name old new plan runs.0 is
kept (samples number) named plan old new made runs is =
    samples_keep_promise number old new plan made runs is

kept_by : (given : Call) (plan : Plan) (old new : Files) (tries : ℕ) →
    RunOutcome given old (Ok plan) tries → new ≡ after_writes plan.files old → (command : Meant) →
    SpellsCommand given.words command → (named : List Meaning) ×
    NamesFor given.auditors command (Ok named) × Promises command named old new plan.lines
unfolding RunOutcome
kept_by given plan old new tries outcome is command read =
    let steps = went_on _ _ _ tries outcome in
    let runs = went_on _ _ _ steps.after steps.goes in
    let same = one_command given.words steps.given command steps.begins.0 read in
    subst (λ (k : Meant). (named : List Meaning) × NamesFor given.auditors k (Ok named) ×
    Promises k named old new plan.lines) same
    (runs.given, runs.begins.0, kept steps.given runs.given plan old new runs.after runs.goes is)

-- files that are told stay told
stays : (course : Course) (old new : Seen) → Leaves course old new → Told (λ before now. Unit {0}) old.files new.files
stays lacking old new leaves = told_same (λ before now. Unit {0}) old.files new.files (ap (λ (s : Seen). s.files) leaves) (λ held. tt)
stays (stopped stop answer) old new leaves = told_same (λ before now. Unit {0}) old.files new.files leaves.files (λ held. tt)
stays (short plan number) old new leaves = told_goes _ _ old.files new.files leaves.files (λ before now told is. tt)
stays (failed plan number answer) old new leaves = told_goes _ _ old.files new.files leaves.files (λ before now told is. tt)
stays (written plan answer) old new leaves = told_goes _ _ old.files new.files leaves.files (λ before now told is. tt)

no_promise : (given : Call) (course : Course) (status : Status) (old new : Seen) → Leaves course old new → (status ≡ statuses.Done → ⊥) → Told (KeepsPromise given status old.bytes new.bytes) old.files new.files
no_promise given course status old new leaves never = told_goes _ _ old.files new.files (stays course old new leaves) (λ before now told is done. absurd (never done))

promise_by : (given : Call) (course : Course) (status : Status) (old new : Seen) (first last : ℕ) → status_after course ≡ status → HoldsOfSteps (StepsComeTo given old.files first last) course → Leaves course old new → Told (KeepsPromise given status old.bytes new.bytes) old.files new.files
promise_by given lacking status old new first last is begins leaves = no_promise given lacking status old new leaves (λ done. let at : statuses.NoMemory ≡ statuses.Done = is ∙ done in cc)
promise_by given (stopped stop answer) status old new first last is begins leaves = no_promise given (stopped stop answer) status old new leaves (λ done. answered_done stop answer (is ∙ done))
promise_by given (short plan number) status old new first last is begins leaves = no_promise given (short plan number) status old new leaves (λ done. let at : statuses.NoMemory ≡ statuses.Done = is ∙ done in cc)
promise_by given (failed plan number answer) status old new first last is begins leaves = no_promise given (failed plan number answer) status old new leaves (λ done. let at : statuses.WriteFault ≡ statuses.Done = is ∙ done in cc)
promise_by given (written plan write.Done) status old new first last is begins leaves =
    told_goes _ _ old.files new.files leaves.files (λ before now told wrote done command spelled. let b = begins before told in let k = kept_by given plan before now b.0 b.1 wrote command spelled in (k.0, plan.lines, k.1, k.2, leaves.lines.bytes))
promise_by given (written plan write.Failed) status old new first last is begins leaves = no_promise given (written plan write.Failed) status old new leaves (λ done. let at : statuses.WriteFault ≡ statuses.Done = is ∙ done in cc)
promise_by given (written plan write.NoMemory) status old new first last is begins leaves = no_promise given (written plan write.NoMemory) status old new leaves (λ done. let at : statuses.NoMemory ≡ statuses.Done = is ∙ done in cc)

pub promise_kept : (given : Call) (status : Status) (old new : Seen) (first last : ℕ) → Ends given status old new first last → Told (KeepsPromise given status old.bytes new.bytes) old.files new.files
promise_kept given status old new first last ends = promise_by given ends.course status old new first last ends.is ends.begins ends.leaves

-- ---- faults

read_by : (course : Course) (status : Status) (old new : Seen) → status_after course ≡ status → Leaves course old new → status ≡ statuses.ReadFault → Rose old.reads new.reads
read_by lacking status old new is leaves fault = let at : statuses.NoMemory ≡ statuses.ReadFault = is ∙ fault in absurd cc
read_by (stopped stop write.Done) status old new is leaves fault = leaves.reads.rose (is ∙ fault)
read_by (stopped stop write.Failed) status old new is leaves fault = let at : statuses.WriteFault ≡ statuses.ReadFault = is ∙ fault in absurd cc
read_by (stopped stop write.NoMemory) status old new is leaves fault = let at : statuses.NoMemory ≡ statuses.ReadFault = is ∙ fault in absurd cc
read_by (short plan number) status old new is leaves fault = let at : statuses.NoMemory ≡ statuses.ReadFault = is ∙ fault in absurd cc
read_by (failed plan number answer) status old new is leaves fault = let at : statuses.WriteFault ≡ statuses.ReadFault = is ∙ fault in absurd cc
read_by (written plan write.Done) status old new is leaves fault = let at : statuses.Done ≡ statuses.ReadFault = is ∙ fault in absurd cc
read_by (written plan write.Failed) status old new is leaves fault = let at : statuses.WriteFault ≡ statuses.ReadFault = is ∙ fault in absurd cc
read_by (written plan write.NoMemory) status old new is leaves fault = let at : statuses.NoMemory ≡ statuses.ReadFault = is ∙ fault in absurd cc

-- the status of a failed read has its cause
pub read_cause : (given : Call) (status : Status) (old new : Seen) (first last : ℕ) → Ends given status old new first last → status ≡ statuses.ReadFault → Rose old.reads new.reads
read_cause given status old new first last ends fault = read_by ends.course status old new ends.is ends.leaves fault

write_by : (course : Course) (status : Status) (old new : Seen) → status_after course ≡ status → Leaves course old new → status ≡ statuses.WriteFault → Rose old.writes new.writes ⊎ Rose old.sends new.sends
write_by lacking status old new is leaves fault = let at : statuses.NoMemory ≡ statuses.WriteFault = is ∙ fault in absurd cc
write_by (stopped stop write.Done) status old new is leaves fault = absurd (leaves.never (is ∙ fault))
write_by (stopped stop write.Failed) status old new is leaves fault = inr (leaves.line.faults.rose refl)
write_by (stopped stop write.NoMemory) status old new is leaves fault = let at : statuses.NoMemory ≡ statuses.WriteFault = is ∙ fault in absurd cc
write_by (short plan number) status old new is leaves fault = let at : statuses.NoMemory ≡ statuses.WriteFault = is ∙ fault in absurd cc
write_by (failed plan number answer) status old new is leaves fault = inl (leaves.writes.rose tt)
write_by (written plan write.Done) status old new is leaves fault = let at : statuses.Done ≡ statuses.WriteFault = is ∙ fault in absurd cc
write_by (written plan write.Failed) status old new is leaves fault = inr (leaves.lines.faults.rose refl)
write_by (written plan write.NoMemory) status old new is leaves fault = let at : statuses.NoMemory ≡ statuses.WriteFault = is ∙ fault in absurd cc

-- so has that of a failed write
pub write_cause : (given : Call) (status : Status) (old new : Seen) (first last : ℕ) → Ends given status old new first last → status ≡ statuses.WriteFault → Rose old.writes new.writes ⊎ Rose old.sends new.sends
write_cause given status old new first last ends fault = write_by ends.course status old new ends.is ends.leaves fault

-- what stays does not rise
no_rise : {A : Type 0} (before after : ℕ) → before < after → after ≡ before → A
no_rise before after less same = absurd (omega arith)

failed_by : (course : Course) (status : Status) (old new : Seen) → status_after course ≡ status → Leaves course old new → old.writes < new.writes → status ≡ statuses.WriteFault
failed_by lacking status old new is leaves less = no_rise old.writes new.writes less (ap (λ (s : Seen). s.writes) leaves)
failed_by (stopped stop answer) status old new is leaves less = no_rise old.writes new.writes less leaves.writes
failed_by (short plan number) status old new is leaves less = no_rise old.writes new.writes less leaves.writes
failed_by (failed plan number answer) status old new is leaves less = sym is
failed_by (written plan answer) status old new is leaves less = no_rise old.writes new.writes less leaves.writes

-- a failed write of a file gives its status
pub write_forces : (given : Call) (status : Status) (old new : Seen) (first last : ℕ) → Ends given status old new first last → old.writes < new.writes → status ≡ statuses.WriteFault
write_forces given status old new first last ends less = failed_by ends.course status old new ends.is ends.leaves less

sent_by : (course : Course) (status : Status) (old new : Seen) → status_after course ≡ status → Leaves course old new → old.sends < new.sends → status ≡ statuses.WriteFault
sent_by lacking status old new is leaves less = no_rise old.sends new.sends less (ap (λ (s : Seen). s.sends) leaves)
sent_by (stopped stop write.Done) status old new is leaves less = no_rise old.sends new.sends less (leaves.line.faults.kept (λ same. cc))
sent_by (stopped stop write.Failed) status old new is leaves less = sym is
sent_by (stopped stop write.NoMemory) status old new is leaves less = no_rise old.sends new.sends less (leaves.line.faults.kept (λ same. cc))
sent_by (short plan number) status old new is leaves less = no_rise old.sends new.sends less leaves.sends
sent_by (failed plan number answer) status old new is leaves less = sym is
sent_by (written plan write.Done) status old new is leaves less = no_rise old.sends new.sends less (leaves.lines.faults.kept (λ same. cc))
sent_by (written plan write.Failed) status old new is leaves less = sym is
sent_by (written plan write.NoMemory) status old new is leaves less = no_rise old.sends new.sends less (leaves.lines.faults.kept (λ same. cc))

-- so does a failed write on the sink
pub send_forces : (given : Call) (status : Status) (old new : Seen) (first last : ℕ) → Ends given status old new first last → old.sends < new.sends → status ≡ statuses.WriteFault
send_forces given status old new first last ends less = sent_by ends.course status old new ends.is ends.leaves less

is_read : (status : Status) → (status ≡ statuses.ReadFault) ⊎ (status ≡ statuses.ReadFault → ⊥)
is_read statuses.Done = inr (λ same. cc)
is_read statuses.Refused = inr (λ same. cc)
is_read statuses.Words = inr (λ same. cc)
is_read statuses.ReadFault = inl refl
is_read statuses.WriteFault = inr (λ same. cc)
is_read statuses.NoMemory = inr (λ same. cc)
is_read statuses.Spent = inr (λ same. cc)

after_read : (stop : Stop) (answer : WriteAnswer) (status : Status) (sends sends' : ℕ) → answered (status_of stop) answer ≡ status → status_of stop ≡ statuses.ReadFault → (answer ≡ write.Failed → Rose sends sends') → IsAfterRead status sends sends'
after_read stop write.Done status sends sends' is fault rose = inl (sym is ∙ fault)
after_read stop write.Failed status sends sends' is fault rose = inr (inl (sym is, rose refl))
after_read stop write.NoMemory status sends sends' is fault rose = inr (inr (sym is))

reads_by : (course : Course) (status : Status) (old new : Seen) → status_after course ≡ status → Leaves course old new → old.reads < new.reads → IsAfterRead status old.sends new.sends
reads_by lacking status old new is leaves less = no_rise old.reads new.reads less (ap (λ (s : Seen). s.reads) leaves)
reads_by (stopped stop answer) status old new is leaves less =
    elim (is_read (status_of stop)) [
      | inl fault ↦ after_read stop answer status old.sends new.sends is fault leaves.line.faults.rose
      | inr none ↦ no_rise old.reads new.reads less (leaves.reads.kept none)
    ]
reads_by (short plan number) status old new is leaves less = no_rise old.reads new.reads less leaves.reads
reads_by (failed plan number answer) status old new is leaves less = no_rise old.reads new.reads less leaves.reads
reads_by (written plan answer) status old new is leaves less = no_rise old.reads new.reads less leaves.reads

-- a failed read gives its status, where its line was sent
pub read_forces : (given : Call) (status : Status) (old new : Seen) (first last : ℕ) → Ends given status old new first last → old.reads < new.reads → IsAfterRead status old.sends new.sends
read_forces given status old new first last ends less = reads_by ends.course status old new ends.is ends.leaves less

complete_by : (given : Call) (course : Course) (status : Status) (old new : Seen) (first last : ℕ) (files : Files) → status_after course ≡ status → HoldsOfSteps (StepsComeTo given old.files first last) course → Leaves course old new → old.files ≡ Some files → HasNoDefect given files
    → (Rose old.reads new.reads → ⊥) → (Rose old.writes new.writes → ⊥) → (Rose old.sends new.sends → ⊥) → IsDoneOrShort status
complete_by given lacking status old new first last files is begins leaves told none no_read no_write no_send = inr (sym is)
complete_by given (stopped stop answer) status old new first last files is begins leaves told none no_read no_write no_send = absurd (no_read (let b = begins files told in leaves.reads.rose (none stop b.0 b.1)))
complete_by given (short plan number) status old new first last files is begins leaves told none no_read no_write no_send = inr (sym is)
complete_by given (failed plan number answer) status old new first last files is begins leaves told none no_read no_write no_send = absurd (no_write (leaves.writes.rose tt))
complete_by given (written plan write.Done) status old new first last files is begins leaves told none no_read no_write no_send = inl (sym is)
complete_by given (written plan write.Failed) status old new first last files is begins leaves told none no_read no_write no_send = absurd (no_send (leaves.lines.faults.rose refl))
complete_by given (written plan write.NoMemory) status old new first last files is begins leaves told none no_read no_write no_send = inr (sym is)

-- given and files without a defect, and no fault
pub is_complete : (given : Call) (status : Status) (old new : Seen) (first last : ℕ) (files : Files) → Ends given status old new first last → old.files ≡ Some files → HasNoDefect given files
    → (Rose old.reads new.reads → ⊥) → (Rose old.writes new.writes → ⊥) → (Rose old.sends new.sends → ⊥) → IsDoneOrShort status
is_complete given status old new first last files ends told none no_read no_write no_send = complete_by given ends.course status old new first last files ends.is ends.begins ends.leaves told none no_read no_write no_send
