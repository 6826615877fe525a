-- Results that agree, though two readings that they show may not be the same.
use Rattle.std.specs.Prelude.{◌≡◌, Result, Ok, Err}
use Rattle.sx_words.specs.declared.text_defect.TextDefect.TheVariants as text_defect
use Rattle.sx_words.specs.declared.print_defect.PrintDefect.TheVariants as print_defect
use Rattle.sx_words.specs.declared.refusal.Defect.{Defect}
use Rattle.sx_words.specs.declared.refusal.Defect.TheVariants as defect
use Rattle.sx_steps.specs.declared.stop.Stop.{Stop}
use Rattle.sx_steps.specs.declared.status.Status.TheVariants as statuses
use Rattle.sx_steps.specs.declared.step_error.StepError.{StepError}
use Rattle.sx_steps.specs.declared.step_error.StepError.TheVariants as errors
use Rattle.sx_steps.specs.Refusal.{status_of}

-- the result is no read fault
abbrev pub IsNoReadFault : {A : Type 0} → Result A Stop → Type 0
IsNoReadFault (Ok x) = Unit {0}
IsNoReadFault (Err stop) = status_of stop ≡ statuses.ReadFault → ⊥

-- both defects are that a text has more than one reading, of a read text or of the same part that
-- was printed, and show two of them
abbrev pub ShowReadings : Defect → Defect → Type 0
ShowReadings (defect.Text (text_defect.Ambiguous a b)) (defect.Text (text_defect.Ambiguous c d)) =
    Unit {0}
ShowReadings (defect.Print part (print_defect.Ambiguous a b))
    (defect.Print other (print_defect.Ambiguous c d)) = part ≡ other
ShowReadings one other = ⊥

-- both stops show two readings of one text
pub record AreReadings (s t : Stop) : Type 0 where
  pub file : s.file ≡ t.file
  pub place : s.refusal.place ≡ t.refusal.place
  pub shown : ShowReadings s.refusal.defect t.refusal.defect

-- memory was not out, and no read failed
abbrev pub IsSure : {A : Type 0} → Result A StepError → Type 0
IsSure (Ok x) = Unit {0}
IsSure (Err errors.Memory) = ⊥
IsSure (Err (errors.Stopped stop)) = status_of stop ≡ statuses.ReadFault → ⊥

-- both gave the same, or both stopped, with stops that are so related
abbrev pub AnswersBy : {A : Type 0} → (Stop → Stop → Type 0) → Result A StepError →
    Result A StepError → Type 0
AnswersBy Related (Ok x) (Ok y) = x ≡ y
AnswersBy Related (Err (errors.Stopped s)) (Err (errors.Stopped t)) = Related s t
AnswersBy Related x y = ⊥
