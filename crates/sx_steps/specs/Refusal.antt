-- Why a command ends early, and what it then answers: its status and its line.
use Rattle.std.specs.Prelude.{ℕ, List, codes}
use Rattle.sx_words.specs.Lines.{line_text}
use Rattle.sx_words.specs.RefusalText.{refusal_text}
use Rattle.sx_words.specs.declared.position.Position.TheVariants.{Nowhere}
use Rattle.sx_words.specs.declared.file_defect.FileDefect.{FileDefect}
use Rattle.sx_words.specs.declared.file_defect.FileDefect.TheVariants as file_defect
use Rattle.sx_words.specs.declared.refusal.Defect.{Defect}
use Rattle.sx_words.specs.declared.refusal.Defect.TheVariants as defect
use Rattle.sx_steps.specs.declared.stop.Stop.{Stop}
use Rattle.sx_steps.specs.declared.status.Status.{Status}
use Rattle.sx_steps.specs.declared.status.Status.TheVariants as statuses

-- ---- stops

-- a defect of a file, of which the line says no place
abbrev pub about : List ℕ → Defect → Stop
about file what = record { file = file; refusal = record { place = Nowhere; defect = what } }

-- the first word that does not fit
abbrev pub bad_word : ℕ → Stop
bad_word place = about (codes "words") (defect.File (file_defect.Word place))

-- there is no such file
abbrev pub absent : List ℕ → Stop
absent file = about file (defect.File file_defect.Absent)

-- reading the file failed
abbrev pub read_fault : List ℕ → Stop
read_fault file = about file (defect.File file_defect.ReadFault)

-- writing the file failed
abbrev pub write_fault : List ℕ → Stop
write_fault file = about file (defect.File file_defect.WriteFault)

-- ---- what a stop answers

-- the status of a defect of the words or of a whole file
abbrev pub file_status : FileDefect → Status
file_status (file_defect.Word place) = statuses.Words
file_status file_defect.ReadFault = statuses.ReadFault
file_status file_defect.WriteFault = statuses.WriteFault
file_status file_defect.Absent = statuses.Refused
file_status file_defect.TooLong = statuses.Refused
file_status (file_defect.NotUtf8 place) = statuses.Refused
file_status (file_defect.Notation kind) = statuses.Refused
file_status file_defect.Header = statuses.Refused
file_status (file_defect.Version number) = statuses.Refused
file_status file_defect.BadList = statuses.Refused

-- the status of a defect
abbrev pub defect_status : Defect → Status
defect_status (defect.File what) = file_status what
defect_status (defect.Budget what) = statuses.Spent
defect_status (defect.Text what) = statuses.Refused
defect_status (defect.Grammar what) = statuses.Refused
defect_status (defect.Rule what) = statuses.Refused
defect_status (defect.Extension what) = statuses.Refused
defect_status (defect.Goal what) = statuses.Refused
defect_status (defect.Print part what) = statuses.Refused
defect_status (defect.Captured word) = statuses.Refused
defect_status (defect.Closure what) = statuses.Refused
defect_status (defect.List what) = statuses.Refused
defect_status (defect.Objected auditor node rule) = statuses.Refused

-- the status of a stop
abbrev pub status_of : Stop → Status
status_of stop = defect_status stop.refusal.defect

-- its line
abbrev pub line_of : Stop → List ℕ
line_of stop = line_text stop.file (refusal_text stop.refusal)
