-- The steps that read and replay a derivation list, and their stops.
use Rattle.std.specs.Prelude.{◌≡◌, ℕ, List, Option, Some, None, Result, Ok, Err}
use Rattle.sx_outside.specs.Files.{Files}
use Rattle.sx_lines.specs.Lines.{lines_from, line_texts}
use Rattle.sx_rules.specs.declared.entry.Entry.{Entry}
use Rattle.sx_rules.specs.ListText.{StatesList}
use Rattle.sx_rules.specs.BadLine.{IsFirstMisread}
use Rattle.sx_replay.specs.declared.replay_error.ReplayError.{ReplayError}
use Rattle.sx_replay.specs.declared.replay_error.ReplayError.TheVariants as replay_error
use Rattle.sx_words.specs.declared.position.Position.TheVariants.{Line}
use Rattle.sx_words.specs.declared.file_defect.FileDefect.TheVariants as file_defect
use Rattle.sx_words.specs.declared.list_defect.ListDefect.{ListDefect}
use Rattle.sx_words.specs.declared.list_defect.ListDefect.TheVariants as list_defect
use Rattle.sx_words.specs.declared.refusal.Defect.TheVariants as defect
use Rattle.sx_steps.specs.declared.stop.Stop.{Stop}
use Rattle.sx_steps.specs.Held.{Held, most_list_bytes}
use Rattle.sx_steps.specs.Refusal.{about}
use Rattle.sx_steps.specs.Steps.{Then}
use Rattle.sx_steps.specs.Stops.{defect_at, too_deep, too_big}

-- ---- stops

-- the first line of a derivation list that is not as defined
abbrev pub bad_entry : List ℕ → ℕ → Stop
bad_entry file line = defect_at (Line line) file (defect.File file_defect.BadList)

-- the list fits no derivation
abbrev pub unfit_list : List ℕ → ListDefect → Stop
unfit_list file what = about file (defect.List what)

-- the stop of a list's refusal; out of memory has none
abbrev pub replay_stop : List ℕ → ReplayError → Option Stop
replay_stop file replay_error.Memory = None
replay_stop file (replay_error.WrongAt entry) = Some (unfit_list file (list_defect.WrongAt entry))
replay_stop file replay_error.EndsEarly = Some (unfit_list file list_defect.EndsEarly)
replay_stop file (replay_error.LongList entry) = Some (unfit_list file (list_defect.LongList entry))
replay_stop file (replay_error.TooDeep depth) = Some (too_deep file depth)
replay_stop file (replay_error.TooBig size) = Some (too_big file size)
replay_stop file (replay_error.DeepList entry) = Some (unfit_list file (list_defect.DeepList entry))

-- ---- the list in a file

-- the list that the bytes state, by rules with these names, or the first line that is not as
-- defined
abbrev pub StatesEntries : List ℕ → List (List ℕ) → List ℕ → Result (List Entry) Stop → Type 0
StatesEntries file names bytes (Ok list) = StatesList names (line_texts (lines_from 1 bytes)) list
StatesEntries file names bytes (Err stop) =
    (line : ℕ) × IsFirstMisread (StatesList names) (line_texts (lines_from 1 bytes)) line ×
    (stop ≡ bad_entry file line)

-- the list in the file
abbrev pub ReadsEntries : List ℕ → List (List ℕ) → Files → Result (List Entry) Stop → Type 0
ReadsEntries file names files = Then (Held most_list_bytes file files) (StatesEntries file names)
