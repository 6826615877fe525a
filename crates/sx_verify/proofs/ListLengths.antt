-- How many entries a list has.
use Rattle.std.proofs.Common.{ℕ, ◌≤◌, List, length, ap, arith}
use Rattle.std.proofs.lemmas.List.{length-map}
use Rattle.sx_lines.specs.Lines.{lines_from, line_texts}
use Rattle.sx_rules.specs.declared.entry.Entry.{Entry as EntryOf}
use Rattle.sx_rules.specs.ListText.{entry_line, StatesList}
use Rattle.sx_verify.proofs.ShortTexts.{lines_few}

-- a list has no more entries than its text has bytes
pub few_entries : (names : List (List ℕ)) (bytes : List ℕ) (list : List EntryOf) →
    StatesList names (line_texts (lines_from 1 bytes)) list → length list ≤ length bytes
few_entries names bytes list states =
    let l = lines_few 1 bytes in
    let m = ap length states.spelled in
    let n = length-map list (entry_line names) in
    omega arith
