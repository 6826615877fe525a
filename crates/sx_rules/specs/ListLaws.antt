-- The law of derivation lists as texts.
use Rattle.std.specs.Prelude.{◌≡◌, ℕ, List, Ok}
use Rattle.std.specs.List.{AllByRecursion}
use Rattle.sx_lines.specs.Lines.{lines_from}
use Rattle.sx_lines.specs.Reading.{written}
use Rattle.sx_rules.specs.declared.entry.Entry.{Entry}
use Rattle.sx_rules.specs.RuleNames.{AreNamesDistinct, AreNames}
use Rattle.sx_rules.specs.ListText.{IsEntry, list_lines, list_of}

-- what was written is read again as the same list
abbrev pub WrittenListIsRead : Type 0
WrittenListIsRead =
    (names : List (List ℕ)) (list : List Entry) → AreNames names → AreNamesDistinct names →
    AllByRecursion (IsEntry names) list →
    list_of names (lines_from 1 (written (list_lines names list))) ≡ Ok list
