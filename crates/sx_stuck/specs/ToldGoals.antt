-- Stuck goals that can be told.
use Rattle.std.specs.Prelude.{◌≡◌, ◌≤◌, List, length, map}
use Rattle.sx_term.specs.declared.sort.Sort.{Sort}
use Rattle.sx_grammar.specs.Made.{IsGrammar}
use Rattle.sx_grammar.specs.Parts.{Parts}
use Rattle.sx_grammar.specs.Told.{shapes_of}
use Rattle.sx_derive.specs.BlameTerms.{BlameIsShallow}
use Rattle.sx_derive.specs.Stuck.{Blame}
use Rattle.sx_directives.specs.declared.rows.FormLine.{FormLine}
use Rattle.sx_notation.specs.RuleLaws.{form_of, HaveSortsOf}
use Rattle.sx_notation.specs.RuleParts.{rule_parts}
use Rattle.sx_stuck.specs.StuckGoals.{IsSortedBlame}
use Rattle.sx_stuck.specs.StuckText.{Telling, CanTell}

-- the grammar by which rules are read has the productions of a grammar and then those of some form
-- lines, and the forms are those of these lines
pub record IsReadBy (p : Parts) (t : Telling) : Type 0 where
  pub lines : List FormLine
  pub known : HaveSortsOf p lines
  pub read_by : t.parts ≡ rule_parts p lines
  pub forms : t.forms ≡ map (form_of p) lines

-- what is well sorted by the grammar, and no deeper than 1,000, can be told, where each variable
-- has a name
abbrev pub SortedBlamesCanBeTold : Type 0
SortedBlamesCanBeTold =
    (p : Parts) (t : Telling) (vars : List Sort) (blame : Blame) →
    IsGrammar p → IsReadBy p t → length vars ≤ length t.names →
    IsSortedBlame (shapes_of p) t.forms vars blame → BlameIsShallow blame → CanTell t blame
