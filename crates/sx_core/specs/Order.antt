-- Which line may follow which.
use Rattle.std.specs.Prelude.{◌≡◌, List, ◌++◌, Option, Some, None}
use Rattle.sx_core.specs.File.{CoreFile}
use Rattle.sx_core.specs.Table.{Row, rows_of}
use Rattle.sx_core.specs.declared.stage.Stage.{Stage}
use Rattle.sx_core.specs.declared.stage.Stage.TheVariants.{Start, Declaring, Between, Premising}
use Rattle.sx_core.specs.declared.stage.Stage.TheVariants.{Concluded, Over}
use Rattle.sx_core.specs.declared.keyword.Keyword.{Keyword}
use Rattle.sx_core.specs.declared.keyword.Keyword.TheVariants.{Head, Sort, Con, Form, Rule, If, Not}
use Rattle.sx_core.specs.declared.keyword.Keyword.TheVariants.{Then, End, Goal}

-- the rows stand in order: they are the front of the rows of some file
abbrev pub AreRowsInOrder : List Row → Type 0
AreRowsInOrder before = (file : CoreFile) × (rest : List Row) × (rows_of file ≡ before ++ rest)

-- what has been read
pub data Phase : Type 0 where
  at_start : Phase
  at_declarations : Phase
  at_rules : Phase
  at_premises : Phase
  at_conclusion : Phase
  at_end : Phase

abbrev pub phase_of : Stage → Phase
phase_of Start = at_start
phase_of Declaring = at_declarations
phase_of Between = at_rules
phase_of (Premising o) = at_premises
phase_of (Concluded o judgement) = at_conclusion
phase_of (Over goal) = at_end

-- what has been read with one more line that begins with this word, where it may stand there
abbrev pub step : Phase → Keyword → Option Phase
step at_start Head = Some at_declarations
step at_declarations Sort = Some at_declarations
step at_declarations Con = Some at_declarations
step at_declarations Form = Some at_declarations
step at_declarations Rule = Some at_premises
step at_declarations Goal = Some at_end
step at_rules Rule = Some at_premises
step at_rules Goal = Some at_end
step at_premises If = Some at_premises
step at_premises Not = Some at_premises
step at_premises Then = Some at_conclusion
step at_conclusion End = Some at_rules
step _ _ = None
