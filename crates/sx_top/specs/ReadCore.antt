-- The file of a core problem, and the step that reads it.
use Rattle.std.specs.Prelude.{ℕ, List, ◌++◌, map, Result, codes}
use Rattle.sx_outside.specs.Files.{Files}
use Rattle.sx_core.specs.Problem.{Problem}
use Rattle.sx_core.specs.CoreRead.{IsCoreAnswer}
use Rattle.sx_steps.specs.declared.stop.Stop.{Stop}
use Rattle.sx_steps.specs.Steps.{Then}
use Rattle.sx_steps.specs.Lower.{Lower}
use Rattle.sx_top.specs.LowerStops.{core_stop}
use Rattle.sx_steps.specs.Held.{Held}
use Rattle.sx_term.specs.Limits.{most_bytes}

-- the file of a core problem
abbrev pub core_file : List ℕ → List ℕ
core_file name = name ++ codes ".core"

-- the names of a problem's rules
abbrev pub problem_rule_names : Problem → List (List ℕ)
problem_rule_names problem = map (λ r. r.name) problem.rules

-- the bytes of the file, and then the problem that they state
abbrev pub ReadsCore : List ℕ → Files → Result Problem Stop → Type 0
ReadsCore file files = Then (Held most_bytes file files)
    (λ bytes. Lower (core_stop file) (IsCoreAnswer bytes))
