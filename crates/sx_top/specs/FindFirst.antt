-- The first derivation of a core problem's goal.
use Rattle.std.specs.Prelude.{List, map, None}
use Rattle.sx_rules.specs.Rules.{Rule, no_hypotheses}
use Rattle.sx_rules.specs.Views.{modes_of}
use Rattle.sx_rules.specs.First.{Answer, IsFirst}
use Rattle.sx_core.specs.Problem.{Problem}

-- the rules of a problem without their names
abbrev pub problem_rules : Problem → List Rule
problem_rules problem = map (λ r. r.rule) problem.rules

-- the first derivation of the problem's goal by its rules, with the outputs that it gives
abbrev pub IsFirstOf : Problem → Answer → Type 0
IsFirstOf problem answer =
    IsFirst (modes_of problem.forms) (problem_rules problem) no_hypotheses problem.goal None answer
