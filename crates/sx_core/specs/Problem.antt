-- What a core file states, as plain data.
use Rattle.std.specs.Prelude.{ℕ, List}
use Rattle.sx_term.specs.Sorts.{Shape}
use Rattle.sx_rules.specs.Modes.{Goal}
use Rattle.sx_rules.specs.Views.{FormData, NamedRule, goal}
use Rattle.sx_rules.specs.Sets.{shapes_in, forms_in, rules_in}
use Rattle.sx_core.specs.declared.problem.CoreProblem.{CoreProblem}

-- a core problem: the names of its sorts and constructors, the shapes of its constructors, its
-- forms, its rules and its goal
pub record Problem : Type 0 where
  pub sorts : List (List ℕ)
  pub cons : List (List ℕ)
  pub shapes : List Shape
  pub forms : List FormData
  pub rules : List NamedRule
  pub goal : Goal

-- a core problem as plain data
abbrev pub problem : CoreProblem → Problem
problem p = record {
  sorts = p.sorts.items;
  cons = p.cons.items;
  shapes = shapes_in p.rules;
  forms = forms_in p.rules;
  rules = rules_in p.rules;
  goal = goal p.goal;
}
