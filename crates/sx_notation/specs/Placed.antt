-- What stands at places, behind references.
use Rattle.std.specs.Prelude.{◌≤◌, List, Option, Some, None, option_map}
use Rattle.std.specs.Borrow.{Bor}
use Rattle.std.specs.List.{AllByRecursion}
use Rattle.sx_term.specs.declared.term.Term.{Term}
use Rattle.sx_term.specs.Tree.{Tree, depth_of}
use Rattle.sx_term.specs.Term.{tree}
use Rattle.sx_grammar.specs.Grammar.{Grammar}
use Rattle.sx_print.specs.Printed.{HasProductions}
use Rattle.std.specs.Prelude.{ℕ}
use Rattle.sx_term.specs.Limits.{most_depth}

-- the term, if there is one
abbrev pub shown_term : Option (Bor Term) → Option Tree
shown_term content = option_map (λ r. tree r.now) content

-- the term, if there is one, is at most 1,000 deep and built by the grammar
abbrev pub IsPuttable : Grammar → ℕ → Option Tree → Type 0
IsPuttable g variables None = Unit {0}
IsPuttable g variables (Some t) = (depth_of t ≤ most_depth) × HasProductions g variables t

-- so it is of each
abbrev pub ArePuttable : Grammar → ℕ → List (Option Tree) → Type 0
ArePuttable g variables contents = AllByRecursion (IsPuttable g variables) contents
