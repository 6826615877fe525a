-- Entries of lists by their numbers.
use Rattle.std.specs.Prelude.{◌≡◌, ℕ, ◌-◌, ◌<◌, ◌≤◌, List, length, Some, slice_get}
use Rattle.sx_rules.specs.Orders.{Entry, of_rule}
use Rattle.sx_rules.specs.Views.{NamedRule}

-- the entry with this number, counted from 1, is this rule
pub record IsRuleAt (rules : List NamedRule) (list : List Entry) (number rule : ℕ) : Type 0 where
  pub first : 1 ≤ number
  pub entry : slice_get list (number - 1) ≡ Some (of_rule rule)
  pub known : rule < length rules
