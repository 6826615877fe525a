-- What the check of one rule answers.
use Rattle.std.specs.Prelude.{◌≡◌, ◌^◌, ◌<◌, false, List, length, map, option_map, None, Result}
use Rattle.std.specs.Prelude.{Ok, Err}
use Rattle.sx_term.specs.Sorts.{Shape}
use Rattle.sx_term.specs.Term.{tree}
use Rattle.sx_rules.specs.Deep.{AreShallow, RuleIsShallow}
use Rattle.sx_rules.specs.First.{Answer}
use Rattle.sx_rules.specs.Orders.{Entry}
use Rattle.sx_rules.specs.Sets.{shapes_in}
use Rattle.sx_rules.specs.declared.rule.Hyps.{Hyps}
use Rattle.sx_rules.specs.Views.{rule, goal as goal_view, hypotheses}
use Rattle.sx_plain.specs.Views.{table_of}
use Rattle.sx_rewrite.specs.declared.accepted.Accepted.{Accepted as AcceptedOf}
use Rattle.sx_rewrite.specs.declared.ext_rule.ExtRule.{ExtRule as ExtRuleOf}
use Rattle.sx_rewrite.specs.declared.flat.Flat.{Flat}
use Rattle.sx_plain.specs.declared.table.PlainTable.{PlainTable}
use Rattle.sx_rewrite.specs.AcceptedView.{accepted, signature}
use Rattle.sx_rewrite.specs.Extensions.{with_table, ComesAfter}
use Rattle.sx_rewrite.specs.ExtensionView.{ext_rule}
use Rattle.sx_rewrite.specs.Shallow.{IsShallowFlat}
use Rattle.sx_rewrite.specs.Stored.{checked_with}
use Rattle.sx_extcheck.specs.declared.budgets.Budgets.{Budgets}
use Rattle.sx_extcheck.specs.declared.check_error.CheckError.{CheckError}
use Rattle.sx_extcheck.specs.declared.check_error.CheckError.TheVariants.{Memory, Defect}
use Rattle.sx_extcheck.specs.declared.checking.Checking.{Checking}
use Rattle.sx_extcheck.specs.declared.flat_goal.FlatGoal.{FlatGoal}
use Rattle.sx_extcheck.specs.Checks.{Check, by_base, search_for, over_for, IsStoredFor}
use Rattle.sx_extcheck.specs.Checks.{IsRefusedFor}
use Rattle.sx_extcheck.specs.FlatTerms.{listed_term}
use Rattle.sx_extcheck.specs.Searches.{search_of, FindsList}

-- what a rule is checked against, as plain data
abbrev pub check_with : AcceptedOf → PlainTable → Budgets → Check
check_with set plain budgets = record {
  sig = signature set;
  labels = length (shapes_in set.base);
  set = with_table (accepted set) (table_of plain);
  tries = budgets.tries;
  nodes = budgets.nodes;
}

abbrev pub check_of : Checking → Check
check_of k = check_with k.set.now k.plain.now k.budgets

-- The rule is of an extension after the set, with its table and the base labels of the set, no
-- term of it or of its body is deeper than 1,000, and it has fewer premises than 2^32.
pub record CanCheck (set : AcceptedOf) (plain : PlainTable) (e : ExtRuleOf) : Type 0 where
  pub all : List Shape
  pub after : ComesAfter (signature set) (shapes_in set.base) (shapes_in set.rules) all
      (accepted set) (table_of plain) (ext_rule e)
  pub labels : plain.base ≡ length (shapes_in set.base)
  pub shallow : RuleIsShallow (rule e.rule)
  pub body : AreShallow (listed_term (option_map tree e.body))
  pub few : length e.rule.premises.items < 2 ^ 32

-- what is stored of the rule is what its check finds, or it is refused, or memory is lacking
abbrev pub IsRuleChecked : Check → ExtRuleOf → Result Flat CheckError → Type 0
IsRuleChecked c e (Ok flat) =
    IsStoredFor c (ext_rule e) (checked_with (rule e.rule) flat) × IsShallowFlat flat
IsRuleChecked c e (Err Memory) = Unit {0}
IsRuleChecked c e (Err (Defect defect)) = IsRefusedFor c (ext_rule e) defect

-- the rule can be checked, no measured term of it passes a limit, and these are its flat premises
-- and its flat conclusion
pub record IsFlatRule (k : Checking) (e : ExtRuleOf) (given : Hyps) (goal : FlatGoal) : Type 0 where
  pub can : CanCheck k.set.now k.plain.now e
  pub within : over_for (check_of k) (ext_rule e) ≡ None
  pub premises : hypotheses given ≡ (search_for (check_of k) (ext_rule e)).hyps
  pub conclusion : goal_view goal.goal ≡ (search_for (check_of k) (ext_rule e)).goal
  pub wanted : map tree goal.wanted.items ≡ (search_for (check_of k) (ext_rule e)).wanted

-- So it is, the typed syntax of its body is not base, and the list is that of the first derivation
-- of its flat conclusion by base and plain rules.
pub record IsFoundRule (k : Checking) (e : ExtRuleOf) (given : Hyps) (goal : FlatGoal)
    (list : List Entry) : Type 0 where
  pub flat : IsFlatRule k e given goal
  pub plain : by_base (check_of k) (ext_rule e) ≡ false
  pub answer : Answer
  pub finds : FindsList (search_of k.set.now.plain_rules given goal) k.budgets.tries list answer
