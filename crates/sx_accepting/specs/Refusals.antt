-- Why extensions are refused can be told.
use Rattle.std.specs.Prelude.{◌≡◌, ◌^◌, ◌<◌, ◌≤◌, ℕ, List, [], ◌∷◌, ◌++◌, Err, Some, length, map}
use Rattle.std.specs.Prelude.{option_map, slice_get}
use Rattle.std.specs.List.{AllByRecursion}
use Rattle.sx_term.specs.Sorts.{Shape}
use Rattle.sx_term.specs.Term.{tree}
use Rattle.sx_grammar.specs.Grammar.{Text}
use Rattle.sx_grammar.specs.Told.{shapes_of}
use Rattle.sx_rules.specs.Deep.{AreShallow, RulesAreShallow}
use Rattle.sx_rules.specs.Good.{IsRuleSet}
use Rattle.sx_rules.specs.Sets.{shapes_in, forms_in, rules_in, bare_rules_in}
use Rattle.sx_rules.specs.Views.{FormData, NamedRule, rule}
use Rattle.sx_plain.specs.Views.{table_of}
use Rattle.sx_plain.specs.declared.table.PlainTable.{PlainTable}
use Rattle.sx_derive.specs.Blames.{blame_of}
use Rattle.sx_derive.specs.BlameTerms.{BlameIsShallow}
use Rattle.sx_derive.specs.declared.blame.Blame.{Blame as BlameOf}
use Rattle.sx_rewrite.specs.declared.accepted.Accepted.{Accepted as AcceptedOf}
use Rattle.sx_rewrite.specs.declared.ext_rule.ExtRule.{ExtRule as ExtRuleOf}
use Rattle.sx_rewrite.specs.declared.extension_data.ExtensionData.{ExtensionData}
use Rattle.sx_rewrite.specs.Accepted.{extended_rules, IsAccepted}
use Rattle.sx_rewrite.specs.AcceptedView.{accepted, signature}
use Rattle.sx_rewrite.specs.Extensions.{FitsRules}
use Rattle.sx_rewrite.specs.ExtensionView.{ext_rule, named_rules}
use Rattle.sx_rewrite.specs.PlainRules.{plain_of}
use Rattle.sx_rewrite.specs.Stored.{ArePlain}
use Rattle.sx_extcheck.specs.declared.accept_error.AcceptError.{AcceptError}
use Rattle.sx_extcheck.specs.declared.accept_error.AcceptError.TheVariants.{Rule}
use Rattle.sx_extcheck.specs.declared.budgets.Budgets.{Budgets}
use Rattle.sx_extcheck.specs.declared.rule_refusal.RuleRefusal.{RuleRefusal}
use Rattle.sx_extcheck.specs.declared.rule_refusal.RuleRefusal.TheVariants.{Rejected}
use Rattle.sx_extcheck.specs.Accepts.{check_for, AreRulesChecked}
use Rattle.sx_extcheck.specs.Agree.{defect_as_data}
use Rattle.sx_extcheck.specs.Checks.{IsRefusedFor}
use Rattle.sx_extcheck.specs.CheckView.{check_with, CanCheck}
use Rattle.sx_extcheck.specs.FlatTerms.{listed_term}
use Rattle.sx_extension.specs.declared.extension.ReadExtension.{ReadExtension}
use Rattle.sx_extension.specs.Grounds.{Ground, IsGroundBefore}
use Rattle.sx_extension.specs.States.{IsExtensionIn}
use Rattle.sx_stuck.specs.StuckGoals.{IsSortedBlame}
use Rattle.sx_accepting.specs.AcceptanceStops.{Refusing, CanTellError, acceptance_stop}

-- the set is accepted, and its base rules and its plain rules are rule sets
pub record IsAcceptedSet (set : AcceptedOf) : Type 0 where
  pub held : IsAccepted (signature set) (shapes_in set.base) (shapes_in set.rules)
      (accepted set)
  pub base : IsRuleSet (shapes_in set.base) (forms_in set.base) (rules_in set.base)
  pub plain_set : IsRuleSet (shapes_in set.plain_rules) (forms_in set.plain_rules)
      (rules_in set.plain_rules)
  pub plain : ArePlain (shapes_in set.rules) (shapes_in set.plain_rules) (forms_in set.base)
      (forms_in set.plain_rules) (table_of set.plain) (rules_in set.rules)
      (rules_in set.plain_rules)
  pub plain_rules : bare_rules_in set.plain_rules ≡ extended_rules (plain_of (accepted set))
  pub forms : forms_in set.rules ≡ forms_in set.base
  pub labels : set.plain.base ≡ length (shapes_in set.base)

-- the extension, whose rules have these shapes, can be checked after the set
pub record CanAccept (set : AcceptedOf) (all : List Shape) (ext : ExtensionData) : Type 0 where
  pub good : IsRuleSet all (forms_in set.rules) (rules_in set.rules ++ named_rules ext)
  pub shallow : RulesAreShallow (map (λ e. rule e.rule) ext.rules.items)
  pub bodies : AllByRecursion (λ e. AreShallow (listed_term (option_map tree e.body)))
      ext.rules.items
  pub few : AllByRecursion (λ e. length e.rule.premises.items < 2 ^ 32) ext.rules.items
  pub labels : ext.plain.base ≡ set.plain.base
  pub fits : FitsRules (signature set) (shapes_in set.base) (shapes_in set.rules) all
      (table_of set.plain) (table_of ext.plain) (map ext_rule ext.rules.items)

-- the stuck goal of a rule that is not sound is well sorted by the shapes of the extension, under
-- the sorts of the rule's variables, and no deeper than 1,000
abbrev pub RejectedGoalsAreSorted : Type 0
RejectedGoalsAreSorted =
    (set : AcceptedOf) → IsAcceptedSet set → (plain : PlainTable) (budgets : Budgets)
    (e : ExtRuleOf) →
    (can : CanCheck set plain e) (form : FormData) →
    slice_get (forms_in set.base) e.rule.conclusion.form ≡ Some form →
    (b : BlameOf) → IsRefusedFor (check_with set plain budgets) (ext_rule e) (Rejected b) →
    IsSortedBlame can.all (forms_in set.base) e.rule.vars.items (blame_of b)
    × BlameIsShallow (blame_of b)

-- each rule has as many names as it has variables, or more
abbrev pub AreRulesNamed : List NamedRule → List (List Text) → Type 0
AreRulesNamed [] vars = Unit {0}
AreRulesNamed (q ∷ qs) [] = ⊥
AreRulesNamed (q ∷ qs) (v ∷ vars) = (length q.rule.sorts ≤ length v) × AreRulesNamed qs vars

-- what the refused rules of an extension are told by that was read after the set
abbrev pub refusing_in : Ground → AcceptedOf → ReadExtension → Refusing
refusing_in g set x = record {
  parts = x.rule_grammar.parts;
  forms = g.forms;
  rules = rules_in set.rules;
  names = map (λ q. q.name) (named_rules x.extension);
  vars = x.names.items;
}

-- so it can be told why an extension that was read is not accepted
abbrev pub RefusedExtensionsCanBeTold : Type 0
RefusedExtensionsCanBeTold =
    (set : AcceptedOf) → IsAcceptedSet set →
    (g : Ground) (bytes : Text) (x : ReadExtension) → IsGroundBefore g → IsExtensionIn g bytes x →
    g.forms ≡ forms_in set.base → CanAccept set (shapes_of x.grammar.parts) x.extension →
    (budgets : Budgets) (count : ℕ) (error : AcceptError) →
    AreRulesChecked (check_for set x.extension budgets) x.extension.rules.items count (Err error) →
    CanTellError (refusing_in g set x) error

-- the stop of a rule that is refused depends on the stuck goal as plain data alone
abbrev pub RefusedRulesStopAlike : Type 0
RefusedRulesStopAlike =
    (file : Text) (r : Refusing) (name : Text) (one other : RuleRefusal) →
    defect_as_data one ≡ defect_as_data other →
    acceptance_stop file r (Rule name one) ≡ acceptance_stop file r (Rule name other)
