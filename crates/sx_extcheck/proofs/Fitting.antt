-- Extensions that fit: each of their rules can be checked, and what is stored of them makes them sound.
use Rattle.std.proofs.Common.{◌≡◌, ℕ, ◌^◌, ◌<◌, List, [], ◌∷◌, inl, inr, map, length, None}
use Rattle.std.specs.List.{AllByRecursion}
use Rattle.std.specs.Prelude.{Ok, Err, option_map}
use Rattle.sx_term.specs.Sorts.{Shape}
use Rattle.sx_term.specs.Term.{tree}
use Rattle.sx_rules.specs.Deep.{AreShallow, RulesAreShallow}
use Rattle.sx_rules.specs.Modes.{AllModed}
use Rattle.sx_rules.specs.Sets.{shapes_in, bare_rules_in}
use Rattle.sx_rules.specs.Sorts.{RulesAreSorted}
use Rattle.sx_rules.specs.Views.{rule}
use Rattle.sx_plain.specs.declared.table.PlainTable.{PlainTable}
use Rattle.sx_plain.specs.Views.{table_of}
use Rattle.sx_derive.specs.declared.blame.Blame.{Blame}
use Rattle.sx_rewrite.specs.declared.accepted.Accepted.{Accepted as AcceptedOf}
use Rattle.sx_rewrite.specs.declared.ext_rule.ExtRule.{ExtRule as ExtRuleOf}
use Rattle.sx_rewrite.specs.Accepted.{ExtRule, Checked, extended_rules, IsAccepted, AllDisciplined}
use Rattle.sx_rewrite.specs.AcceptedView.{accepted, signature}
use Rattle.sx_rewrite.specs.Accepting.{AreStored}
use Rattle.sx_rewrite.specs.Extensions.{with_table, ShapesGoOn, BodiesFit}
use Rattle.sx_rewrite.specs.ExtensionView.{ext_rule}
use Rattle.sx_rewrite.specs.PlainRules.{plain_of, RuleHasImage}
use Rattle.sx_rewrite.proofs.Sound.{rejected_is_unsound}
use Rattle.sx_extcheck.specs.declared.accept_error.AcceptError.{AcceptError}
use Rattle.sx_extcheck.specs.declared.accept_error.AcceptError.TheVariants.{Memory, Rule}
use Rattle.sx_extcheck.specs.declared.budgets.Budgets.{Budgets}
use Rattle.sx_extcheck.specs.declared.rule_refusal.RuleRefusal.TheVariants.{Rejected, BudgetSpent}
use Rattle.sx_extcheck.specs.declared.rule_refusal.RuleRefusal.TheVariants.{DepthSpent, TooDeep}
use Rattle.sx_extcheck.specs.declared.rule_refusal.RuleRefusal.TheVariants.{TooBig, RewriteSpent}
use Rattle.sx_extcheck.specs.declared.rule_refusal.RuleRefusal.TheVariants.{RewriteDeep}
use Rattle.sx_extcheck.specs.Accepts.{AreRulesChecked, HasUnsound, RejectsUnsound}
use Rattle.sx_extcheck.specs.Checks.{Check, over_for, IsStoredFor}
use Rattle.sx_extcheck.specs.CheckView.{check_with, CanCheck}
use Rattle.sx_extcheck.specs.FlatTerms.{listed_term}
use Rattle.sx_extcheck.proofs.Measurable.{rule-can, rule-images}
use Rattle.sx_extcheck.proofs.StoredRules.{checked-stored, checked-rejected}

-- each rule of an extension that fits can be checked
module _ (set : AcceptedOf) (plain : PlainTable) (all : List Shape) (ok : IsAccepted (signature set) (shapes_in set.base) (shapes_in set.rules) (accepted set))
    (goes_on : ShapesGoOn (shapes_in set.base) (shapes_in set.rules) all (table_of set.plain) (table_of plain)) (labels : plain.base ≡ length (shapes_in set.base)) where
  pub can-all : (es : List ExtRuleOf) → RulesAreSorted all (signature set).forms (map (λ e. e.rule) (map ext_rule es)) → AllDisciplined (signature set).subjects (map (λ e. e.rule) (map ext_rule es)) →
      BodiesFit (signature set) all (length (shapes_in set.rules)) (table_of plain) (map ext_rule es) → RulesAreShallow (map (λ e. rule e.rule) es) →
      AllByRecursion (λ e. AreShallow (listed_term (option_map tree e.body))) es → AllByRecursion (λ e. length e.rule.premises.items < 2 ^ 32) es → AllByRecursion (CanCheck set plain) es
  can-all [] s d b h k f = tt
  can-all (e ∷ es) s d b h k f = (
    record {
      all = all;
      after = record { accepted = ok; goes_on = goes_on; sorted = s.0; disciplined = d.0; body = b.0 };
      labels = labels;
      shallow = h.0;
      body = k.0;
      few = f.0;
    },
    can-all es s.1 d.1 b.1 h.1 k.1 f.1,
  )

-- no measured term of a rule that is stored passes a limit
pub stored-within : (c : Check) (ext : ExtRule) (s : Checked) → IsStoredFor c ext s → over_for c ext ≡ None
stored-within c ext s (inl (b, p, outs, (within, ends), same)) = within
stored-within c ext s (inr (x, (b, p, outs, (within, ends), h), t, subject, same)) = within

module _ (set : AcceptedOf) (plain : PlainTable) (budgets : Budgets) where
  abbrev c : Check
  c = check_with set plain budgets

  pub checked-images : (es : List ExtRuleOf) (ss : List Checked) (count : ℕ) → AllByRecursion (CanCheck set plain) es → AreRulesChecked c es count (Ok ss) →
      AllByRecursion (λ e. RuleHasImage (table_of plain) (rule e.rule)) es
  checked-images [] ss count can h = tt
  checked-images (e ∷ es) [] count can h = absurd h
  checked-images (e ∷ es) (s ∷ ss) count can (st, rest, n, more) = (
    rule-images (table_of plain) (signature set).subjects (ext_rule e) (stored-within c (ext_rule e) s st)
        (rule-can (signature set) (shapes_in set.base) (shapes_in set.rules) can.0.all (accepted set) (table_of plain) (ext_rule e) can.0.after can.0.shallow can.0.body),
    checked-images es ss rest can.1 more,
  )

  module _ (base_moded : AllModed (signature set).modes (bare_rules_in set.base)) (plain_moded : AllModed (signature set).modes (extended_rules (plain_of (with_table (accepted set) (table_of plain))))) where
    pub all-stored : (es : List ExtRuleOf) (ss : List Checked) (count : ℕ) → AreRulesChecked c es count (Ok ss) →
        AreStored (signature set) (length (shapes_in set.base)) (with_table (accepted set) (table_of plain)) (map ext_rule es) ss
    all-stored [] [] count h = tt
    all-stored [] (s ∷ ss) count h = absurd h
    all-stored (e ∷ es) [] count h = absurd h
    all-stored (e ∷ es) (s ∷ ss) count (st, rest, n, more) = (checked-stored c (ext_rule e) base_moded plain_moded s st, all-stored es ss rest more)

    pub has-unsound : (es : List ExtRuleOf) (count : ℕ) (name : List ℕ) (b : Blame) → AreRulesChecked c es count (Err (Rule name (Rejected b))) → HasUnsound c es name
    has-unsound [] count name b h = absurd h
    has-unsound (e ∷ es) count name b (inl (same, refused, n)) =
        inl (
          same,
          λ s sound. rejected_is_unsound (signature set) (length (shapes_in set.base)) (with_table (accepted set) (table_of plain)) (ext_rule e) s
              (checked-rejected c (ext_rule e) base_moded plain_moded refused.0) sound,
        )
    has-unsound (e ∷ es) count name b (inr (s, st, rest, n, more)) = inr (has-unsound es rest name b more)

    pub rejects-unsound : (es : List ExtRuleOf) (count : ℕ) (error : AcceptError) → AreRulesChecked c es count (Err error) → RejectsUnsound c es error
    rejects-unsound es count Memory h = tt
    rejects-unsound es count (Rule name (Rejected b)) h = has-unsound es count name b h
    rejects-unsound es count (Rule name (BudgetSpent n)) h = tt
    rejects-unsound es count (Rule name (DepthSpent n)) h = tt
    rejects-unsound es count (Rule name (TooDeep n)) h = tt
    rejects-unsound es count (Rule name (TooBig n)) h = tt
    rejects-unsound es count (Rule name (RewriteSpent n)) h = tt
    rejects-unsound es count (Rule name RewriteDeep) h = tt

-- all is stored where memory is lacking after the last rule
pub all-then-memory : (c : Check) (es : List ExtRuleOf) (ss : List Checked) (count : ℕ) → AreRulesChecked c es count (Ok ss) → AreRulesChecked c es count (Err Memory)
all-then-memory c [] [] count h = h
all-then-memory c [] (s ∷ ss) count h = absurd h
all-then-memory c (e ∷ es) [] count h = absurd h
all-then-memory c (e ∷ es) (s ∷ ss) count (st, rest, n, more) = inr (s, st, rest, n, all-then-memory c es ss rest more)
