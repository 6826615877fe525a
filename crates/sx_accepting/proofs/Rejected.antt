-- The stuck goal of a rule that is not sound.
use Rattle.std.proofs.Common.{◌≡◌, Bool, true, false, List, [], ◌∷◌, map, length, Option, Some}
use Rattle.std.proofs.Common.{None, refl, sym, ap, ◌∙◌, subst, if◌then◌else◌}
use Rattle.std.specs.Prelude.{option_map, slice_get}
use Rattle.std.specs.List.{AllByRecursion}
use Rattle.sx_term.specs.Sorts.{Shape}
use Rattle.sx_term.specs.Tree.{Tree}
use Rattle.sx_term.specs.declared.sort.Sort.{Sort}
use Rattle.sx_rules.specs.Derivations.{ShallowJudgements}
use Rattle.sx_rules.specs.Good.{IsRuleSet}
use Rattle.sx_rules.specs.Modes.{outputs, AllModed}
use Rattle.sx_rules.specs.Rules.{Rule, Hypotheses}
use Rattle.sx_rules.specs.Sets.{shapes_in, forms_in, rules_in}
use Rattle.sx_rules.specs.Sorts.{GoalIsSorted, JudgementIsSorted, JudgementsAreSorted}
use Rattle.sx_rules.specs.Views.{FormData, NamedRule, judgement, named, rule}
use Rattle.sx_rules.specs.declared.rule.Rule.{Rule as RuleOf}
use Rattle.sx_rules.proofs.Sorted.{inputs-sorted}
use Rattle.sx_arena.specs.Entered.{ArePairsShallow}
use Rattle.sx_plain.specs.Plain.{Table, image}
use Rattle.sx_plain.specs.Tables.{Begins}
use Rattle.sx_plain.specs.Views.{table_of}
use Rattle.sx_plain.specs.declared.table.PlainTable.{PlainTable}
use Rattle.sx_derive.specs.Blames.{blame_of}
use Rattle.sx_derive.specs.BlameTerms.{BlameIsShallow}
use Rattle.sx_derive.specs.Stuck.{Blame, Reason, no_rule, unequal, mismatch, IsStuck}
use Rattle.sx_derive.specs.Walk.{events}
use Rattle.sx_derive.specs.declared.blame.Blame.{Blame as BlameOf}
use Rattle.sx_derive.proofs.BlameDepths.{stuck_goal_is_shallow}
use Rattle.sx_derive.proofs.Blamed.{exhausted_has_no_stop}
use Rattle.sx_rewrite.specs.declared.accepted.Accepted.{Accepted as AcceptedOf}
use Rattle.sx_rewrite.specs.declared.ext_rule.ExtRule.{ExtRule as ExtRuleOf}
use Rattle.sx_rewrite.specs.Accepted.{Accepted, IsAccepted, Signature, ExtRule, extended_rules}
use Rattle.sx_rewrite.specs.AcceptedView.{accepted, signature}
use Rattle.sx_rewrite.specs.Extensions.{BodyFits, with_table}
use Rattle.sx_rewrite.specs.ExtensionView.{ext_rule}
use Rattle.sx_rewrite.specs.Flat.{flat_places}
use Rattle.sx_rewrite.specs.PlainRules.{plain_of}
use Rattle.sx_rewrite.specs.Puts.{IsSmallTerm}
use Rattle.sx_rewrite.specs.Sound.{flat_given, flat_goal}
use Rattle.sx_rewrite.proofs.Checks.{flat_goals_stay}
use Rattle.sx_rewrite.proofs.FlatSorted.{flat_forms_are_sorted}
use Rattle.sx_rewrite.proofs.Growing.{longer}
use Rattle.sx_rewrite.proofs.LongerTables.{plain_rules_stay}
use Rattle.sx_rewrite.proofs.LoweredSorted.{list-more-sorted, judgements-more-sorted, moded-base}
use Rattle.sx_rewrite.proofs.PlainSets.{plain_rules_are_accepted}
use Rattle.sx_extcheck.specs.declared.budgets.Budgets.{Budgets}
use Rattle.sx_extcheck.specs.declared.rule_refusal.RuleRefusal.TheVariants.{Rejected}
use Rattle.sx_extcheck.specs.Checks.{Check, by_base, over_for, search_for, IsRefusedFor}
use Rattle.sx_extcheck.specs.CheckView.{check_with, CanCheck}
use Rattle.sx_extcheck.specs.Searches.{Search, IsShallowSearch}
use Rattle.sx_extcheck.proofs.Given.{plain-is-flat, given-shallow}
use Rattle.sx_extcheck.proofs.Goal.{flat-small, small-inputs, small-outputs}
use Rattle.sx_extcheck.proofs.Measurable.{small-premises, small-places, small-body}
use Rattle.sx_extcheck.proofs.StoredRules.{is-base}
use Rattle.sx_stuck.specs.StuckGoals.{GotIsSorted, IsSortedBlame}
use Rattle.sx_stuck.proofs.StuckGoals.{stuck_goals_are_sorted}
use Rattle.sx_accepting.specs.Refusals.{IsAcceptedSet, RejectedGoalsAreSorted}

-- rules without their names
bare-named : (rs : List RuleOf) → map (λ (q : NamedRule). q.rule) (map named rs) ≡ map rule rs
bare-named [] = refl
bare-named (r ∷ rs) = ap (λ (qs : List Rule). rule r ∷ qs) (bare-named rs)

-- what is well sorted is so by more shapes
module _ (base shapes : List Shape) (begins : Begins base shapes) (forms : List FormData)
    (vars : List Sort) where
  got-more : (reason : Reason) (sorts : List Sort) → GotIsSorted base vars reason sorts →
      GotIsSorted shapes vars reason sorts
  got-more no_rule sorts h = tt
  got-more (unequal r k) sorts h = tt
  got-more (mismatch by got) sorts h = list-more-sorted base shapes begins vars got sorts h

  blame-more : (b : Blame) → IsSortedBlame base forms vars b → IsSortedBlame shapes forms vars b
  blame-more b h = record {
    form = h.form;
    is = h.is;
    sorted = list-more-sorted base shapes begins vars b.goal.terms _ h.sorted;
    got = got-more b.reason _ h.got;
  }

abbrev IsShallowGiven : Hypotheses → Type 0
IsShallowGiven h = ShallowJudgements h.judgements × ArePairsShallow h.pairs

module _ (set : AcceptedOf) (k : IsAcceptedSet set) (plain : PlainTable) (budgets : Budgets)
    (e : ExtRuleOf) (can : CanCheck set plain e) where
  abbrev sig : Signature
  sig = signature set

  abbrev base : List Shape
  base = shapes_in set.base

  abbrev shapes : List Shape
  shapes = shapes_in set.rules

  abbrev own : Accepted
  own = accepted set

  abbrev table : Table
  table = table_of plain

  abbrev ext : ExtRule
  ext = ext_rule e

  abbrev vars : List Sort
  vars = e.rule.vars.items

  abbrev c : Check
  c = check_with set plain budgets

  abbrev search : Search
  search = search_for c ext

  longer-set : IsAccepted sig base can.all (with_table own table)
  longer-set = longer sig base shapes can.all own table can.after.accepted can.after.goes_on

  plain-set : IsAccepted sig base can.all (plain_of (with_table own table))
  plain-set = plain_rules_are_accepted sig base can.all (with_table own table) longer-set

  -- ---- depths

  module _ (within : over_for c ext ≡ None) where
    no-subject : (body : Option Tree) → BodyFits sig can.all (length shapes) table (rule e.rule)
        body → option_map (image table) body ≡ None →
        outputs (sig.subjects e.rule.conclusion.form) (judgement e.rule.conclusion).places ≡ []
    no-subject None f q = f
    no-subject (Some t) f q = cc

    abbrev places : List Tree
    places = flat_places table (option_map (image table) ext.body)
        (sig.subjects ext.rule.conclusion.form) ext.rule.conclusion.places

    places-small : AllByRecursion IsSmallTerm places
    places-small =
        flat-small table (option_map (image table) ext.body)
        (sig.subjects ext.rule.conclusion.form) ext.rule.conclusion.places
        (small-places table sig.subjects ext within) (small-body table sig.subjects ext within)
        (no-subject ext.body can.after.body)

    search-shallow : IsShallowSearch search
    search-shallow =
        let g = given-shallow table ext.rule.premises
        (small-premises table sig.subjects ext within) in
        let moved = subst (λ (h : Hypotheses). IsShallowGiven h)
        (plain-is-flat table sig.subjects ext.rule.conclusion ext.rule.premises
        can.after.disciplined.bare) g in
        let modes = sig.modes ext.rule.conclusion.form in
        record {
          holds = moved.0;
          apart = moved.1;
          goal =
              small-inputs modes places places-small;
          wanted =
              small-outputs modes places places-small;
        }

  moded-by : (b : Bool) → AllModed sig.modes (if b then own.base else extended_rules (plain_of
      (with_table own table)))
  moded-by true = moded-base sig.modes own.base own.more longer-set.moded
  moded-by false = plain-set.moded

  -- ---- sorts

  flat-sorted : JudgementsAreSorted base sig.forms vars
      (flat_given table sig.subjects ext).judgements
  flat-sorted = (flat_forms_are_sorted sig base can.all table longer-set.begins longer-set.no_typed
      longer-set.fits longer-set.desugars (length shapes) ext can.after.sorted
      can.after.disciplined can.after.body).0

  goal-by : (others : List Shape) → JudgementIsSorted others sig.forms vars
      (flat_goal table sig.subjects ext) → GoalIsSorted others sig.forms sig.modes vars search.goal
  goal-by others h =
      inputs-sorted others vars (sig.modes ext.rule.conclusion.form)
      (flat_goal table sig.subjects ext).places (sig.forms ext.rule.conclusion.form) h

  module _ (form : FormData) (is : slice_get (forms_in set.base) e.rule.conclusion.form ≡ Some
      form) where
    abbrev StuckBy : List Rule → Blame → Type 0
    StuckBy rules b = IsStuck sig.modes sig.subjects rules search.hyps 3000 search.goal [] b

    by-base-rules : by_base c ext ≡ true → (b : Blame) → StuckBy own.base b →
        IsSortedBlame can.all (forms_in set.base) vars b
    by-base-rules here b s =
        blame-more base can.all longer-set.begins (forms_in set.base) vars b
        (stuck_goals_are_sorted base (forms_in set.base) (rules_in set.base) k.base search.hyps
        vars flat-sorted 3000 search.goal form [] b is
        (goal-by base ((flat_forms_are_sorted sig base can.all table longer-set.begins
        longer-set.no_typed longer-set.fits longer-set.desugars (length shapes) ext
        can.after.sorted can.after.disciplined can.after.body).2
        (is-base (length base) table ext.body here)))
        (subst (λ (rs : List Rule). StuckBy rs b) (sym (bare-named set.base.rules.items)) s))

    plain-good : IsRuleSet shapes (forms_in set.base) (rules_in set.plain_rules)
    plain-good =
        subst (λ (ss : List Shape). IsRuleSet ss (forms_in set.base) (rules_in set.plain_rules))
        k.plain.shapes_are
        (subst (λ (fs : List FormData). IsRuleSet (shapes_in set.plain_rules) fs
        (rules_in set.plain_rules)) k.plain.forms_are k.plain_set)

    plain-bare : extended_rules (plain_of (with_table own table)) ≡ map (λ (q : NamedRule). q.rule)
        (rules_in set.plain_rules)
    plain-bare =
        ap extended_rules (plain_rules_stay sig base shapes own can.after.accepted table
        can.after.goes_on.keeps)
        ∙ sym k.plain_rules ∙ sym (bare-named set.plain_rules.rules.items)

    by-plain-rules : (b : Blame) → StuckBy (extended_rules (plain_of (with_table own table))) b →
        IsSortedBlame can.all (forms_in set.base) vars b
    by-plain-rules b s =
        blame-more shapes can.all can.after.goes_on.begins (forms_in set.base) vars b
        (stuck_goals_are_sorted shapes (forms_in set.base) (rules_in set.plain_rules) plain-good
        search.hyps vars
        (judgements-more-sorted base shapes can.after.accepted.begins vars sig.forms
        search.hyps.judgements flat-sorted) 3000 search.goal form [] b is
        (goal-by shapes (flat_goals_stay sig base shapes can.all own table ext can.after))
        (subst (λ (rs : List Rule). StuckBy rs b) plain-bare s))

    sorted-by : (v : Bool) → by_base c ext ≡ v → (b : Blame) →
        StuckBy (if v then own.base else extended_rules (plain_of (with_table own table))) b →
        IsSortedBlame can.all (forms_in set.base) vars b
    sorted-by true e b s = by-base-rules e b s
    sorted-by false e b s = by-plain-rules b s

    pub rejected-sorted : (b : BlameOf) → IsRefusedFor c ext (Rejected b) →
        IsSortedBlame can.all (forms_in set.base) vars (blame_of b) × BlameIsShallow (blame_of b)
    rejected-sorted b ((within, ends), stuck) =
        let shallow = search-shallow within in (
          sorted-by (by_base c ext) refl (blame_of b) stuck,
          stuck_goal_is_shallow sig.modes sig.subjects search.rules search.hyps
              (moded-by (by_base c ext)) shallow.holds 1 search.goal [] (blame_of b) shallow.goal
              (exhausted_has_no_stop (Some search.wanted) c.tries
              (events sig.modes search.rules search.hyps search.goal 1) ends) stuck,
        )

pub rejected_goals_are_sorted : RejectedGoalsAreSorted
rejected_goals_are_sorted set k plain budgets e can form is b h =
    rejected-sorted set k plain budgets e can form is b h
