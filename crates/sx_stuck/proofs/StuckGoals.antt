-- Sorts of outputs and of stuck goals, with what else holds of goals along their paths.
use Rattle.std.proofs.Common.{◌≡◌, ℕ, zero, suc, List, [], ◌∷◌, ◌++◌, ◌⊎◌, inl, inr, map, Option, Some, sym, ap, ◌∙◌, subst}
use Rattle.std.specs.Prelude.{slice_get, nat_eq}
use Rattle.std.specs.List.{AllByRecursion}
use Rattle.sx_term.specs.Tree.{Tree}
use Rattle.sx_term.specs.declared.sort.Sort.{Sort}
use Rattle.sx_term.specs.Sorts.{Shape, HasSort, HaveSorts}
use Rattle.sx_rules.specs.Instances.{instance, StandsAmong}
use Rattle.sx_rules.specs.Rules.{Judgement, Premise, holds, apart, Rule, Hypotheses}
use Rattle.sx_rules.specs.Rules.{judgement_instance, judgements_of}
use Rattle.sx_rules.specs.Modes.{inputs, outputs, inputs_of, outputs_of, Goal, goal_of, AreModed}
use Rattle.sx_rules.specs.Modes.{IsModed}
use Rattle.sx_rules.specs.First.{Answer, DerivesGoal}
use Rattle.sx_rules.specs.Sorts.{GoalIsSorted, JudgementsAreSorted, RulesAreSorted}
use Rattle.sx_rules.specs.Discipline.{IsDisciplined, IsBareSubject, AreBareSubjects}
use Rattle.sx_rules.specs.Views.{FormData, NamedRule, modes_of, subjects_in, sorts_of}
use Rattle.sx_rules.specs.Views.{places_or_none}
use Rattle.sx_rules.specs.Fits.{JudgementFits, PremisesFit, RuleFits}
use Rattle.sx_rules.specs.Good.{AllGood, IsRuleSet}
use Rattle.sx_rules.proofs.Moded.{inputs-map, outputs-map}
use Rattle.sx_rules.proofs.Refusals.{good_moded}
use Rattle.sx_rules.proofs.SetLaws.{fitting_sorted}
use Rattle.sx_rules.proofs.Sorted.{IsSortedAt, map_instance-sorted, map_sorted-variables, inputs-sorted, outputs-sorted, derivations_are_sorted}
use Rattle.sx_arena.specs.Matching.{Assignment, nothing_bound, match_all, value_or, filled, IsBound}
use Rattle.sx_arena.specs.Matching.{Agrees}
use Rattle.sx_arena.proofs.Exact.{filled_agrees}
use Rattle.sx_arena.proofs.Matchings.{MatchesAll, match_all-matches, when_true, stays-bound, stays-agreed}
use Rattle.sx_arena.proofs.Sameness.{nat_same}
use Rattle.sx_derive.specs.Stuck.{Blame, path_of, PremisesStuck, RulesStuck, GivensStuck, IsStuck}
use Rattle.sx_stuck.specs.StuckGoals.{GotIsSorted, IsSortedBlame, StuckGoalsAreSorted}

abbrev pub bare : List NamedRule → List Rule
bare rules = map (λ r. r.rule) rules

module _ (shapes : List Shape) (forms : List FormData) where
  good_sorted : (names : List (List ℕ)) (rules : List NamedRule) → AllGood shapes forms names rules → RulesAreSorted shapes (sorts_of forms) (bare rules)
  good_sorted names [] good = tt
  good_sorted names (r ∷ rules) good = (fitting_sorted shapes forms r.rule good.0.fits, good_sorted (names ++ r.name ∷ []) rules good.1)

-- the outputs of each derivation of a well sorted goal, from well sorted hypotheses, have the sorts of its form's outputs
pub outputs_sorted_from : (shapes : List Shape) (forms : List FormData) (rules : List NamedRule) → IsRuleSet shapes forms rules → (hyps : Hypotheses) (vars : List Sort) → JudgementsAreSorted shapes (sorts_of forms) vars hyps.judgements →
    (goal : Goal) (a : Answer) → GoalIsSorted shapes (sorts_of forms) (modes_of forms) vars goal → DerivesGoal (modes_of forms) (bare rules) hyps goal a →
    HaveSorts shapes vars a.1 (outputs (modes_of forms goal.form) (sorts_of forms goal.form))
outputs_sorted_from shapes forms rules set hyps vars given goal a sorted (j, is_goal, is_outs, d) =
    let here = derivations_are_sorted (modes_of forms) (bare rules) hyps shapes (sorts_of forms) vars
    (good_moded shapes forms [] rules set.1) (good_sorted shapes forms [] rules set.1) given j a.0 d
    (subst (λ (x : Goal). GoalIsSorted shapes (sorts_of forms) (modes_of forms) vars x) (sym is_goal) sorted) in
    let outs = outputs-sorted shapes vars (modes_of forms j.form) j.places (sorts_of forms j.form) here.0 in
    subst (λ (ts : List Tree). HaveSorts shapes vars ts (outputs (modes_of forms goal.form) (sorts_of forms goal.form))) is_outs
    (subst (λ (x : Goal). HaveSorts shapes vars (outputs_of (modes_of forms) j) (outputs (modes_of forms x.form) (sorts_of forms x.form))) is_goal outs)

module _ (shapes : List Shape) (forms : List FormData) (vars : List Sort) where
  judgement_sorted : (own : List Sort) (j : Judgement) → JudgementFits shapes forms own j → HaveSorts shapes own j.places (sorts_of forms j.form)
  judgement_sorted own j h = subst (λ (x : Option FormData). HaveSorts shapes own j.places (map (λ p. p.sort) (places_or_none x))) (sym h.1) h.2

  -- what is bound has the sort of its variable
  abbrev HasSortedValues : List Sort → Assignment → Type 0
  HasSortedValues own env = (v : ℕ) (u : Tree) → env v ≡ Some u → (sort : Sort) → slice_get own v ≡ Some sort → HasSort shapes vars u sort

  unbound_sorted : (own : List Sort) → HasSortedValues own nothing_bound
  unbound_sorted own v u e = cc

  match_sorted : (own : List Sort) (ps ts : List Tree) (sorts : List Sort) (env more : Assignment) → match_all ps ts env ≡ Some more →
      HaveSorts shapes own ps sorts → HaveSorts shapes vars ts sorts → HasSortedValues own env → HasSortedValues own more
  match_sorted own ps ts sorts env more e patterns terms before v u q = go (m.only v (u, q))
    where
      m : MatchesAll ps ts env more
      m = match_all-matches ps ts env more e

      go : IsBound env v ⊎ StandsAmong v ps → (sort : Sort) → slice_get own v ≡ Some sort → HasSort shapes vars u sort
      go (inl x) =
          let same_some : Some x.0 ≡ Some u = sym (m.extends v x.0 x.1) ∙ q in
          let same_term : x.0 ≡ u = cc in
          subst (λ (t : Tree). (sort : Sort) → slice_get own v ≡ Some sort → HasSort shapes vars t sort) same_term (before v x.0 x.1)
      go (inr x) =
          let all = subst (λ (us : List Tree). HaveSorts shapes vars us sorts) (sym (m.instance_is (filled more) (filled_agrees more))) terms in
          subst (λ (t : Tree). (sort : Sort) → slice_get own v ≡ Some sort → HasSort shapes vars t sort) (ap value_or q)
          (map_sorted-variables shapes own vars (filled more) ps sorts patterns all v x)

  bound_sorted : (own : List Sort) (env : Assignment) → HasSortedValues own env → (v : ℕ) → IsBound env v → IsSortedAt shapes own vars (filled env) v
  bound_sorted own env h v (u, e) = λ sort at. subst (λ (t : Tree). HasSort shapes vars t sort) (sym (ap value_or e)) (h v u e sort at)

  -- what holds of the goal of a premise and its path where it holds of a goal that the rule concludes, and its path
  abbrev pub GoesDown : (Goal → List ℕ → Type 0) → Type 0
  GoesDown Leads = (s : ℕ → Tree) (rule : Rule) (goal : Goal) (path : List ℕ) (j : Judgement) (before : List Judgement) → rule.conclusion.form ≡ goal.form →
      map (instance s) (inputs_of (modes_of forms) rule.conclusion) ≡ goal.terms → IsBareSubject (subjects_in forms) rule.conclusion before j → Leads goal path →
      Leads (goal_of (modes_of forms) (judgement_instance s j)) (path_of (subjects_in forms) path rule j)

  -- the goal is of one of the forms and well sorted, and this holds of it and its path
  pub record IsGoalIn (Leads : Goal → List ℕ → Type 0) (goal : Goal) (path : List ℕ) : Type 0 where
    pub form : FormData
    pub is : slice_get forms goal.form ≡ Some form
    pub sorted : GoalIsSorted shapes (sorts_of forms) (modes_of forms) vars goal
    pub leads : Leads goal path

  abbrev pub IsBlameIn : (Goal → List ℕ → Type 0) → Blame → Type 0
  IsBlameIn Leads blame = IsSortedBlame shapes forms vars blame × Leads blame.goal blame.path

  blame_in : (Leads : Goal → List ℕ → Type 0) (blame : Blame) → IsGoalIn Leads blame.goal blame.path →
      GotIsSorted shapes vars blame.reason (outputs (modes_of forms blame.goal.form) (sorts_of forms blame.goal.form)) → IsBlameIn Leads blame
  blame_in Leads blame g got = (record { form = g.form; is = g.is; sorted = g.sorted; got = got }, g.leads)

  -- the instance of the inputs and of the outputs of a judgement
  kid_sorted : (own : List Sort) (s : ℕ → Tree) (j : Judgement) → JudgementFits shapes forms own j → ((v : ℕ) → StandsAmong v (inputs_of (modes_of forms) j) → IsSortedAt shapes own vars s v) →
      GoalIsSorted shapes (sorts_of forms) (modes_of forms) vars (goal_of (modes_of forms) (judgement_instance s j))
  kid_sorted own s j fits at =
      let bs = modes_of forms j.form in
      let sorts = sorts_of forms j.form in
      subst (λ (ts : List Tree). HaveSorts shapes vars ts (inputs bs sorts)) (sym (inputs-map s bs j.places))
      (map_instance-sorted shapes own vars s (inputs bs j.places) (inputs bs sorts) (inputs-sorted shapes own bs j.places sorts (judgement_sorted own j fits)) at)

  made_sorted : (own : List Sort) (s : ℕ → Tree) (j : Judgement) → JudgementFits shapes forms own j → ((v : ℕ) → StandsAmong v (outputs_of (modes_of forms) j) → IsSortedAt shapes own vars s v) →
      HaveSorts shapes vars (outputs_of (modes_of forms) (judgement_instance s j)) (outputs (modes_of forms j.form) (sorts_of forms j.form))
  made_sorted own s j fits at =
      let bs = modes_of forms j.form in
      let sorts = sorts_of forms j.form in
      subst (λ (ts : List Tree). HaveSorts shapes vars ts (outputs bs sorts)) (sym (outputs-map s bs j.places))
      (map_instance-sorted shapes own vars s (outputs bs j.places) (outputs bs sorts) (outputs-sorted shapes own bs j.places sorts (judgement_sorted own j fits)) at)

  -- what is used of a good rule
  record IsUsable (rule : Rule) : Type 0 where
    fits : RuleFits shapes forms rule
    disciplined : IsDisciplined (subjects_in forms) rule
    moded : IsModed (modes_of forms) rule

  usable : (names : List (List ℕ)) (rules : List NamedRule) → AllGood shapes forms names rules → AllByRecursion IsUsable (bare rules)
  usable names [] good = tt
  usable names (r ∷ rules) good = (record { fits = good.0.fits; disciplined = good.0.disciplined; moded = good.0.moded }, usable (names ++ r.name ∷ []) rules good.1)

  -- the inputs of the rule's conclusion are the goal's terms, however more is bound, and what is bound is well sorted
  record IsUnder (rule : Rule) (goal : Goal) (env : Assignment) (Bound : ℕ → Type 0) : Type 0 where
    begun : (s : ℕ → Tree) → Agrees env s → map (instance s) (inputs_of (modes_of forms) rule.conclusion) ≡ goal.terms
    values : HasSortedValues rule.sorts env
    bound : (v : ℕ) → Bound v → IsBound env v

  module _ (rules : List NamedRule) (set : IsRuleSet shapes forms rules) (hyps : Hypotheses) (given : JudgementsAreSorted shapes (sorts_of forms) vars hyps.judgements) (Leads : Goal → List ℕ → Type 0) (down : GoesDown Leads) (Below : Goal → List ℕ → Blame → Type 0)
      (below : (goal : Goal) (path : List ℕ) (blame : Blame) → IsGoalIn Leads goal path → Below goal path blame → IsBlameIn Leads blame) where
    module _ (r : ℕ) (rule : Rule) (good : IsUsable rule) (goal : Goal) (path : List ℕ) (here : IsGoalIn Leads goal path) (of_form : rule.conclusion.form ≡ goal.form) where
      kid_in : (env : Assignment) (Bound : ℕ → Type 0) → IsUnder rule goal env Bound → (before : List Judgement) (j : Judgement) → JudgementFits shapes forms rule.sorts j →
          ((v : ℕ) → StandsAmong v (inputs_of (modes_of forms) j) → Bound v) → IsBareSubject (subjects_in forms) rule.conclusion before j →
          IsGoalIn Leads (goal_of (modes_of forms) (judgement_instance (filled env) j)) (path_of (subjects_in forms) path rule j)
      kid_in env Bound u before j fits m only = record {
        form = fits.0;
        is = fits.1;
        sorted = kid_sorted rule.sorts (filled env) j fits (λ v k. bound_sorted rule.sorts env u.values v (u.bound v (m v k)));
        leads = down (filled env) rule goal path j before of_form (u.begun (filled env) (filled_agrees env)) only here.leads;
      }

      under_more : (env more : Assignment) (Bound : ℕ → Type 0) → IsUnder rule goal env Bound → (j : Judgement) (outs : List Tree) → JudgementFits shapes forms rule.sorts j →
          match_all (outputs_of (modes_of forms) j) outs env ≡ Some more → HaveSorts shapes vars outs (outputs (modes_of forms j.form) (sorts_of forms j.form)) →
          IsUnder rule goal more (λ v. Bound v ⊎ StandsAmong v (outputs_of (modes_of forms) j))
      under_more env more Bound u j outs fits e sorted = record {
        begun = λ s agrees. u.begun s (stays-agreed env more s m.extends agrees);
        values = match_sorted rule.sorts (outputs_of (modes_of forms) j) outs (outputs (modes_of forms j.form) (sorts_of forms j.form)) env more e
            (outputs-sorted shapes rule.sorts (modes_of forms j.form) j.places (sorts_of forms j.form) (judgement_sorted rule.sorts j fits)) sorted u.values;
        bound = λ v. elim [ inl k ↦ stays-bound env more m.extends v (u.bound v k) | inr k ↦ m.every v k ];
      }
        where
          m : MatchesAll (outputs_of (modes_of forms) j) outs env more
          m = match_all-matches (outputs_of (modes_of forms) j) outs env more e

      premises_in : (k : ℕ) (ps : List Premise) (env : Assignment) (Bound : ℕ → Type 0) (before : List Judgement) (blame : Blame) →
          IsUnder rule goal env Bound → AreModed (modes_of forms) Bound ps rule → PremisesFit shapes forms rule.sorts ps →
          AreBareSubjects (subjects_in forms) rule.conclusion before (judgements_of ps) →
          PremisesStuck (modes_of forms) (subjects_in forms) (bare rules) hyps Below r rule goal path k ps env blame → IsBlameIn Leads blame
      premises_in k [] env Bound before blame u m fits only s =
          subst (λ (b : Blame). IsBlameIn Leads b) (sym s)
          (blame_in Leads _ here (subst (λ (f : ℕ). HaveSorts shapes vars (outputs_of (modes_of forms) (judgement_instance (filled env) rule.conclusion)) (outputs (modes_of forms f) (sorts_of forms f))) of_form
          (made_sorted rule.sorts (filled env) rule.conclusion good.fits.0 (λ v k. bound_sorted rule.sorts env u.values v (u.bound v (m.0 v k))))))
      premises_in k (apart x y ∷ ps) env Bound before blame u m fits only (inl s) = premises_in (suc k) ps env Bound before blame u m.1 fits.1 only s.1
      premises_in k (apart x y ∷ ps) env Bound before blame u m fits only (inr s) =
          subst (λ (b : Blame). IsBlameIn Leads b) (sym s.1) (blame_in Leads _ here tt)
      premises_in k (holds j ∷ ps) env Bound before blame u m fits only (inl s) =
          below (goal_of (modes_of forms) (judgement_instance (filled env) j)) (path_of (subjects_in forms) path rule j) blame
          (kid_in env Bound u before j fits.0 m.0 only.0) s.1
      premises_in k (holds j ∷ ps) env Bound before blame u m fits only (inr (a, first, inl s)) =
          let kid = kid_in env Bound u before j fits.0 m.0 only.0 in
          let got = outputs_sorted_from shapes forms rules set hyps vars given (goal_of (modes_of forms) (judgement_instance (filled env) j)) a kid.sorted first.derives in
          subst (λ (b : Blame). IsBlameIn Leads b) (sym s.1) (blame_in Leads _ kid got)
      premises_in k (holds j ∷ ps) env Bound before blame u m fits only (inr (a, first, inr (more, e, s))) =
          let kid = kid_in env Bound u before j fits.0 m.0 only.0 in
          let got = outputs_sorted_from shapes forms rules set hyps vars given (goal_of (modes_of forms) (judgement_instance (filled env) j)) a kid.sorted first.derives in
          premises_in (suc k) ps more (λ v. Bound v ⊎ StandsAmong v (outputs_of (modes_of forms) j)) (j ∷ before) blame
          (under_more env more Bound u j a.1 fits.0 e got) m.1 fits.1 only.1 s

    first_under : (rule : Rule) (goal : Goal) (env : Assignment) → RuleFits shapes forms rule → rule.conclusion.form ≡ goal.form →
        GoalIsSorted shapes (sorts_of forms) (modes_of forms) vars goal → match_all (inputs_of (modes_of forms) rule.conclusion) goal.terms nothing_bound ≡ Some env →
        IsUnder rule goal env (λ v. StandsAmong v (inputs_of (modes_of forms) rule.conclusion))
    first_under rule goal env fits of_form sorted e = record {
      begun = λ s agrees. m.instance_is s agrees;
      values = match_sorted rule.sorts (inputs_of (modes_of forms) rule.conclusion) goal.terms (inputs (modes_of forms rule.conclusion.form) (sorts_of forms rule.conclusion.form)) nothing_bound env e
          (inputs-sorted shapes rule.sorts (modes_of forms rule.conclusion.form) rule.conclusion.places (sorts_of forms rule.conclusion.form) (judgement_sorted rule.sorts rule.conclusion fits.0))
          (subst (λ (f : ℕ). HaveSorts shapes vars goal.terms (inputs (modes_of forms f) (sorts_of forms f))) (sym of_form) sorted) (unbound_sorted rule.sorts);
      bound = λ v k. m.every v k;
    }
      where
        m : MatchesAll (inputs_of (modes_of forms) rule.conclusion) goal.terms nothing_bound env
        m = match_all-matches (inputs_of (modes_of forms) rule.conclusion) goal.terms nothing_bound env e

    among_in : (r : ℕ) (rs : List Rule) (goal : Goal) (path : List ℕ) (blame : Blame) → AllByRecursion IsUsable rs → IsGoalIn Leads goal path →
        RulesStuck (modes_of forms) (subjects_in forms) (bare rules) hyps Below r rs goal path blame → IsBlameIn Leads blame
    among_in r [] goal path blame good here s = subst (λ (b : Blame). IsBlameIn Leads b) (sym s) (blame_in Leads _ here tt)
    among_in r (rule ∷ rs) goal path blame good here (inl (env, e, s)) =
        let m = when_true (nat_eq rule.conclusion.form goal.form) (match_all (inputs_of (modes_of forms) rule.conclusion) goal.terms nothing_bound) env e in
        let of_form = nat_same rule.conclusion.form goal.form m.0 in
        premises_in r rule good.0 goal path here of_form 0 rule.premises env (λ v. StandsAmong v (inputs_of (modes_of forms) rule.conclusion)) [] blame
        (first_under rule goal env good.0.fits of_form here.sorted m.1) good.0.moded good.0.fits.1 good.0.disciplined.bare s
    among_in r (rule ∷ rs) goal path blame good here (inr s) = among_in (suc r) rs goal path blame good.1 here s.1

  module _ (rules : List NamedRule) (set : IsRuleSet shapes forms rules) (hyps : Hypotheses) (given : JudgementsAreSorted shapes (sorts_of forms) vars hyps.judgements) (Leads : Goal → List ℕ → Type 0) (down : GoesDown Leads) where
    -- the hypotheses
    givens_in : (js : List Judgement) → JudgementsAreSorted shapes (sorts_of forms) vars js → (AmongRules : Type 0) (goal : Goal) (path : List ℕ) (blame : Blame) → IsGoalIn Leads goal path → (AmongRules → IsBlameIn Leads blame) →
        GivensStuck (modes_of forms) (subjects_in forms) (bare rules) hyps AmongRules js goal path blame → IsBlameIn Leads blame
    givens_in [] sorted AmongRules goal path blame here among s = among s
    givens_in (j ∷ js) sorted AmongRules goal path blame here among (inl (same, is)) =
        let outs = outputs-sorted shapes vars (modes_of forms j.form) j.places (sorts_of forms j.form) sorted.0 in
        subst (λ (b : Blame). IsBlameIn Leads b) (sym is)
        (blame_in Leads _ here (subst (λ (x : Goal). HaveSorts shapes vars (outputs_of (modes_of forms) j) (outputs (modes_of forms x.form) (sorts_of forms x.form))) same outs))
    givens_in (j ∷ js) sorted AmongRules goal path blame here among (inr s) = givens_in js sorted.1 AmongRules goal path blame here among s.1

    pub stuck_in : (levels : ℕ) (goal : Goal) (path : List ℕ) (blame : Blame) → IsGoalIn Leads goal path →
        IsStuck (modes_of forms) (subjects_in forms) (bare rules) hyps levels goal path blame → IsBlameIn Leads blame
    unfolding IsStuck
    stuck_in zero goal path blame here s = absurd s
    stuck_in (suc levels) goal path blame here s =
        givens_in hyps.judgements given (RulesStuck (modes_of forms) (subjects_in forms) (bare rules) hyps (IsStuck (modes_of forms) (subjects_in forms) (bare rules) hyps levels) 0 (bare rules) goal path blame) goal path blame here
        (λ among. among_in rules set hyps given Leads down (IsStuck (modes_of forms) (subjects_in forms) (bare rules) hyps levels) (stuck_in levels) 0 (bare rules) goal path blame (usable [] rules set.1) here among) s

pub stuck_goals_are_sorted : StuckGoalsAreSorted
stuck_goals_are_sorted shapes forms rules set hyps vars given levels goal form path blame is sorted s =
    (stuck_in shapes forms vars rules set hyps given (λ goal path. Unit {0}) (λ s rule goal path j before of_form terms only leads. tt) levels goal path blame (record { form = form; is = is; sorted = sorted; leads = tt }) s).0
