-- Core texts of the terms that a stuck goal tells.
use Rattle.std.proofs.Common.{◌≡◌, ℕ, zero, suc, List, [], ◌∷◌, ◌⊎◌, inl, inr, Option, Some, None, refl, sym, ap, ◌∙◌, subst, arith}
use Rattle.std.specs.Prelude.{nat_eq}
use Rattle.sx_term.specs.Tree.{Tree}
use Rattle.sx_term.specs.Core.{HasCore}
use Rattle.sx_rules.specs.Instances.{StandsAmong}
use Rattle.sx_rules.specs.Rules.{Judgement, Premise, holds, apart, Rule, Hypotheses}
use Rattle.sx_rules.specs.Rules.{judgement_instance}
use Rattle.sx_rules.specs.Modes.{Modes, inputs_of, outputs_of, Goal, goal_of, AllModed}
use Rattle.sx_rules.specs.Writable.{HaveTexts, JudgementsHaveTexts, PremisesHaveTexts}
use Rattle.sx_rules.specs.Writable.{RulesHaveTexts}
use Rattle.sx_rules.proofs.Texts.{map_instance-texts, map_text-variables, inputs-texts, outputs-texts, outputs_have_texts}
use Rattle.sx_arena.specs.Matching.{Assignment, nothing_bound, match_all, value_or, filled, IsBound}
use Rattle.sx_arena.proofs.Matchings.{MatchesAll, match_all-matches, when_true}
use Rattle.sx_arena.proofs.Exact.{filled_agrees}
use Rattle.sx_derive.specs.Stuck.{Blame, path_of, PremisesStuck, RulesStuck, GivensStuck, IsStuck}
use Rattle.sx_derive.specs.BlameTerms.{BlameHasTexts}
use Rattle.sx_derive.specs.Laws.{StuckGoalHasTexts}

-- what is bound has core texts
abbrev HasTextValues : Assignment → Type 0
HasTextValues env = (v : ℕ) (u : Tree) → env v ≡ Some u → HasCore u

unbound_texts : HasTextValues nothing_bound
unbound_texts v u e = cc

match_texts : (ps ts : List Tree) (env more : Assignment) → match_all ps ts env ≡ Some more → HaveTexts ts → HasTextValues env → HasTextValues more
match_texts ps ts env more e h k v u q = go (m.only v (u, q))
  where
    m : MatchesAll ps ts env more
    m = match_all-matches ps ts env more e

    go : IsBound env v ⊎ StandsAmong v ps → HasCore u
    go (inl x) =
        let same_some : Some x.0 ≡ Some u = sym (m.extends v x.0 x.1) ∙ q in
        let same_term : x.0 ≡ u = cc in subst (λ (t : Tree). HasCore t) same_term (k v x.0 x.1)
    go (inr x) =
        let all = subst (λ (us : List Tree). HaveTexts us) (sym (m.instance_is (filled more) (filled_agrees more))) h in
        subst (λ (t : Tree). HasCore t) (ap value_or q) (map_text-variables (filled more) ps all v x)

value_texts : (env : Assignment) → HasTextValues env → (v : ℕ) → HasCore (filled env v)
value_texts env h v = go (env v) refl
  where
    go : (o : Option Tree) → env v ≡ o → HasCore (value_or o)
    go None e = (omega arith, tt)
    go (Some u) e = h v u e

-- the terms of an instance
instance_texts : (env : Assignment) → HasTextValues env → (j : Judgement) → HaveTexts j.places → HaveTexts (judgement_instance (filled env) j).places
instance_texts env h j t = map_instance-texts (filled env) j.places t (λ v k. value_texts env h v)

module _ (modes subjects : Modes) (rules : List Rule) (hyps : Hypotheses) (moded : AllModed modes rules) (rules_texts : RulesHaveTexts rules) (hyps_texts : JudgementsHaveTexts hyps.judgements) where
  kid_texts : (env : Assignment) → HasTextValues env → (j : Judgement) → HaveTexts j.places → HaveTexts (inputs_of modes (judgement_instance (filled env) j))
  kid_texts env h j t = inputs-texts (modes j.form) (judgement_instance (filled env) j).places (instance_texts env h j t)

  made_texts : (env : Assignment) → HasTextValues env → (j : Judgement) → HaveTexts j.places → HaveTexts (outputs_of modes (judgement_instance (filled env) j))
  made_texts env h j t = outputs-texts (modes j.form) (judgement_instance (filled env) j).places (instance_texts env h j t)

  module _ (Below : Goal → List ℕ → Blame → Type 0) (below : (goal : Goal) (path : List ℕ) (blame : Blame) → HaveTexts goal.terms → Below goal path blame → BlameHasTexts blame) where
    premises_texts : (r : ℕ) (rule : Rule) (goal : Goal) (path : List ℕ) (k : ℕ) (ps : List Premise) (env : Assignment) (blame : Blame) →
        HaveTexts goal.terms → HaveTexts rule.conclusion.places → PremisesHaveTexts ps → HasTextValues env →
        PremisesStuck modes subjects rules hyps Below r rule goal path k ps env blame → BlameHasTexts blame
    premises_texts r rule goal path k [] env blame g c p h s = subst (λ (b : Blame). BlameHasTexts b) (sym s) (g, made_texts env h rule.conclusion c)
    premises_texts r rule goal path k (apart t u ∷ ps) env blame g c p h (inl s) = premises_texts r rule goal path (suc k) ps env blame g c p h s.1
    premises_texts r rule goal path k (apart t u ∷ ps) env blame g c p h (inr s) = subst (λ (b : Blame). BlameHasTexts b) (sym s.1) (g, tt)
    premises_texts r rule goal path k (holds j ∷ ps) env blame g c p h (inl s) =
        below (goal_of modes (judgement_instance (filled env) j)) (path_of subjects path rule j) blame (kid_texts env h j p.0) s.1
    premises_texts r rule goal path k (holds j ∷ ps) env blame g c p h (inr (a, first, inl s)) =
        let kid = kid_texts env h j p.0 in
        let got = outputs_have_texts modes rules hyps moded rules_texts hyps_texts (goal_of modes (judgement_instance (filled env) j)) a kid first.derives in
        subst (λ (b : Blame). BlameHasTexts b) (sym s.1) (kid, got)
    premises_texts r rule goal path k (holds j ∷ ps) env blame g c p h (inr (a, first, inr (more, e, s))) =
        let kid = kid_texts env h j p.0 in
        let got = outputs_have_texts modes rules hyps moded rules_texts hyps_texts (goal_of modes (judgement_instance (filled env) j)) a kid first.derives in
        premises_texts r rule goal path (suc k) ps more blame g c p.1 (match_texts (outputs_of modes j) a.1 env more e got h) s

    among_texts : (r : ℕ) (rs : List Rule) (goal : Goal) (path : List ℕ) (blame : Blame) → RulesHaveTexts rs → HaveTexts goal.terms →
        RulesStuck modes subjects rules hyps Below r rs goal path blame → BlameHasTexts blame
    among_texts r [] goal path blame t g s = subst (λ (b : Blame). BlameHasTexts b) (sym s) (g, tt)
    among_texts r (rule ∷ rs) goal path blame t g (inl (env, e, s)) =
        let m = when_true (nat_eq rule.conclusion.form goal.form) (match_all (inputs_of modes rule.conclusion) goal.terms nothing_bound) env e in
        premises_texts r rule goal path 0 rule.premises env blame g t.0.1 t.0.0 (match_texts (inputs_of modes rule.conclusion) goal.terms nothing_bound env m.1 g unbound_texts) s
    among_texts r (rule ∷ rs) goal path blame t g (inr s) = among_texts (suc r) rs goal path blame t.1 g s.1

  given_texts : (AmongRules : Type 0) (js : List Judgement) (goal : Goal) (path : List ℕ) (blame : Blame) → JudgementsHaveTexts js → HaveTexts goal.terms →
      (AmongRules → BlameHasTexts blame) → GivensStuck modes subjects rules hyps AmongRules js goal path blame → BlameHasTexts blame
  given_texts AmongRules [] goal path blame t g rest s = rest s
  given_texts AmongRules (j ∷ js) goal path blame t g rest (inl s) = subst (λ (b : Blame). BlameHasTexts b) (sym s.1) (g, outputs-texts (modes j.form) j.places t.0)
  given_texts AmongRules (j ∷ js) goal path blame t g rest (inr s) = given_texts AmongRules js goal path blame t.1 g rest s.1

  stuck_texts : (levels : ℕ) (goal : Goal) (path : List ℕ) (blame : Blame) → HaveTexts goal.terms → IsStuck modes subjects rules hyps levels goal path blame → BlameHasTexts blame
  unfolding IsStuck
  stuck_texts zero goal path blame g s = absurd s
  stuck_texts (suc levels) goal path blame g s =
      let Below = IsStuck modes subjects rules hyps levels in
      given_texts (RulesStuck modes subjects rules hyps Below 0 rules goal path blame) hyps.judgements goal path blame hyps_texts g
      (among_texts Below (stuck_texts levels) 0 rules goal path blame rules_texts g) s

pub stuck_goal_has_texts : StuckGoalHasTexts
stuck_goal_has_texts modes subjects rules hyps moded rules_texts hyps_texts levels goal path blame g s =
    stuck_texts modes subjects rules hyps moded rules_texts hyps_texts levels goal path blame g s
