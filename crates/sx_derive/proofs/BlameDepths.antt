-- Depths of the terms that a stuck goal tells.
use Rattle.std.proofs.Common.{◌≡◌, ℕ, zero, suc, ◌-◌, Bool, true, false, List, [], ◌∷◌, ◌++◌, inl, inr, length, Option, Some, None, refl, sym, ap, ◌∙◌, subst, arith}
use Rattle.std.specs.Prelude.{nat_eq}
use Rattle.sx_rules.specs.Deep.{AreShallow}
use Rattle.sx_rules.specs.Instances.{instance}
use Rattle.sx_rules.specs.Rules.{Judgement, Premise, holds, apart, Rule, Hypotheses}
use Rattle.sx_rules.specs.Rules.{judgement_instance}
use Rattle.sx_rules.specs.Modes.{Modes, inputs_of, outputs_of, Goal, goal_of, AllModed}
use Rattle.sx_rules.specs.Derivations.{Proof, Proofs, by, ShallowJudgements}
use Rattle.sx_rules.specs.First.{Answer, IsFirst}
use Rattle.sx_arena.specs.Matching.{Assignment, nothing_bound, match_all, filled}
use Rattle.sx_arena.proofs.Matchings.{when_true}
use Rattle.sx_arena.proofs.Filled.{true-apart}
use Rattle.sx_derive.specs.Walk.{Cause, Event, try, give, stop, then_each, when, when_matched}
use Rattle.sx_derive.specs.Walk.{limit_passed, unless_passed, are_apart, put_first, after_kid}
use Rattle.sx_derive.specs.Walk.{premise_events, first_values, conclude, after_match, rule_events}
use Rattle.sx_derive.specs.Walk.{rules_events, given_events, goal_events, events}
use Rattle.sx_derive.specs.Search.{EachGiven, HasStop}
use Rattle.sx_derive.specs.Quiet.{count, IsQuiet, first_given}
use Rattle.sx_derive.specs.Stuck.{Blame, path_of, PremisesStuck, RulesStuck, GivensStuck, IsStuck}
use Rattle.sx_derive.specs.BlameTerms.{BlameIsShallow}
use Rattle.sx_derive.specs.Laws.{StuckGoalIsShallow}
use Rattle.sx_derive.proofs.Blamed.{none_reached, first_least, is_first}
use Rattle.sx_derive.proofs.BlamedOnce.{first_same}
use Rattle.sx_arena.proofs.Kept.{limit_shallow}
use Rattle.sx_derive.proofs.Bounded.{IsBoundedAnswer, events_bounded, shallow_outputs}
use Rattle.sx_derive.proofs.Quiet.{quiet_left, quiet_right, quiet_each, quiet_when, quiet_matched, quiet_apart, quiet_goal, quiet_rest}
use Rattle.sx_derive.proofs.Walked.{goal_reached}

-- ---- what is given by a part of the events

quiet_tried : {A : Type 0} (n : ℕ) (es : List (Event A)) → IsQuiet n (try ∷ es) → IsQuiet n es
quiet_tried n es q = record { no_stop = q.no_stop; few = (let l = q.few in omega arith) }

first_gives : {A B : Type 0} (P : B → Type 0) (f : A → List (Event B)) (es : List (Event A)) (a : A) → first_given es ≡ Some a → EachGiven P (then_each f es) → EachGiven P (f a)
first_gives P f [] a e h = cc
first_gives P f (try ∷ es) a e h = first_gives P f es a e h
first_gives P f (stop c ∷ es) a e h = cc
first_gives {A} P f (give b ∷ es) a e h = let same_one : b ≡ a = cc in subst (λ (x : A). EachGiven P (f x)) same_one (left_gives P (f b) (then_each f es) h)
  where
    left_gives : {B : Type 0} (P : B → Type 0) (xs ys : List (Event B)) → EachGiven P (xs ++ ys) → EachGiven P xs
    left_gives P [] ys h = tt
    left_gives P (try ∷ xs) ys h = left_gives P xs ys h
    left_gives P (stop c ∷ xs) ys h = left_gives P xs ys h
    left_gives P (give b ∷ xs) ys h = (h.0, left_gives P xs ys h.1)

when_gives : {A : Type 0} (P : A → Type 0) (b : Bool) (es : List (Event A)) → b ≡ true → EachGiven P (when b es) → EachGiven P es
when_gives P true es e h = h
when_gives P false es e h = cc

matched_gives : {A : Type 0} (P : A → Type 0) (m : Option Assignment) (f : Assignment → List (Event A)) (env : Assignment) → m ≡ Some env → EachGiven P (when_matched m f) → EachGiven P (f env)
matched_gives P None f env e h = cc
matched_gives P (Some more) f env e h = let same_env : more ≡ env = cc in subst (λ (x : Assignment). EachGiven P (f x)) same_env h

unless_gives : {A : Type 0} (P : A → Type 0) (c : Option Cause) (es : List (Event A)) → c ≡ None → EachGiven P (unless_passed c es) → EachGiven P es
unless_gives P None es e h = h
unless_gives P (Some c) es e h = cc

module _ (modes : Modes) (r : ℕ) (rule : Rule) where
  -- the outputs of the conclusion pass no limit
  abbrev EndsWithin : Assignment × Proofs → Type 0
  EndsWithin x = limit_passed (outputs_of modes (judgement_instance (filled x.0) rule.conclusion)) ≡ None

  put_gives : (kid : Proof) (es : List (Event (Assignment × Proofs))) → EachGiven EndsWithin (then_each (put_first kid) es) → EachGiven EndsWithin es
  put_gives kid [] h = tt
  put_gives kid (try ∷ es) h = put_gives kid es h
  put_gives kid (stop c ∷ es) h = put_gives kid es h
  put_gives kid (give x ∷ es) h = (h.0, put_gives kid es h.1)

  concludes_within : (es : List (Event (Assignment × Proofs))) → (HasStop (then_each (conclude modes r rule) es) → ⊥) → EachGiven EndsWithin es
  concludes_within [] n = tt
  concludes_within (try ∷ es) n = concludes_within es n
  concludes_within (stop c ∷ es) n = absurd (n tt)
  concludes_within (give x ∷ es) n = go (limit_passed (outputs_of modes (judgement_instance (filled x.0) rule.conclusion))) refl n (λ m. concludes_within es m)
    where
      answer : Answer
      answer = (by r (first_values (length rule.sorts) (filled x.0)) x.1, outputs_of modes (judgement_instance (filled x.0) rule.conclusion))

      go : (c : Option Cause) → limit_passed (outputs_of modes (judgement_instance (filled x.0) rule.conclusion)) ≡ c →
          (HasStop (unless_passed c (give answer ∷ []) ++ then_each (conclude modes r rule) es) → ⊥) →
          ((HasStop (then_each (conclude modes r rule) es) → ⊥) → EachGiven EndsWithin es) → EachGiven EndsWithin (give x ∷ es)
      go None e m rest = (e, rest m)
      go (Some c) e m rest = absurd (m tt)

module _ (modes subjects : Modes) (rules : List Rule) (hyps : Hypotheses) (moded : AllModed modes rules) (hyps_shallow : ShallowJudgements hyps.judgements) where
  -- what is first derives the first answer given
  first_is : (levels : ℕ) (kid : Goal) (a : Answer) → (HasStop (goal_events modes rules hyps levels kid) → ⊥) → IsFirst modes rules hyps kid None a →
      first_given (goal_events modes rules hyps levels kid) ≡ Some a
  first_is levels kid a n first = go (first_given (goal_events modes rules hyps levels kid)) refl
    where
      go : (o : Option Answer) → first_given (goal_events modes rules hyps levels kid) ≡ o → first_given (goal_events modes rules hyps levels kid) ≡ Some a
      go None e = absurd (n (none_reached (goal_events modes rules hyps levels kid) a e (goal_reached modes rules hyps moded levels kid a first.derives)))
      go (Some b) e = e ∙ ap (λ (x : Answer). Some x) (first_same modes subjects rules hyps moded kid b a (is_first modes subjects rules hyps moded levels kid b e) first)

  module _ (levels n : ℕ) (Below : Goal → List ℕ → Blame → Type 0)
      (below : (goal : Goal) (path : List ℕ) (blame : Blame) → AreShallow goal.terms → IsQuiet n (goal_events modes rules hyps levels goal) → Below goal path blame → BlameIsShallow blame) where
    premises_shallow : (r : ℕ) (rule : Rule) (goal : Goal) (path : List ℕ) (k : ℕ) (ps : List Premise) (env : Assignment) (blame : Blame) →
        AreShallow goal.terms → IsQuiet n (premise_events modes hyps (goal_events modes rules hyps levels) ps env) →
        EachGiven (EndsWithin modes r rule) (premise_events modes hyps (goal_events modes rules hyps levels) ps env) →
        PremisesStuck modes subjects rules hyps Below r rule goal path k ps env blame → BlameIsShallow blame
    premises_shallow r rule goal path k [] env blame g q w s =
        subst (λ (b : Blame). BlameIsShallow b) (sym s) (g, limit_shallow (outputs_of modes (judgement_instance (filled env) rule.conclusion)) w.0)
    premises_shallow r rule goal path k (apart t u ∷ ps) env blame g q w (inl s) =
        let e = true-apart hyps (instance (filled env) t) (instance (filled env) u) s.0 in
        let next = premise_events modes hyps (goal_events modes rules hyps levels) ps env in
        premises_shallow r rule goal path (suc k) ps env blame g (quiet_apart modes hyps (goal_events modes rules hyps levels) n t u ps env e q)
        (when_gives (EndsWithin modes r rule) (are_apart hyps (instance (filled env) t) (instance (filled env) u)) next e w) s.1
    premises_shallow r rule goal path k (apart t u ∷ ps) env blame g q w (inr s) = subst (λ (b : Blame). BlameIsShallow b) (sym s.1) (g, tt)
    premises_shallow r rule goal path k (holds j ∷ ps) env blame g q w (inl s) =
        let kid = quiet_goal modes hyps (goal_events modes rules hyps levels) n j ps env q in
        below (goal_of modes (judgement_instance (filled env) j)) (path_of subjects path rule j) blame (limit_shallow (inputs_of modes (judgement_instance (filled env) j)) kid.0) kid.1 s.1
    premises_shallow r rule goal path k (holds j ∷ ps) env blame g q w (inr (a, first, inl s)) =
        let kid = quiet_goal modes hyps (goal_events modes rules hyps levels) n j ps env q in
        let kid_goal = goal_of modes (judgement_instance (filled env) j) in
        let shallow = limit_shallow (inputs_of modes (judgement_instance (filled env) j)) kid.0 in
        let e = first_is levels kid_goal a kid.1.no_stop first in
        let got = first_least (IsBoundedAnswer levels) (goal_events modes rules hyps levels kid_goal) a e (events_bounded modes rules hyps hyps_shallow levels kid_goal shallow) in
        subst (λ (b : Blame). BlameIsShallow b) (sym s.1) (shallow, got.2)
    premises_shallow r rule goal path k (holds j ∷ ps) env blame g q w (inr (a, first, inr (more, m, s))) =
        let evs = goal_events modes rules hyps levels in
        let kid = quiet_goal modes hyps evs n j ps env q in
        let kid_goal = goal_of modes (judgement_instance (filled env) j) in
        let next = premise_events modes hyps evs ps in
        let f = after_kid next (outputs_of modes j) env in
        let e = first_is levels kid_goal a kid.1.no_stop first in
        let w1 = unless_gives (EndsWithin modes r rule) (limit_passed (inputs_of modes (judgement_instance (filled env) j))) (then_each f (evs kid_goal)) kid.0 w in
        let w2 = first_gives (EndsWithin modes r rule) f (evs kid_goal) a e w1 in
        let w3 = matched_gives (EndsWithin modes r rule) (match_all (outputs_of modes j) a.1 env) (λ x. then_each (put_first a.0) (next x)) more m w2 in
        premises_shallow r rule goal path (suc k) ps more blame g (quiet_rest modes hyps evs n j ps env more a e m q) (put_gives modes r rule a.0 (next more) w3) s

    among_shallow : (r : ℕ) (rs : List Rule) (goal : Goal) (path : List ℕ) (blame : Blame) → AreShallow goal.terms →
        IsQuiet n (rules_events modes hyps (goal_events modes rules hyps levels) r rs goal) →
        RulesStuck modes subjects rules hyps Below r rs goal path blame → BlameIsShallow blame
    among_shallow r [] goal path blame g q s = subst (λ (b : Blame). BlameIsShallow b) (sym s) (g, tt)
    among_shallow r (rule ∷ rs) goal path blame g q (inl (env, e, s)) =
        let evs = goal_events modes rules hyps levels in
        let m = when_true (nat_eq rule.conclusion.form goal.form) (match_all (inputs_of modes rule.conclusion) goal.terms nothing_bound) env e in
        let here = quiet_left n (rule_events modes hyps evs r rule goal) (rules_events modes hyps evs (suc r) rs goal) (quiet_tried n _ q) in
        let q1 = quiet_when n (nat_eq rule.conclusion.form goal.form) (when_matched (match_all (inputs_of modes rule.conclusion) goal.terms nothing_bound) (after_match modes hyps evs r rule)) m.0 here in
        let q2 = quiet_matched n (match_all (inputs_of modes rule.conclusion) goal.terms nothing_bound) (after_match modes hyps evs r rule) env m.1 q1 in
        let q3 = quiet_each n (conclude modes r rule) (premise_events modes hyps evs rule.premises env) q2 in
        premises_shallow r rule goal path 0 rule.premises env blame g q3 (concludes_within modes r rule (premise_events modes hyps evs rule.premises env) q2.no_stop) s
    among_shallow r (rule ∷ rs) goal path blame g q (inr s) =
        let evs = goal_events modes rules hyps levels in
        among_shallow (suc r) rs goal path blame g (quiet_right n (rule_events modes hyps evs r rule goal) (rules_events modes hyps evs (suc r) rs goal) (quiet_tried n _ q)) s.1

  given_shallow : (AmongRules : Type 0) (js : List Judgement) (goal : Goal) (path : List ℕ) (blame : Blame) → ShallowJudgements js → AreShallow goal.terms →
      (AmongRules → BlameIsShallow blame) → GivensStuck modes subjects rules hyps AmongRules js goal path blame → BlameIsShallow blame
  given_shallow AmongRules [] goal path blame t g rest s = rest s
  given_shallow AmongRules (j ∷ js) goal path blame t g rest (inl s) = subst (λ (b : Blame). BlameIsShallow b) (sym s.1) (g, shallow_outputs (modes j.form) j.places t.0)
  given_shallow AmongRules (j ∷ js) goal path blame t g rest (inr s) = given_shallow AmongRules js goal path blame t.1 g rest s.1

  stuck_shallow : (levels n : ℕ) (goal : Goal) (path : List ℕ) (blame : Blame) → AreShallow goal.terms → IsQuiet n (goal_events modes rules hyps levels goal) →
      IsStuck modes subjects rules hyps levels goal path blame → BlameIsShallow blame
  unfolding goal_events IsStuck
  stuck_shallow zero n goal path blame g q s = absurd s
  stuck_shallow (suc levels) n goal path blame g q s =
      let Below = IsStuck modes subjects rules hyps levels in
      given_shallow (RulesStuck modes subjects rules hyps Below 0 rules goal path blame) hyps.judgements goal path blame hyps_shallow g
      (among_shallow levels n Below (stuck_shallow levels n) 0 rules goal path blame g
      (quiet_right n (given_events modes 0 hyps.judgements goal) (rules_events modes hyps (goal_events modes rules hyps levels) 0 rules goal) q)) s

pub stuck_goal_is_shallow : StuckGoalIsShallow
unfolding events
stuck_goal_is_shallow modes subjects rules hyps moded hyps_shallow depth goal path blame g n s =
    stuck_shallow modes subjects rules hyps moded hyps_shallow (3001 - depth) (count (goal_events modes rules hyps (3001 - depth) goal)) goal path blame g
    (record { no_stop = n; few = omega arith }) s
