use Rattle.std.proofs.Common.{◌≡◌, ℕ, zero, suc, List, [], ◌∷◌, ◌++◌, ◌⊎◌, inl, inr, Some, None, refl, sym, ap, ◌∙◌, subst}
use Rattle.sx_arena.specs.Matching.{Assignment, match_all, filled}
use Rattle.sx_rules.specs.Rules.{Judgement, Premise, holds, apart, Rule, Hypotheses, judgement_instance}
use Rattle.sx_rules.specs.Modes.{Modes, outputs_of, Goal, goal_of, AllModed}
use Rattle.sx_rules.specs.Orders.{Entry, order_of, IsAtMost}
use Rattle.sx_derive.specs.Walk.{Answer}
use Rattle.sx_derive.specs.Search.{IsFirst}
use Rattle.sx_derive.specs.Stuck.{mismatch, Blame, path_of, PremisesStuck, RulesStuck, GivensStuck, IsStuck}
use Rattle.sx_derive.specs.Laws.{StuckGoalIsUnique}
use Rattle.sx_derive.proofs.Walked.{entry_asymmetric, entry_self}
use Rattle.sx_rules.proofs.Unique.{order_is_unique}

at_most_both : (xs ys : List Entry) → IsAtMost xs ys → IsAtMost ys xs → xs ≡ ys
at_most_both [] [] h k = refl
at_most_both [] (b ∷ ys) h k = absurd k
at_most_both (a ∷ xs) [] h k = absurd h
at_most_both (a ∷ xs) (b ∷ ys) (inl h) (inl k) = absurd (entry_asymmetric a b h k)
at_most_both (a ∷ xs) (b ∷ ys) (inl h) (inr k) = absurd (entry_self a b (sym k.0) h)
at_most_both (a ∷ xs) (b ∷ ys) (inr h) (inl k) = absurd (entry_self b a (sym h.0) k)
at_most_both (a ∷ xs) (b ∷ ys) (inr h) (inr k) =
    let x : a ≡ b = h.0 in
    let y : xs ≡ ys = at_most_both xs ys h.1 k.1 in cc

module _ (modes subjects : Modes) (rules : List Rule) (hyps : Hypotheses) (moded : AllModed modes rules) where
  -- there is at most one first derivation
  pub first_same : (goal : Goal) (a b : Answer) → IsFirst modes rules hyps goal None a → IsFirst modes rules hyps goal None b → a ≡ b
  first_same goal a b h k =
      let e = at_most_both (order_of a.0) (order_of b.0) (h.least b k.derives tt) (k.least a h.derives tt) in
      (order_is_unique modes rules hyps moded goal a b h.derives k.derives [] [] (ap (λ (xs : List Entry). xs ++ []) e)).0

  module _ (B C : Goal → List ℕ → Blame → Type 0) (below : (goal : Goal) (path : List ℕ) (b c : Blame) → B goal path b → C goal path c → b ≡ c) where
    abbrev KidCase : (Goal → List ℕ → Blame → Type 0) → ℕ → Rule → Goal → List ℕ → ℕ → Judgement → List Premise → Assignment → Blame → Answer → Type 0
    KidCase Below r rule goal path k j ps env blame a =
        (match_all (outputs_of modes j) a.1 env ≡ None)
        × (blame ≡ record { goal = goal_of modes (judgement_instance (filled env) j); path = path_of subjects path rule j; reason = mismatch (Some (r, k)) a.1 })
        ⊎ (more : Assignment) × (match_all (outputs_of modes j) a.1 env ≡ Some more) × PremisesStuck modes subjects rules hyps Below r rule goal path (suc k) ps more blame

    kid_same : (r : ℕ) (rule : Rule) (goal : Goal) (path : List ℕ) (k : ℕ) (j : Judgement) (ps : List Premise) (env : Assignment) (b c : Blame) (a : Answer) →
        ((more : Assignment) → PremisesStuck modes subjects rules hyps B r rule goal path (suc k) ps more b → PremisesStuck modes subjects rules hyps C r rule goal path (suc k) ps more c → b ≡ c) →
        KidCase B r rule goal path k j ps env b a → KidCase C r rule goal path k j ps env c a → b ≡ c
    kid_same r rule goal path k j ps env b c a rec (inl x) (inl y) = x.1 ∙ sym y.1
    kid_same r rule goal path k j ps env b c a rec (inl x) (inr y) = let p = x.0 in let q = y.1 in cc
    kid_same r rule goal path k j ps env b c a rec (inr x) (inl y) = let p = x.1 in let q = y.0 in cc
    kid_same r rule goal path k j ps env b c a rec (inr x) (inr y) =
        let same_some : Some x.0 ≡ Some y.0 = sym x.1 ∙ y.1 in
        let same_env : y.0 ≡ x.0 = cc in
        rec x.0 x.2 (subst (λ (more : Assignment). PremisesStuck modes subjects rules hyps C r rule goal path (suc k) ps more c) same_env y.2)

    premises_same : (r : ℕ) (rule : Rule) (goal : Goal) (path : List ℕ) (k : ℕ) (ps : List Premise) (env : Assignment) (b c : Blame) →
        PremisesStuck modes subjects rules hyps B r rule goal path k ps env b → PremisesStuck modes subjects rules hyps C r rule goal path k ps env c → b ≡ c
    premises_same r rule goal path k [] env b c h l = h ∙ sym l
    premises_same r rule goal path k (apart t u ∷ ps) env b c (inl h) (inl l) = premises_same r rule goal path (suc k) ps env b c h.1 l.1
    premises_same r rule goal path k (apart t u ∷ ps) env b c (inl h) (inr l) = absurd (l.0 h.0)
    premises_same r rule goal path k (apart t u ∷ ps) env b c (inr h) (inl l) = absurd (h.0 l.0)
    premises_same r rule goal path k (apart t u ∷ ps) env b c (inr h) (inr l) = h.1 ∙ sym l.1
    premises_same r rule goal path k (holds j ∷ ps) env b c (inl h) (inl l) =
        below (goal_of modes (judgement_instance (filled env) j)) (path_of subjects path rule j) b c h.1 l.1
    premises_same r rule goal path k (holds j ∷ ps) env b c (inl h) (inr l) = absurd (h.0 l.0 l.1.derives)
    premises_same r rule goal path k (holds j ∷ ps) env b c (inr h) (inl l) = absurd (l.0 h.0 h.1.derives)
    premises_same r rule goal path k (holds j ∷ ps) env b c (inr h) (inr l) =
        let same_answer = first_same (goal_of modes (judgement_instance (filled env) j)) l.0 h.0 l.1 h.1 in
        kid_same r rule goal path k j ps env b c h.0 (λ more x y. premises_same r rule goal path (suc k) ps more b c x y) h.2
        (subst (λ (a : Answer). KidCase C r rule goal path k j ps env c a) same_answer l.2)

    rules_same : (r : ℕ) (rs : List Rule) (goal : Goal) (path : List ℕ) (b c : Blame) →
        RulesStuck modes subjects rules hyps B r rs goal path b → RulesStuck modes subjects rules hyps C r rs goal path c → b ≡ c
    rules_same r [] goal path b c h l = h ∙ sym l
    rules_same r (rule ∷ rs) goal path b c (inl h) (inl l) =
        let same_some : Some h.0 ≡ Some l.0 = sym h.1 ∙ l.1 in
        let same_env : l.0 ≡ h.0 = cc in
        premises_same r rule goal path 0 rule.premises h.0 b c h.2
        (subst (λ (env : Assignment). PremisesStuck modes subjects rules hyps C r rule goal path 0 rule.premises env c) same_env l.2)
    rules_same r (rule ∷ rs) goal path b c (inl h) (inr l) = let p = h.1 in let q = l.0 in cc
    rules_same r (rule ∷ rs) goal path b c (inr h) (inl l) = let p = h.0 in let q = l.1 in cc
    rules_same r (rule ∷ rs) goal path b c (inr h) (inr l) = rules_same (suc r) rs goal path b c h.1 l.1

  givens_same : (P Q : Type 0) (js : List Judgement) (goal : Goal) (path : List ℕ) (b c : Blame) → (P → Q → b ≡ c) →
      GivensStuck modes subjects rules hyps P js goal path b → GivensStuck modes subjects rules hyps Q js goal path c → b ≡ c
  givens_same P Q [] goal path b c rest h l = rest h l
  givens_same P Q (j ∷ js) goal path b c rest (inl h) (inl l) = h.1 ∙ sym l.1
  givens_same P Q (j ∷ js) goal path b c rest (inl h) (inr l) = absurd (l.0 h.0)
  givens_same P Q (j ∷ js) goal path b c rest (inr h) (inl l) = absurd (h.0 l.0)
  givens_same P Q (j ∷ js) goal path b c rest (inr h) (inr l) = givens_same P Q js goal path b c rest h.1 l.1

  stuck_same : (n m : ℕ) (goal : Goal) (path : List ℕ) (b c : Blame) →
      IsStuck modes subjects rules hyps n goal path b → IsStuck modes subjects rules hyps m goal path c → b ≡ c
  unfolding IsStuck
  stuck_same zero m goal path b c h l = absurd h
  stuck_same (suc n) zero goal path b c h l = absurd l
  stuck_same (suc n) (suc m) goal path b c h l =
      let B = IsStuck modes subjects rules hyps n in
      let C = IsStuck modes subjects rules hyps m in
      givens_same (RulesStuck modes subjects rules hyps B 0 rules goal path b) (RulesStuck modes subjects rules hyps C 0 rules goal path c) hyps.judgements goal path b c
      (rules_same B C (stuck_same n m) 0 rules goal path b c) h l

pub stuck_goal_is_unique : StuckGoalIsUnique
stuck_goal_is_unique modes subjects rules hyps moded goal path levels others one other h l =
    stuck_same modes subjects rules hyps moded levels others goal path one other h l
