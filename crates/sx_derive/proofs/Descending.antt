-- Steps on the way to the stuck goal: what holds behind a premise holds from it on.
use Rattle.std.proofs.Common.{◌≡◌, ℕ, suc, inl, inr, true, false, List, ◌∷◌, Some, None, refl, sym, ◌∙◌}
use Rattle.sx_term.specs.Tree.{Tree}
use Rattle.sx_rules.specs.Instances.{instance}
use Rattle.sx_rules.specs.Rules.{Judgement, Premise, holds, apart, Rule, Hypotheses, judgement_instance}
use Rattle.sx_rules.specs.Modes.{Modes, outputs_of, Goal, goal_of, AllModed}
use Rattle.sx_rules.specs.First.{Answer}
use Rattle.sx_arena.specs.Matching.{Assignment, match_all, filled}
use Rattle.sx_derive.specs.Walk.{are_apart, goal_events}
use Rattle.sx_derive.specs.Quiet.{IsQuiet, first_given}
use Rattle.sx_derive.specs.Stuck.{unequal, mismatch, Blame, path_of, PremisesStuck, IsStuck}
use Rattle.sx_arena.proofs.Filled.{apart-true, true-apart}
use Rattle.sx_derive.proofs.Blamed.{none_reached, is_first}
use Rattle.sx_derive.proofs.Walked.{goal_reached}

module _ (modes subjects : Modes) (rules : List Rule) (hyps : Hypotheses) (moded : AllModed modes rules) (levels budget r : ℕ) (rule : Rule) (goal : Goal) (path : List ℕ) (k : ℕ) (ps : List Premise) (env : Assignment) where
  abbrev from_here : ℕ → List Premise → Assignment → Blame → Type 0
  from_here n rest more blame = PremisesStuck modes subjects rules hyps (IsStuck modes subjects rules hyps levels) r rule goal path n rest more blame

  -- two terms that are apart
  pub descend_apart : (t u : Tree) → are_apart hyps (instance (filled env) t) (instance (filled env) u) ≡ true → (blame : Blame) → from_here (suc k) ps env blame → from_here k (apart t u ∷ ps) env blame
  descend_apart t u e blame h = inl (apart-true hyps (instance (filled env) t) (instance (filled env) u) e, h)

  -- two terms that are not apart
  pub descend_unequal : (t u : Tree) → are_apart hyps (instance (filled env) t) (instance (filled env) u) ≡ false → from_here k (apart t u ∷ ps) env (record { goal = goal; path = path; reason = unequal r k })
  descend_unequal t u e = inr (λ a. (let x = true-apart hyps (instance (filled env) t) (instance (filled env) u) a in let q : true ≡ false = sym x ∙ e in let z : ⊥ = cc in z), refl)

  -- a premise's goal without an answer
  pub descend_below : (j : Judgement) → IsQuiet budget (goal_events modes rules hyps levels (goal_of modes (judgement_instance (filled env) j))) →
      first_given (goal_events modes rules hyps levels (goal_of modes (judgement_instance (filled env) j))) ≡ None →
      (blame : Blame) → IsStuck modes subjects rules hyps levels (goal_of modes (judgement_instance (filled env) j)) (path_of subjects path rule j) blame → from_here k (holds j ∷ ps) env blame
  descend_below j q e blame h =
      let kid = goal_of modes (judgement_instance (filled env) j) in
      inl (λ a d. q.no_stop (none_reached (goal_events modes rules hyps levels kid) a e (goal_reached modes rules hyps moded levels kid a d)), h)

  module _ (j : Judgement) (a : Answer) (e : first_given (goal_events modes rules hyps levels (goal_of modes (judgement_instance (filled env) j))) ≡ Some a) where
    -- a first answer whose outputs do not match
    pub descend_mismatch : match_all (outputs_of modes j) a.1 env ≡ None →
        from_here k (holds j ∷ ps) env (record { goal = goal_of modes (judgement_instance (filled env) j); path = path_of subjects path rule j; reason = mismatch (Some (r, k)) a.1 })
    descend_mismatch m = inr (a, is_first modes subjects rules hyps moded levels (goal_of modes (judgement_instance (filled env) j)) a e, inl (m, refl))

    -- a first answer whose outputs match
    pub descend_more : (more : Assignment) → match_all (outputs_of modes j) a.1 env ≡ Some more → (blame : Blame) → from_here (suc k) ps more blame → from_here k (holds j ∷ ps) env blame
    descend_more more m blame h = inr (a, is_first modes subjects rules hyps moded levels (goal_of modes (judgement_instance (filled env) j)) a e, inr (more, m, h))
