-- The premise without an answer of a goal's first candidate, where those before it hold.
use Rattle.std.proofs.Common.{◌≡◌, ℕ, zero, suc, ◌+◌, inl, inr, true, List, [], ◌∷◌, Option, Some, None, refl, sym, ap, ◌∙◌, arith, subst}
use Rattle.std.specs.Prelude.{slice_get}
use Rattle.sx_rules.specs.Rules.{Judgement, Premise, holds, apart, Rule, Hypotheses, judgement_instance}
use Rattle.sx_rules.specs.Modes.{Modes, inputs_of, outputs_of, Goal, goal_of, AllModed}
use Rattle.sx_arena.specs.Matching.{Assignment, ExtendsAssignment, match_all, filled}
use Rattle.sx_arena.proofs.Matchings.{match_all-matches}
use Rattle.sx_derive.specs.Binding.{binds_terms}
use Rattle.sx_derive.specs.Descents.{PremisesLead}
use Rattle.sx_derive.specs.Failing.{FailsAlong, PremisesFail}
use Rattle.sx_derive.specs.Quiet.{IsQuiet, first_given}
use Rattle.sx_derive.specs.Stuck.{Blame, path_of, IsStuck}
use Rattle.sx_derive.specs.Walk.{Event, Answer, limit_passed, goal_events, premise_events}
use Rattle.sx_derive.proofs.Bound.{inputs_same}
use Rattle.sx_derive.proofs.Descending.{descend_apart, descend_below, descend_more}
use Rattle.sx_derive.proofs.Quiet.{quiet_apart, quiet_goal, quiet_rest}

module _ (modes : Modes) (rules : List Rule) (hyps : Hypotheses) (levels : ℕ) where
  abbrev FailFrom : ℕ → ℕ → List ℕ → List Premise → Assignment → Type 0
  FailFrom i k ks ps env = PremisesFail modes rules hyps (FailsAlong modes rules hyps levels) (goal_events modes rules hyps levels) i k ks ps env

  abbrev first_of : Assignment → Judgement → Option Answer
  first_of env j = first_given (goal_events modes rules hyps levels (goal_of modes (judgement_instance (filled env) j)))

  -- at the premise that is noted
  pub here_fails : (k : ℕ) (ks : List ℕ) (j : Judgement) (ps : List Premise) (env : Assignment) → FailFrom k k ks (holds j ∷ ps) env →
      (first_of env j ≡ None) × FailsAlong modes rules hyps levels (goal_of modes (judgement_instance (filled env) j)) ks
  here_fails k ks j ps env (inl f) = (f.1, f.2)
  here_fails k ks j ps env (inr f) = absurd (f.0 refl)

  -- at a premise before it
  pub rest_fails : (i k : ℕ) (ks : List ℕ) (j : Judgement) (ps : List Premise) (env more : Assignment) (a : Answer) → (i ≡ k → ⊥) → first_of env j ≡ Some a → match_all (outputs_of modes j) a.1 env ≡ Some more →
      FailFrom i k ks (holds j ∷ ps) env → FailFrom (suc i) k ks ps more
  rest_fails i k ks j ps env more a d e m (inl f) = absurd (d f.0)
  rest_fails i k ks j ps env more a d e m (inr f) =
      let same_answer : f.1.0 ≡ a = (let z = sym f.1.2 ∙ e in cc) in
      let same_env : f.1.1 ≡ more = (let z : Some f.1.1 ≡ Some more = sym f.1.3 ∙ ap (λ (y : Answer). match_all (outputs_of modes j) y.1 env) same_answer ∙ m in cc) in
      subst (λ (y : Assignment). FailFrom (suc i) k ks ps y) same_env f.1.4

module _ (modes subjects : Modes) (rules : List Rule) (hyps : Hypotheses) (moded : AllModed modes rules) (budget levels number : ℕ) (rule : Rule) (goal : Goal) (path : List ℕ) (k : ℕ) (ks : List ℕ) where
  abbrev below : Goal → List (Event Answer)
  below = goal_events modes rules hyps levels

  abbrev asked : Assignment → Judgement → Goal
  asked env j = goal_of modes (judgement_instance (filled env) j)

  abbrev From : ℕ → List Premise → Assignment → Blame → Type 0
  From i ps env blame = PremisesLead modes subjects rules hyps budget levels number rule goal path i ps env blame

  -- under an assignment that goes on from that one the judgement's goal is quiet, fails as the notes say, and leads on
  abbrev pub FailsLater : Judgement → ℕ → List Premise → Assignment → Type 0
  FailsLater j i ps env =
      (later : Assignment) × ExtendsAssignment env later × (limit_passed (inputs_of modes (judgement_instance (filled later) j)) ≡ None)
      × IsQuiet budget (below (asked later j)) × FailsAlong modes rules hyps levels (asked later j) ks
      × ((blame : Blame) → IsStuck modes subjects rules hyps levels (asked later j) (path_of subjects path rule j) blame → From i ps env blame)

  fails_here : (j : Judgement) (ps : List Premise) (i : ℕ) (env : Assignment) → IsQuiet budget (premise_events modes hyps below (holds j ∷ ps) env) →
      first_given (below (asked env j)) ≡ None → FailsAlong modes rules hyps levels (asked env j) ks → FailsLater j i (holds j ∷ ps) env
  fails_here j ps i env q e f =
      let u = quiet_goal modes hyps below budget j ps env q in
      (env, (λ v t h. h), u.0, u.1, f, λ blame h. descend_below modes subjects rules hyps moded levels budget number rule goal path i ps env j u.1 e blame h)

  pub fails_later : (j : Judgement) (ps : List Premise) (i n : ℕ) (env : Assignment) → i + n ≡ k → slice_get ps n ≡ Some (holds j) → IsQuiet budget (premise_events modes hyps below ps env) →
      PremisesFail modes rules hyps (FailsAlong modes rules hyps levels) below i k ks ps env → FailsLater j i ps env
  fails_later j [] i n env e s q f = absurd f
  fails_later j (apart t u ∷ ps) i zero env e s q f = cc
  fails_later j (apart t u ∷ ps) i (suc n) env e s q f =
      let x = fails_later j ps (suc i) n env (omega arith) s (quiet_apart modes hyps below budget t u ps env f.0 q) f.1 in
      (x.0, x.1, x.2, x.3, x.4, λ blame h. descend_apart modes subjects rules hyps moded levels budget number rule goal path i ps env t u f.0 blame (x.5 blame h))
  fails_later j (holds h ∷ ps) i zero env e s q (inl f) =
      let same : h ≡ j = cc in
      subst (λ (x : Judgement). FailsLater x i (holds h ∷ ps) env) same (fails_here h ps i env q f.1 f.2)
  fails_later j (holds h ∷ ps) i (suc n) env e s q (inl f) = let same = f.0 in absurd (omega arith)
  fails_later j (holds h ∷ ps) i zero env e s q (inr f) = absurd (f.0 (omega arith))
  fails_later j (holds h ∷ ps) i (suc n) env e s q (inr f) =
      let a = f.1.0 in
      let more = f.1.1 in
      let m = match_all-matches (outputs_of modes h) a.1 env more f.1.3 in
      let x = fails_later j ps (suc i) n more (omega arith) s (quiet_rest modes hyps below budget h ps env more a f.1.2 f.1.3 q) f.1.4 in (
        x.0,
        (λ v t b. x.1 v t (m.extends v t b)),
        x.2,
        x.3,
        x.4,
        λ blame b. descend_more modes subjects rules hyps moded levels budget number rule goal path i ps env h a f.1.2 more f.1.3 blame (x.5 blame b),
      )

  -- where all variables of the judgement's inputs are bound, it is the goal under that assignment
  pub fails_bound : (j : Judgement) (ps : List Premise) (env : Assignment) → slice_get ps k ≡ Some (holds j) → binds_terms env (inputs_of modes j) ≡ true → IsQuiet budget (premise_events modes hyps below ps env) →
      PremisesFail modes rules hyps (FailsAlong modes rules hyps levels) below 0 k ks ps env →
      (limit_passed (inputs_of modes (judgement_instance (filled env) j)) ≡ None) × IsQuiet budget (below (asked env j)) × FailsAlong modes rules hyps levels (asked env j) ks
      × ((blame : Blame) → IsStuck modes subjects rules hyps levels (asked env j) (path_of subjects path rule j) blame → From 0 ps env blame)
  fails_bound j ps env s b q f =
      let x = fails_later j ps 0 k env (omega arith) s q f in
      let same : inputs_of modes (judgement_instance (filled x.0) j) ≡ inputs_of modes (judgement_instance (filled env) j) = inputs_same env x.0 x.1 modes j b in
      let goal_same : asked x.0 j ≡ asked env j = (λ i. record { form = j.form; terms = same i }) in (
        sym (ap limit_passed same) ∙ x.2,
        subst (λ (g : Goal). IsQuiet budget (below g)) goal_same x.3,
        subst (λ (g : Goal). FailsAlong modes rules hyps levels g ks) goal_same x.4,
        λ blame h. x.5 blame (subst (λ (g : Goal). IsStuck modes subjects rules hyps levels g (path_of subjects path rule j) blame) (sym goal_same) h),
      )
