-- The events of a rule's premises, one premise after the other.
use Rattle.std.proofs.Common.{◌≡◌, ℕ, Bool, List, [], ◌∷◌, ◌++◌, length, Option, Some, None, refl, ap, ◌∙◌, append_assoc}
use Rattle.std.proofs.lemmas.List.{append-nil}
use Rattle.sx_term.specs.Tree.{Tree}
use Rattle.sx_rules.specs.Derivations.{Proofs, by, no_more, ◌⊳◌}
use Rattle.sx_rules.specs.Instances.{instance}
use Rattle.sx_rules.specs.Rules.{Judgement, Premise, holds, apart, Rule, Hypotheses, judgement_instance}
use Rattle.sx_rules.specs.Modes.{Modes, inputs_of, outputs_of, Goal, goal_of}
use Rattle.sx_arena.specs.Matching.{Assignment, match_all, filled}
use Rattle.sx_derive.specs.Halting.{HaltsAfter}
use Rattle.sx_derive.specs.Machine.{Frame, joined_proofs, premises_after, after_frame}
use Rattle.sx_derive.specs.Walk.{Cause, depth_spent, Event, give, stop, Answer, tries_then, then_each, when, when_matched}
use Rattle.sx_derive.specs.Walk.{limit_passed, unless_passed, are_apart, first_values, conclude}
use Rattle.sx_derive.specs.Walk.{after_kid, premise_events, goal_events}
use Rattle.sx_derive.specs.declared.tasks.Ending.{Ending as EndingOf}
use Rattle.sx_derive.proofs.Halted.{halts_append, halts_each, halts_as}
use Rattle.sx_derive.proofs.Stepped.{then_each-then_each, then_each-same, then_each-when, kid_after, joined_proofs-none}
use Rattle.sx_derive.proofs.Tries.{tries-append, tries-each}

unless_none : {A : Type 0} (c : Option Cause) (es : List (Event A)) → c ≡ None → unless_passed c es ≡ es
unless_none None es e = refl
unless_none (Some c) es e = cc

module _ (modes : Modes) (rules : List Rule) (hyps : Hypotheses) (r : ℕ) (rule : Rule) (levels : ℕ) where
  abbrev P : List Premise → Assignment → Proofs → List (Event Answer)
  P ps env kids = premises_after modes rules hyps r rule levels ps env kids

  abbrev below : Goal → List (Event Answer)
  below = goal_events modes rules hyps levels

  abbrev close : Proofs → Assignment × Proofs → List (Event Answer)
  close kids end = conclude modes r rule (end.0, joined_proofs kids end.1)

  abbrev pub frame : Judgement → List Premise → Assignment → Proofs → Frame
  frame j ps env kids = record { number = r; rule = rule; rest = ps; patterns = outputs_of modes j; env = env; kids = kids; levels = levels }

  abbrev asked_of : Judgement → Assignment → Goal
  asked_of j env = goal_of modes (judgement_instance (filled env) j)

  -- two terms that are to be apart
  pub after_apart : (b : Bool) (t u : Tree) (ps : List Premise) (env : Assignment) (kids : Proofs) → are_apart hyps (instance (filled env) t) (instance (filled env) u) ≡ b →
      P (apart t u ∷ ps) env kids ≡ when b (P ps env kids)
  after_apart b t u ps env kids e =
      then_each-when (close kids) (are_apart hyps (instance (filled env) t) (instance (filled env) u)) (premise_events modes hyps below ps env)
      ∙ ap (λ x. when x (P ps env kids)) e

  -- a premise, whose goal has the events
  pub after_holds : (j : Judgement) (ps : List Premise) (env : Assignment) (kids : Proofs) → limit_passed (inputs_of modes (judgement_instance (filled env) j)) ≡ None →
      P (holds j ∷ ps) env kids ≡ then_each (after_frame modes rules hyps (frame j ps env kids)) (below (asked_of j env))
  after_holds j ps env kids e =
      let next = premise_events modes hyps below ps in
      let es = then_each (after_kid next (outputs_of modes j) env) (below (asked_of j env)) in
      ap (then_each (close kids)) (unless_none (limit_passed (inputs_of modes (judgement_instance (filled env) j))) es e)
      ∙ then_each-then_each (close kids) (after_kid next (outputs_of modes j) env) (below (asked_of j env))
      ∙ then_each-same (λ a. then_each (close kids) (after_kid next (outputs_of modes j) env a)) (after_frame modes rules hyps (frame j ps env kids)) (kid_after modes rules hyps r rule levels ps (outputs_of modes j) env kids) (below (asked_of j env))

  -- the conclusion
  pub after_end : (env : Assignment) (kids : Proofs) → limit_passed (outputs_of modes (judgement_instance (filled env) rule.conclusion)) ≡ None →
      P [] env kids ≡ give (by r (first_values (length rule.sorts) (filled env)) kids, outputs_of modes (judgement_instance (filled env) rule.conclusion)) ∷ []
  after_end env kids e =
      let made = outputs_of modes (judgement_instance (filled env) rule.conclusion) in
      append-nil (close kids (env, no_more))
      ∙ unless_none (limit_passed made) (give (by r (first_values (length rule.sorts) (filled env)) (joined_proofs kids no_more), made) ∷ []) e
      ∙ (λ i. give (by r (first_values (length rule.sorts) (filled env)) (joined_proofs-none kids i), made) ∷ [])

  -- its outputs pass a limit
  pub end_passed : (env : Assignment) (kids : Proofs) (cause : Cause) → limit_passed (outputs_of modes (judgement_instance (filled env) rule.conclusion)) ≡ Some cause → P [] env kids ≡ stop cause ∷ []
  end_passed env kids cause e =
      ap (λ x. unless_passed x (give (by r (first_values (length rule.sorts) (filled env)) (joined_proofs kids no_more), outputs_of modes (judgement_instance (filled env) rule.conclusion)) ∷ []) ++ []) e

  -- the inputs of a premise's goal pass a limit
  pub after_passed : (j : Judgement) (ps : List Premise) (env : Assignment) (kids : Proofs) (cause : Cause) → limit_passed (inputs_of modes (judgement_instance (filled env) j)) ≡ Some cause → P (holds j ∷ ps) env kids ≡ stop cause ∷ []
  after_passed j ps env kids cause e =
      ap (λ x. then_each (close kids) (unless_passed x (then_each (after_kid (premise_events modes hyps below ps) (outputs_of modes j) env) (below (asked_of j env))))) e

  -- no level is left for a premise's goal
  pub after_deep : (j : Judgement) (ps : List Premise) (env : Assignment) (kids : Proofs) → limit_passed (inputs_of modes (judgement_instance (filled env) j)) ≡ None → levels ≡ 0 → P (holds j ∷ ps) env kids ≡ stop depth_spent ∷ []
  unfolding goal_events
  after_deep j ps env kids e z =
      after_holds j ps env kids e
      ∙ ap (λ (n : ℕ). then_each (after_frame modes rules hyps (frame j ps env kids)) (goal_events modes rules hyps n (asked_of j env))) z

  -- the walk halts at a premise's goal
  pub holds_halted : (j : Judgement) (ps : List Premise) (env : Assignment) (kids : Proofs) → limit_passed (inputs_of modes (judgement_instance (filled env) j)) ≡ None → (old new : ℕ) (ending : EndingOf) (rest : List (Event Answer)) →
      HaltsAfter old new (below (asked_of j env)) ending → HaltsAfter old new (P (holds j ∷ ps) env kids ++ rest) ending
  holds_halted j ps env kids e old new ending rest h =
      let next = after_frame modes rules hyps (frame j ps env kids) in
      halts_append old new ending (P (holds j ∷ ps) env kids) rest
      (halts_as old new ending (P (holds j ∷ ps) env kids) (then_each next (below (asked_of j env))) (after_holds j ps env kids e) (halts_each next old new ending (below (asked_of j env)) h))

  module _ (j : Judgement) (ps : List Premise) (env : Assignment) (kids : Proofs) (e : limit_passed (inputs_of modes (judgement_instance (filled env) j)) ≡ None) (n : ℕ) (rest : List (Event Answer)) where
    -- its goal has no answer
    pub holds_failed : below (asked_of j env) ≡ tries_then n [] → P (holds j ∷ ps) env kids ++ rest ≡ tries_then n rest
    holds_failed f =
        ap (λ es. es ++ rest) (after_holds j ps env kids e ∙ ap (then_each (after_frame modes rules hyps (frame j ps env kids))) f ∙ tries-each (after_frame modes rules hyps (frame j ps env kids)) n [])
        ∙ tries-append n [] rest

    -- its goal has an answer, and the frame is what follows each further one
    pub holds_answered : (a : Answer) (inner more : List (Event Answer)) → below (asked_of j env) ≡ tries_then n (give a ∷ inner) → then_each (after_frame modes rules hyps (frame j ps env kids)) inner ≡ more →
        P (holds j ∷ ps) env kids ++ rest ≡ tries_then n (after_frame modes rules hyps (frame j ps env kids) a ++ (more ++ rest))
    holds_answered a inner more f g =
        let next = after_frame modes rules hyps (frame j ps env kids) in
        ap (λ es. es ++ rest) (after_holds j ps env kids e ∙ ap (then_each next) f ∙ tries-each next n (give a ∷ inner) ∙ ap (λ es. tries_then n (next a ++ es)) g)
        ∙ tries-append n (next a ++ more) rest
        ∙ ap (tries_then n) (append_assoc (next a) more rest)

    -- the outputs of the answer match
    pub frame_matches : (a : Answer) (next : Assignment) → match_all (outputs_of modes j) a.1 env ≡ Some next → after_frame modes rules hyps (frame j ps env kids) a ≡ P ps next (joined_proofs kids (a.0 ⊳ no_more))
    frame_matches a next m = ap (λ x. when_matched x (λ y. P ps y (joined_proofs kids (a.0 ⊳ no_more)))) m

    pub frame_differs : (a : Answer) → match_all (outputs_of modes j) a.1 env ≡ None → after_frame modes rules hyps (frame j ps env kids) a ≡ []
    frame_differs a m = ap (λ x. when_matched x (λ y. P ps y (joined_proofs kids (a.0 ⊳ no_more)))) m
