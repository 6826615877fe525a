use Rattle.std.proofs.Common.{◌≡◌, ℕ, zero, suc, ◌&&◌, Bool, true, false, List, [], ◌∷◌, ◌++◌, length, Option, Some, None, refl, sym, ap, ◌∙◌, append_assoc}
use Rattle.std.specs.Prelude.{nat_eq}
use Rattle.std.proofs.lemmas.List.{append-nil}
use Rattle.sx_term.specs.Tree.{Tree}
use Rattle.sx_rules.specs.Instances.{instance}
use Rattle.sx_arena.specs.Matching.{same_all, Assignment, nothing_bound, match_all, filled}
use Rattle.sx_rules.specs.Rules.{Judgement, Premise, holds, apart, Rule, Hypotheses}
use Rattle.sx_rules.specs.Rules.{judgement_instance}
use Rattle.sx_rules.specs.Modes.{Modes, inputs_of, outputs_of, Goal, goal_of}
use Rattle.sx_rules.specs.Derivations.{Proofs, by, given, no_more, ◌⊳◌}
use Rattle.sx_derive.specs.Walk.{Cause, Event, try, give, stop, Answer, then_each, when}
use Rattle.sx_derive.specs.Walk.{when_matched, limit_passed, unless_passed, are_apart, put_first}
use Rattle.sx_derive.specs.Walk.{after_kid, premise_events, first_values, conclude, after_match}
use Rattle.sx_derive.specs.Walk.{rule_events, rules_events, given_event, given_events, goal_events}
use Rattle.sx_derive.specs.Machine.{joined_proofs, Frame, Task, hypotheses_from, rules_from, Result}
use Rattle.sx_derive.specs.Machine.{result_when, result_matched, result_unless, goal_result}
use Rattle.sx_derive.specs.Machine.{premises_result, hand_on, rule_result, given_result}
use Rattle.sx_derive.specs.Machine.{premises_after, after_frame, after_frames, tasks_events}
use Rattle.sx_derive.specs.Machine.{result_events}
use Rattle.sx_derive.specs.Laws.{MachineMakesEvents}

-- events given one after another
pub then_each-append : {A B : Type 0} (f : A → List (Event B)) (es fs : List (Event A)) → then_each f (es ++ fs) ≡ then_each f es ++ then_each f fs
then_each-append f [] fs = refl
then_each-append f (try ∷ es) fs = ap (λ xs. try ∷ xs) (then_each-append f es fs)
then_each-append f (stop c ∷ es) fs = ap (λ xs. stop c ∷ xs) (then_each-append f es fs)
then_each-append f (give a ∷ es) fs = ap (λ xs. f a ++ xs) (then_each-append f es fs) ∙ sym (append_assoc (f a) (then_each f es) (then_each f fs))

pub then_each-then_each : {A B C : Type 0} (g : B → List (Event C)) (f : A → List (Event B)) (es : List (Event A)) → then_each g (then_each f es) ≡ then_each (λ a. then_each g (f a)) es
then_each-then_each g f [] = refl
then_each-then_each g f (try ∷ es) = ap (λ xs. try ∷ xs) (then_each-then_each g f es)
then_each-then_each g f (stop c ∷ es) = ap (λ xs. stop c ∷ xs) (then_each-then_each g f es)
then_each-then_each g f (give a ∷ es) = then_each-append g (f a) (then_each f es) ∙ ap (λ xs. then_each g (f a) ++ xs) (then_each-then_each g f es)

pub then_each-same : {A B : Type 0} (f g : A → List (Event B)) → ((a : A) → f a ≡ g a) → (es : List (Event A)) → then_each f es ≡ then_each g es
then_each-same f g h es = ap (λ k. then_each k es) (λ i a. h a i)

pub then_each-give : {A : Type 0} (es : List (Event A)) → then_each (λ a. give a ∷ []) es ≡ es
then_each-give [] = refl
then_each-give (try ∷ es) = ap (λ xs. try ∷ xs) (then_each-give es)
then_each-give (stop c ∷ es) = ap (λ xs. stop c ∷ xs) (then_each-give es)
then_each-give (give a ∷ es) = ap (λ xs. give a ∷ xs) (then_each-give es)

pub then_each-when : {A B : Type 0} (f : A → List (Event B)) (b : Bool) (es : List (Event A)) → then_each f (when b es) ≡ when b (then_each f es)
then_each-when f true es = refl
then_each-when f false es = refl

pub then_each-when_matched : {A B : Type 0} (f : A → List (Event B)) (r : Option Assignment) (g : Assignment → List (Event A)) → then_each f (when_matched r g) ≡ when_matched r (λ env. then_each f (g env))
then_each-when_matched f None g = refl
then_each-when_matched f (Some env) g = refl

pub then_each-unless_passed : {A B : Type 0} (f : A → List (Event B)) (c : Option Cause) (es : List (Event A)) → then_each f (unless_passed c es) ≡ unless_passed c (then_each f es)
then_each-unless_passed f None es = refl
then_each-unless_passed f (Some c) es = refl

pub joined_proofs-assoc : (ps qs rs : Proofs) → joined_proofs (joined_proofs ps qs) rs ≡ joined_proofs ps (joined_proofs qs rs)
joined_proofs-assoc no_more qs rs = refl
joined_proofs-assoc (p ⊳ ps) qs rs = ap (λ xs. p ⊳ xs) (joined_proofs-assoc ps qs rs)

pub joined_proofs-none : (ps : Proofs) → joined_proofs ps no_more ≡ ps
joined_proofs-none no_more = refl
joined_proofs-none (p ⊳ ps) = ap (λ xs. p ⊳ xs) (joined_proofs-none ps)

module _ (modes : Modes) (rules : List Rule) (hyps : Hypotheses) where
  -- the events of results
  when_events : (b : Bool) (r : Result) → result_events modes rules hyps (result_when b r) ≡ when b (result_events modes rules hyps r)
  when_events true r = refl
  when_events false r = refl

  matched_events : (m : Option Assignment) (f : Assignment → Result) → result_events modes rules hyps (result_matched m f) ≡ when_matched m (λ env. result_events modes rules hyps (f env))
  matched_events None f = refl
  matched_events (Some env) f = refl

  unless_events : (c : Option Cause) (r : Result) → result_events modes rules hyps (result_unless c r) ≡ unless_passed c (result_events modes rules hyps r)
  unless_events None r = refl
  unless_events (Some c) r = refl

  pub goal_result_events : (levels : ℕ) (goal : Goal) (frames : List Frame) →
      result_events modes rules hyps (goal_result hyps levels goal frames) ≡ then_each (after_frames modes rules hyps frames) (goal_events modes rules hyps levels goal)
  unfolding goal_events
  goal_result_events zero goal frames = refl
  goal_result_events (suc levels) goal frames = refl

  -- a premise in work makes a frame
  pub kid_after : (r : ℕ) (rule : Rule) (levels : ℕ) (ps : List Premise) (patterns : List Tree) (env : Assignment) (kids : Proofs) (a : Answer) →
      then_each (λ end. conclude modes r rule (end.0, joined_proofs kids end.1)) (after_kid (premise_events modes hyps (goal_events modes rules hyps levels) ps) patterns env a)
      ≡ after_frame modes rules hyps (record { number = r; rule = rule; rest = ps; patterns = patterns; env = env; kids = kids; levels = levels }) a
  kid_after r rule levels ps patterns env kids a =
      let next = premise_events modes hyps (goal_events modes rules hyps levels) ps in
      then_each-when_matched (λ end. conclude modes r rule (end.0, joined_proofs kids end.1)) (match_all patterns a.1 env) (λ more. then_each (put_first a.0) (next more))
      ∙ ap (when_matched (match_all patterns a.1 env)) (λ i more. step more i)
    where
      step : (more : Assignment) →
          then_each (λ end. conclude modes r rule (end.0, joined_proofs kids end.1)) (then_each (put_first a.0) (premise_events modes hyps (goal_events modes rules hyps levels) ps more))
          ≡ premises_after modes rules hyps r rule levels ps more (joined_proofs kids (a.0 ⊳ no_more))
      step more =
          then_each-then_each (λ end. conclude modes r rule (end.0, joined_proofs kids end.1)) (put_first a.0) (premise_events modes hyps (goal_events modes rules hyps levels) ps more)
          ∙ then_each-same (λ end. conclude modes r rule (end.0, joined_proofs kids (a.0 ⊳ end.1)) ++ []) (λ end. conclude modes r rule (end.0, joined_proofs (joined_proofs kids (a.0 ⊳ no_more)) end.1))
          (λ end. append-nil (conclude modes r rule (end.0, joined_proofs kids (a.0 ⊳ end.1))) ∙ ap (λ ks. conclude modes r rule (end.0, ks)) (sym (joined_proofs-assoc kids (a.0 ⊳ no_more) end.1)))
          (premise_events modes hyps (goal_events modes rules hyps levels) ps more)

  premises_result_events : (r : ℕ) (rule : Rule) (levels : ℕ) (frames : List Frame) → ((a : Answer) → result_events modes rules hyps (hand_on modes hyps frames a) ≡ after_frames modes rules hyps frames a) →
      (ps : List Premise) (env : Assignment) (kids : Proofs) →
      result_events modes rules hyps (premises_result modes hyps r rule levels frames (hand_on modes hyps frames) ps env kids)
      ≡ then_each (after_frames modes rules hyps frames) (premises_after modes rules hyps r rule levels ps env kids)
  premises_result_events r rule levels frames h [] env kids =
      let made = outputs_of modes (judgement_instance (filled env) rule.conclusion) in
      let a : Answer = (by r (first_values (length rule.sorts) (filled env)) kids, made) in
      let run = after_frames modes rules hyps frames in
      unless_events (limit_passed made) (hand_on modes hyps frames a)
      ∙ ap (unless_passed (limit_passed made)) (h a ∙ sym (append-nil (run a)))
      ∙ sym (then_each-unless_passed run (limit_passed made) (give a ∷ []))
      ∙ sym (ap (then_each run) (append-nil (conclude modes r rule (env, joined_proofs kids no_more)) ∙ ap (λ ks. conclude modes r rule (env, ks)) (joined_proofs-none kids)))
  premises_result_events r rule levels frames h (apart t u ∷ ps) env kids =
      let b = are_apart hyps (instance (filled env) t) (instance (filled env) u) in
      let run = after_frames modes rules hyps frames in
      let close = (λ (end : Assignment × Proofs). conclude modes r rule (end.0, joined_proofs kids end.1)) in
      let es = premise_events modes hyps (goal_events modes rules hyps levels) ps env in
      when_events b (premises_result modes hyps r rule levels frames (hand_on modes hyps frames) ps env kids)
      ∙ ap (when b) (premises_result_events r rule levels frames h ps env kids)
      ∙ sym (then_each-when run b (then_each close es))
      ∙ sym (ap (then_each run) (then_each-when close b es))
  premises_result_events r rule levels frames h (holds j ∷ ps) env kids =
      let made = judgement_instance (filled env) j in
      let c = limit_passed (inputs_of modes made) in
      let run = after_frames modes rules hyps frames in
      let close = (λ (end : Assignment × Proofs). conclude modes r rule (end.0, joined_proofs kids end.1)) in
      let next = premise_events modes hyps (goal_events modes rules hyps levels) ps in
      let patterns = outputs_of modes j in
      let frame : Frame = record { number = r; rule = rule; rest = ps; patterns = patterns; env = env; kids = kids; levels = levels } in
      let below = goal_events modes rules hyps levels (goal_of modes made) in
      let inner : then_each close (then_each (after_kid next patterns env) below) ≡ then_each (after_frame modes rules hyps frame) below =
      then_each-then_each close (after_kid next patterns env) below
      ∙ then_each-same (λ a. then_each close (after_kid next patterns env a)) (after_frame modes rules hyps frame) (kid_after r rule levels ps patterns env kids) below in
      unless_events c (goal_result hyps levels (goal_of modes made) (frame ∷ frames))
      ∙ ap (unless_passed c)
      (goal_result_events levels (goal_of modes made) (frame ∷ frames)
      ∙ sym (then_each-then_each run (after_frame modes rules hyps frame) below)
      ∙ sym (ap (then_each run) inner))
      ∙ sym (then_each-unless_passed run c (then_each close (then_each (after_kid next patterns env) below)))
      ∙ sym (ap (then_each run) (then_each-unless_passed close c (then_each (after_kid next patterns env) below)))

  hand_on_events : (frames : List Frame) (a : Answer) → result_events modes rules hyps (hand_on modes hyps frames a) ≡ after_frames modes rules hyps frames a
  hand_on_events [] a = refl
  hand_on_events (f ∷ fs) a =
      let m = match_all f.patterns a.1 f.env in
      let kids = joined_proofs f.kids (a.0 ⊳ no_more) in
      matched_events m (λ env. premises_result modes hyps f.number f.rule f.levels fs (hand_on modes hyps fs) f.rest env kids)
      ∙ ap (when_matched m) (λ i env. premises_result_events f.number f.rule f.levels fs (hand_on_events fs) f.rest env kids i)
      ∙ sym (then_each-when_matched (after_frames modes rules hyps fs) m (λ env. premises_after modes rules hyps f.number f.rule f.levels f.rest env kids))

  pub rule_result_events : (r : ℕ) (rule : Rule) (levels : ℕ) (goal : Goal) (frames : List Frame) →
      result_events modes rules hyps (rule_result modes hyps r rule levels goal frames)
      ≡ then_each (after_frames modes rules hyps frames) (rule_events modes hyps (goal_events modes rules hyps levels) r rule goal)
  rule_result_events r rule levels goal frames =
      let b = nat_eq rule.conclusion.form goal.form in
      let m = match_all (inputs_of modes rule.conclusion) goal.terms nothing_bound in
      let run = after_frames modes rules hyps frames in
      let below = goal_events modes rules hyps levels in
      when_events b (result_matched m (λ env. premises_result modes hyps r rule levels frames (hand_on modes hyps frames) rule.premises env no_more))
      ∙ ap (when b)
      (matched_events m (λ env. premises_result modes hyps r rule levels frames (hand_on modes hyps frames) rule.premises env no_more)
      ∙ ap (when_matched m) (λ i env. premises_result_events r rule levels frames (hand_on_events frames) rule.premises env no_more i)
      ∙ sym (then_each-when_matched run m (after_match modes hyps below r rule)))
      ∙ sym (then_each-when run b (when_matched m (after_match modes hyps below r rule)))

  pub given_result_events : (i : ℕ) (j : Judgement) (goal : Goal) (frames : List Frame) →
      result_events modes rules hyps (given_result modes hyps i j goal frames) ≡ then_each (after_frames modes rules hyps frames) (given_event modes i j goal)
  given_result_events i j goal frames =
      let b = nat_eq j.form goal.form && same_all (inputs_of modes j) goal.terms in
      let a : Answer = (given i, outputs_of modes j) in
      let run = after_frames modes rules hyps frames in
      when_events b (hand_on modes hyps frames a)
      ∙ ap (when b) (hand_on_events frames a ∙ sym (append-nil (run a)))
      ∙ sym (then_each-when run b (give a ∷ []))

  step : (r : Result) (es fs : List (Event Answer)) (frames : List Frame) (ts : List Task) →
      result_events modes rules hyps r ≡ then_each (after_frames modes rules hyps frames) es →
      then_each (after_frames modes rules hyps frames) (es ++ fs) ++ tasks_events modes rules hyps ts
      ≡ result_events modes rules hyps r ++ (then_each (after_frames modes rules hyps frames) fs ++ tasks_events modes rules hyps ts)
  step r es fs frames ts e =
      let run = after_frames modes rules hyps frames in
      ap (λ xs. xs ++ tasks_events modes rules hyps ts) (then_each-append run es fs ∙ ap (λ xs. xs ++ then_each run fs) (sym e))
      ∙ append_assoc (result_events modes rules hyps r) (then_each run fs) (tasks_events modes rules hyps ts)

  started : (levels : ℕ) (goal : Goal) →
      goal_events modes rules hyps (suc levels) goal ≡ tasks_events modes rules hyps (hypotheses_from 0 hyps.judgements levels goal [] ∷ [])
  unfolding goal_events
  started levels goal =
      let es = goal_events modes rules hyps (suc levels) goal in
      sym (append-nil (then_each (λ a. give a ∷ []) es) ∙ then_each-give es)

  given_step : (i : ℕ) (j : Judgement) (js : List Judgement) (levels : ℕ) (goal : Goal) (frames : List Frame) (ts : List Task) →
      tasks_events modes rules hyps (hypotheses_from i (j ∷ js) levels goal frames ∷ ts)
      ≡ try ∷ (result_events modes rules hyps (given_result modes hyps i j goal frames) ++ tasks_events modes rules hyps (hypotheses_from (suc i) js levels goal frames ∷ ts))
  given_step i j js levels goal frames ts =
      let run = after_frames modes rules hyps frames in
      let one = given_event modes i j goal in
      let more = given_events modes (suc i) js goal in
      let after = rules_events modes hyps (goal_events modes rules hyps levels) 0 rules goal in
      ap (λ (xs : List (Event Answer)). try ∷ xs)
      (ap (λ xs. then_each run xs ++ tasks_events modes rules hyps ts) (append_assoc one more after)
      ∙ step (given_result modes hyps i j goal frames) one (more ++ after) frames ts (given_result_events i j goal frames))

  rule_step : (r : ℕ) (one : Rule) (rs : List Rule) (levels : ℕ) (goal : Goal) (frames : List Frame) (ts : List Task) →
      tasks_events modes rules hyps (rules_from r (one ∷ rs) levels goal frames ∷ ts)
      ≡ try ∷ (result_events modes rules hyps (rule_result modes hyps r one levels goal frames) ++ tasks_events modes rules hyps (rules_from (suc r) rs levels goal frames ∷ ts))
  rule_step r one rs levels goal frames ts =
      let below = goal_events modes rules hyps levels in
      ap (λ (xs : List (Event Answer)). try ∷ xs)
      (step (rule_result modes hyps r one levels goal frames) (rule_events modes hyps below r one goal) (rules_events modes hyps below (suc r) rs goal) frames ts (rule_result_events r one levels goal frames))

pub machine_makes_events : MachineMakesEvents
machine_makes_events modes rules hyps = record {
  starts = started modes rules hyps;
  hypothesis = given_step modes rules hyps;
  hypotheses_end = λ i levels goal frames ts. refl;
  rule = rule_step modes rules hyps;
  rules_end = λ r levels goal frames ts. refl;
}
