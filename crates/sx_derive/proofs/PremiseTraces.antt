-- What comes of a judgement premise: its goal has no answer, or its first answer is taken.
use Rattle.std.proofs.Common.{◌≡◌, ℕ, suc, ◌+◌, ◌-◌, ◌<◌, ◌≤◌, inl, inr, List, [], ◌∷◌, ◌++◌, map, drop, length, reverse, Option, Some, None, Vec, refl, sym, ap, ◌∙◌, arith, subst, append-nil}
use Rattle.std.specs.Prelude.{slice_get}
use Rattle.std.specs.declared.alloc.Global.{Global}
use Rattle.std.proofs.lemmas.List.{reverse-append}
use Rattle.sx_rules.specs.Derivations.{Proofs, no_more, ◌⊳◌}
use Rattle.sx_rules.specs.Modes.{Modes, inputs_of, outputs_of, Goal, goal_of}
use Rattle.sx_rules.specs.Rules.{Judgement, Premise, holds, Rule, Hypotheses, judgement_instance}
use Rattle.sx_arena.specs.Arena.{tree_at}
use Rattle.sx_arena.specs.Binds.{env_at}
use Rattle.sx_arena.specs.Matching.{Assignment, match_all, filled}
use Rattle.sx_arena.specs.Pairs.{ArePairs}
use Rattle.sx_arena.specs.Places.{IsLimit}
use Rattle.sx_arena.specs.declared.pairs.Pair.{Pair}
use Rattle.sx_arena.specs.declared.places.Limit.{Limit}
use Rattle.sx_arena.proofs.Growing.{extends-length}
use Rattle.sx_arena.proofs.Parted.{pairs_stay, pairs_more_terms}
use Rattle.sx_derive.specs.Candidates.{goal_in}
use Rattle.sx_derive.specs.Chains.{kids_at, frame_of}
use Rattle.sx_derive.specs.Failing.{FailsAlong}
use Rattle.sx_derive.specs.Handing.{hyps_in, answer_in, IsWaitingCell}
use Rattle.sx_derive.specs.Machine.{Frame, joined_proofs, premises_after, after_frame}
use Rattle.sx_derive.specs.Halting.{HaltsAfter}
use Rattle.sx_derive.specs.Quiet.{first_given}
use Rattle.sx_derive.specs.Store.{IsStore, StoreGrows, AreMadeInStore, store_trees, store_envs, store_kids}
use Rattle.sx_derive.specs.Tasks.{events_left, TasksFit, Piled}
use Rattle.sx_derive.specs.Traced.{IsTracedUnder, IsAnswerTaken, premises_left, NotedFrom}
use Rattle.sx_derive.specs.Traced.{PremiseTraced}
use Rattle.sx_derive.specs.Walk.{Cause, Event, give, Answer, tries_then, then_each, limit_passed, goal_events}
use Rattle.sx_derive.specs.Walked.{events_in}
use Rattle.sx_derive.specs.declared.chains.Head.{Head}
use Rattle.sx_derive.specs.declared.chains.Waiting.{Waiting}
use Rattle.sx_derive.specs.declared.store.Store.{Store}
use Rattle.sx_derive.specs.declared.tasks.Ending.{Ending as EndingOf}
use Rattle.sx_derive.specs.declared.tasks.Ending.TheVariants.{Passed, DepthSpent}
use Rattle.sx_derive.specs.declared.tasks.Task.{Task as TaskOf}
use Rattle.sx_derive.specs.declared.trace.Premised.{Premised}
use Rattle.sx_derive.specs.declared.trace.Premised.TheVariants.{Holds, Fails, Halts}
use Rattle.sx_derive.specs.declared.trace.Traced.TheVariants.{Answered, Failed, Halted}
use Rattle.sx_derive.proofs.Halted.{halts_as, halts_here}
use Rattle.sx_derive.proofs.Piling.{piled_behind, fits_behind, events_behind}
use Rattle.sx_derive.proofs.Premised.{stays}
use Rattle.sx_derive.proofs.Resumed.{sizes}
use Rattle.sx_derive.proofs.RuleEvents.{frame, after_passed, after_deep, holds_failed, holds_answered, holds_halted, frame_matches, frame_differs}
use Rattle.sx_derive.proofs.Steps.{limit_is, frame_is}
use Rattle.sx_derive.proofs.Stored.{grows_same, grows_then, grows_terms}
use Rattle.sx_derive.proofs.Tries.{tries-first}
use Rattle.sx_derive.proofs.Turned.{fits_more, piled_grows, piled_fits, piled_later, events_stay}

-- no limit is told, so none is passed
pub none_limit : (c : Option Cause) (l : Option Limit) → IsLimit c l → ((limit : Limit) → l ≡ Some limit → ⊥) → c ≡ None
none_limit c None h n = h
none_limit c (Some limit) h n = absurd (n limit refl)

-- a rule waits at a judgement premise
pub record JudgementWaits (modes : Modes) (rules : List Rule) (pairs : List Pair) (c : Waiting) (rule : Rule) (j : Judgement) (s : Store) : Type 0 where
  pub store : IsStore modes rules s
  pub pairs_there : ArePairs (length (store_trees s)) pairs
  pub env_there : c.env ≤ length s.binds.cells.items
  pub kids_there : c.kids ≤ length s.kids.items
  pub until : c.before ≡ s.until
  pub found : slice_get rules c.rule ≡ Some rule
  pub premise : slice_get rule.premises c.premise ≡ Some (holds j)

module _ (modes : Modes) (rules : List Rule) (pairs : List Pair) (js : List Judgement) (c : Waiting) (rule : Rule) (j : Judgement) (s : Store) (w : JudgementWaits modes rules pairs c rule j s) where
  abbrev ps : List Premise
  ps = drop (c.premise + 1) rule.premises

  abbrev hyps : Hypotheses
  hyps = hyps_in pairs s js

  abbrev env : Assignment
  env = env_at (store_envs s) c.env

  abbrev kids : Proofs
  kids = kids_at (store_kids s) c.kids

  abbrev asked : Goal
  asked = goal_of modes (judgement_instance (filled env) j)

  abbrev left_in : List TaskOf → List (Event Answer)
  left_in tasks = events_left modes rules pairs js s tasks

  hyps_same : (t : Store) → StoreGrows modes rules s t → hyps_in pairs t js ≡ hyps
  hyps_same t g = λ i. record { judgements = js; pairs = pairs_stay (store_trees s) (store_trees t) g.trees pairs w.pairs_there i }

  -- the goal's terms are made
  module _ (mid : Store) (terms : List ℕ) (made : AreMadeInStore s mid terms (inputs_of modes (judgement_instance (filled env) j))) where
    pub mid_grows : StoreGrows modes rules s mid
    mid_grows = grows_terms modes rules s mid w.store made.held.arena made.held.extends made.binds made.kids made.frames made.until

    pub mid_waits : IsWaitingCell modes rules mid c
    mid_waits =
        let z = sizes modes rules mid in
        let ze = z.envs in
        let zk = z.kids in
        let zf = z.frames in
        let a = extends-length s.binds.cells.items mid.binds.cells.items mid_grows.bind_cells in
        let b = extends-length s.kids.items mid.kids.items mid_grows.kid_cells in
        let d = mid_grows.store.until in
        let u = made.until in
        let le = w.env_there in
        let lk = w.kids_there in
        let cb = w.until in
        record {
          waits = (rule, j, w.found, w.premise);
          env = (omega arith);
          kids = (omega arith);
          before = (omega arith);
          above = λ l. (omega arith);
        }

    pub mid_before : c.before ≡ mid.until
    mid_before = w.until ∙ sym made.until

    -- what is left of the premises from this one on
    abbrev from_here : List TaskOf → List (Event Answer)
    from_here before = premises_left modes rules pairs js s c.rule rule c.levels (holds j ∷ ps) c.env c.kids before

    -- the walk halts at the premise
    halts : (n tries left : ℕ) (u : Store) (before after : List TaskOf) (ending : EndingOf) → StoreGrows modes rules mid u → HaltsAfter tries left (from_here before) ending → PremiseTraced modes rules pairs js n s u tries left c rule (holds j) ps before after (Halts ending)
    halts n tries left u before after ending g h = record { piled = tt; grows = grows_then modes rules s mid u mid_grows g; fits = tt; is = h }

    -- the goal's terms pass a limit
    pub judgement_passed : (n tries : ℕ) (before after : List TaskOf) (l : Limit) → IsLimit (limit_passed (map (tree_at (store_trees mid)) terms)) (Some l) → PremiseTraced modes rules pairs js n s mid tries tries c rule (holds j) ps before after (Halts (Passed l))
    judgement_passed n tries before after l i =
        let q = limit_is (limit_passed (map (tree_at (store_trees mid)) terms)) l i in
        let e : limit_passed (inputs_of modes (judgement_instance (filled env) j)) ≡ Some q.0 = sym (ap limit_passed made.held.are) ∙ q.1 in
        halts n tries tries mid before after (Passed l) (grows_same modes rules mid mid_grows.store)
        (halts_here tries (Passed l) (from_here before) (q.0, q.2, (left_in before, ap (λ (es : List (Event Answer)). es ++ left_in before) (after_passed modes rules hyps c.rule rule c.levels j ps env kids q.0 e))))

    module _ (fine : limit_passed (map (tree_at (store_trees mid)) terms) ≡ None) where
      none_passed : limit_passed (inputs_of modes (judgement_instance (filled env) j)) ≡ None
      none_passed = sym (ap limit_passed made.held.are) ∙ fine

      -- no level is left for it
      pub judgement_deep : c.levels ≡ 0 → (n tries : ℕ) (before after : List TaskOf) → PremiseTraced modes rules pairs js n s mid tries tries c rule (holds j) ps before after (Halts DepthSpent)
      judgement_deep z n tries before after =
          halts n tries tries mid before after DepthSpent (grows_same modes rules mid mid_grows.store)
          (halts_here tries DepthSpent (from_here before) (left_in before, ap (λ (es : List (Event Answer)). es ++ left_in before) (after_deep modes rules hyps c.rule rule c.levels j ps env kids none_passed z)))

    module _ (fine : limit_passed (map (tree_at (store_trees mid)) terms) ≡ None) (leveled : 0 < c.levels) (n tries left : ℕ) where
      asked_passed : limit_passed (inputs_of modes (judgement_instance (filled env) j)) ≡ None
      asked_passed = none_passed fine

      one_more : suc (c.levels - 1) ≡ c.levels
      one_more = omega arith

      events_mid : events_in modes rules pairs js mid (c.levels - 1) j.form terms ≡ goal_events modes rules hyps c.levels asked
      events_mid = λ i. goal_events modes rules (hyps_same mid mid_grows i) (one_more i) (record { form = j.form; terms = made.held.are i })

      -- its goal halts the walk
      pub judgement_halted : (u : Store) (before more after : List TaskOf) (ending : EndingOf) → IsTracedUnder modes rules pairs js n mid u tries left c (c.levels - 1) j.form terms more (Halted ending) → PremiseTraced modes rules pairs js n s u tries left c rule (holds j) ps before after (Halts ending)
      judgement_halted u before more after ending x =
          halts n tries left u before after ending x.0
          (holds_halted modes rules hyps c.rule rule c.levels j ps env kids asked_passed tries left ending (left_in before)
          (halts_as tries left ending (goal_events modes rules hyps c.levels asked) (events_in modes rules pairs js mid (c.levels - 1) j.form terms) (sym events_mid) x.1))

      -- its goal has no answer
      module _ (u : Store) (noted notes : Vec ℕ Global) (e : notes.items ≡ noted.items ++ c.premise ∷ []) (more : List TaskOf) (x : IsTracedUnder modes rules pairs js n mid u tries left c (c.levels - 1) j.form terms more (Failed noted)) where
        failed_grows : StoreGrows modes rules s u
        failed_grows = grows_then modes rules s mid u mid_grows x.0.0

        goal_fails : goal_events modes rules hyps c.levels asked ≡ tries_then x.0.1.0 []
        goal_fails = sym events_mid ∙ x.0.1.2

        along : FailsAlong modes rules hyps c.levels asked (reverse noted.items)
        along =
            subst (λ (k : ℕ). FailsAlong modes rules hyps k asked (reverse noted.items)) one_more
            (subst (λ (g : Goal). FailsAlong modes rules hyps (suc (c.levels - 1)) g (reverse noted.items)) (λ i. record { form = j.form; terms = made.held.are i })
            (subst (λ (y : Hypotheses). FailsAlong modes rules y (suc (c.levels - 1)) (goal_in mid j.form terms) (reverse noted.items)) (hyps_same mid mid_grows) x.1))

        pub judgement_failed : (before : List TaskOf) → TasksFit modes rules s n before → PremiseTraced modes rules pairs js n s u tries left c rule (holds j) ps before (before ++ more) (Fails notes)
        judgement_failed before fit =
            let turned : c.premise ∷ reverse noted.items ≡ reverse notes.items = sym (ap reverse e ∙ reverse-append noted.items (c.premise ∷ [])) in
            let none_left : before ≡ before ++ more = sym (ap (λ (ts : List TaskOf). before ++ ts) x.0.2 ∙ append-nil before) in
            subst (λ (after : List TaskOf). PremiseTraced modes rules pairs js n s u tries left c rule (holds j) ps before after (Fails notes)) none_left (record {
              piled = λ first p. piled_later modes rules n first s u before p failed_grows;
              grows = failed_grows;
              fits = fits_more modes rules n s u before failed_grows fit;
              is = (
                (
                  x.0.1.0,
                  x.0.1.1,
                  holds_failed modes rules hyps c.rule rule c.levels j ps env kids asked_passed x.0.1.0 (left_in before) goal_fails
                      ∙ ap (tries_then x.0.1.0) (sym (events_stay modes rules n pairs js s u before w.pairs_there failed_grows fit)),
                ),
                subst (λ (ks : List ℕ). NotedFrom modes rules pairs js s c.levels c.premise (holds j ∷ ps) env ks) turned
                    ((omega arith), inl (refl, ap first_given goal_fails ∙ tries-first x.0.1.0 [], along)),
              );
            })

      -- its goal has an answer
      module _ (u : Store) (head : Head) (outs : Vec ℕ Global) (more : List TaskOf) (x : IsTracedUnder modes rules pairs js n mid u tries left c (c.levels - 1) j.form terms more (Answered head outs)) where
        mid_piled : Piled modes rules n mid more u
        mid_piled = x.2

        pub taken_grows : StoreGrows modes rules s u
        taken_grows = grows_then modes rules s mid u mid_grows (piled_grows modes rules n mid u more mid_piled)

        abbrev answer : Answer
        answer = answer_in u head outs.items

        abbrev waits_there : Frame
        waits_there = frame modes rules hyps c.rule rule c.levels j ps env kids

        goal_answers : goal_events modes rules hyps c.levels asked ≡ tries_then x.3.1.0 (give answer ∷ x.3.0)
        goal_answers = sym events_mid ∙ x.3.1.2

        frame_same : frame_of modes rules (store_envs mid) (store_kids mid) c ≡ waits_there
        frame_same =
            let t = stays modes rules s mid c.env c.kids 0 mid_grows w.env_there w.kids_there (omega arith) in
            frame_is modes rules (store_envs s) (store_envs mid) (store_kids s) (store_kids mid) j c rule w.found w.premise t.envs t.kids_are

        more_is : then_each (after_frame modes rules hyps waits_there) x.3.0 ≡ events_left modes rules pairs js u more
        more_is = (λ i. then_each (after_frame modes rules (sym (hyps_same mid mid_grows) i) (sym frame_same i)) x.3.0) ∙ x.3.2

        module _ (before : List TaskOf) (fit : TasksFit modes rules s n before) (v : Store) (g : StoreGrows modes rules u v) where
          abbrev after : List TaskOf
          after = before ++ more

          all_grows : StoreGrows modes rules s v
          all_grows = grows_then modes rules s u v taken_grows g

          left_is : events_left modes rules pairs js u more ++ left_in before ≡ events_left modes rules pairs js v after
          left_is =
              let gp = pairs_more_terms (length (store_trees s)) (length (store_trees u)) (extends-length (store_trees s) (store_trees u) taken_grows.trees) pairs w.pairs_there in
              sym (events_behind modes rules pairs js v before more
              ∙ (λ i. events_stay modes rules n pairs js u v more gp g (piled_fits modes rules n mid u more mid_piled) i ++ events_stay modes rules n pairs js s v before w.pairs_there all_grows fit i))

          piled_all : (first : Store) → Piled modes rules n first before s → Piled modes rules n first after v
          piled_all first p =
              piled_later modes rules n first u v after (piled_behind modes rules n first mid u before more (piled_later modes rules n first s mid before p mid_grows) mid_piled) g

          fits_all : TasksFit modes rules v n after
          fits_all = fits_behind modes rules n v before more (fits_more modes rules n s v before all_grows fit) (fits_more modes rules n u v more g (piled_fits modes rules n mid u more mid_piled))

          env_same : env_at (store_envs u) c.env ≡ env
          env_same = (stays modes rules s u c.env c.kids 0 taken_grows w.env_there w.kids_there (omega arith)).envs

          kids_same : kids_at (store_kids u) c.kids ≡ kids
          kids_same = (stays modes rules s u c.env c.kids 0 taken_grows w.env_there w.kids_there (omega arith)).kids_are

          pub judgement_taken : (t : Premised) → IsAnswerTaken modes u v c j answer t → PremiseTraced modes rules pairs js n s v tries left c rule (holds j) ps before after t
          judgement_taken (Halts ending) k = absurd k
          judgement_taken (Fails notes) k =
              let m : match_all (outputs_of modes j) answer.1 env ≡ None = ap (match_all (outputs_of modes j) answer.1) (sym env_same) ∙ k.0 in
              let none_noted : [] ≡ reverse notes.items = sym (ap reverse k.1) in
              record {
                piled = piled_all;
                grows = all_grows;
                fits = fits_all;
                is = (
                  (
                    x.3.1.0,
                    x.3.1.1,
                    holds_answered modes rules hyps c.rule rule c.levels j ps env kids asked_passed x.3.1.0 (left_in before) answer x.3.0 (events_left modes rules pairs js u more) goal_answers more_is
                        ∙ (λ i. tries_then x.3.1.0 (frame_differs modes rules hyps c.rule rule c.levels j ps env kids asked_passed x.3.1.0 (left_in before) answer m i ++ left_is i)),
                  ),
                  subst (λ (ks : List ℕ). NotedFrom modes rules pairs js s c.levels c.premise (holds j ∷ ps) env ks) none_noted tt,
                );
              }
          judgement_taken (Holds next some) k =
              let m : match_all (outputs_of modes j) answer.1 env ≡ Some (env_at (store_envs v) next) = ap (match_all (outputs_of modes j) answer.1) (sym env_same) ∙ k.2 in
              let joined : joined_proofs kids (answer.0 ⊳ no_more) ≡ kids_at (store_kids v) some = ap (λ (qs : Proofs). joined_proofs qs (answer.0 ⊳ no_more)) (sym kids_same) ∙ sym k.3 in
              record {
                piled = piled_all;
                grows = all_grows;
                fits = fits_all;
                is = (
                  k.0,
                  k.1,
                  (
                    x.3.1.0,
                    x.3.1.1,
                    holds_answered modes rules hyps c.rule rule c.levels j ps env kids asked_passed x.3.1.0 (left_in before) answer x.3.0 (events_left modes rules pairs js u more) goal_answers more_is
                        ∙ (λ i. tries_then x.3.1.0 (frame_matches modes rules hyps c.rule rule c.levels j ps env kids asked_passed x.3.1.0 (left_in before) answer (env_at (store_envs v) next) m i ++ left_is i))
                        ∙ (λ i. tries_then x.3.1.0 (premises_after modes rules (sym (hyps_same v all_grows) i) c.rule rule c.levels ps (env_at (store_envs v) next) (joined i) ++ events_left modes rules pairs js v after)),
                  ),
                  noted,
                );
              }
            where
              noted : (notes : List ℕ) → NotedFrom modes rules pairs js s c.levels (suc c.premise) ps (env_at (store_envs v) next) notes → NotedFrom modes rules pairs js s c.levels c.premise (holds j ∷ ps) env notes
              noted [] f = tt
              noted (i ∷ ks) f =
                  let l = f.0 in
                  let first_is : first_given (goal_events modes rules hyps c.levels asked) ≡ Some answer = ap first_given goal_answers ∙ tries-first x.3.1.0 (give answer ∷ x.3.0) in
                  let m : match_all (outputs_of modes j) answer.1 env ≡ Some (env_at (store_envs v) next) = ap (match_all (outputs_of modes j) answer.1) (sym env_same) ∙ k.2 in
                  ((omega arith), inr ((λ e. absurd (omega arith)), (answer, env_at (store_envs v) next, first_is, m, f.1)))
