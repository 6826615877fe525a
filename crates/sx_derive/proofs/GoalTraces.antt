-- A goal, its first candidate and the task of all others.
use Rattle.std.proofs.Common.{◌≡◌, ℕ, zero, suc, ◌+◌, ◌-◌, ◌<◌, ◌≤◌, true, false, List, [], ◌∷◌, ◌++◌, drop, length, Some, None, Vec, refl, sym, ap, ◌∙◌, arith, subst, reverse}
use Rattle.std.specs.Prelude.{slice_get}
use Rattle.std.specs.declared.alloc.Global.{Global}
use Rattle.std.proofs.lemmas.List.{append-nil}
use Rattle.sx_rules.specs.Derivations.{no_more}
use Rattle.sx_rules.specs.Modes.{Modes, Goal}
use Rattle.sx_rules.specs.Rules.{Judgement, Rule, Hypotheses}
use Rattle.sx_arena.specs.Arena.{AreBelow}
use Rattle.sx_arena.specs.Binds.{env_at}
use Rattle.sx_arena.specs.Facts.{AreFacts}
use Rattle.sx_arena.specs.Matching.{Assignment}
use Rattle.sx_arena.specs.Pairs.{ArePairs}
use Rattle.sx_arena.specs.declared.fact.Fact.{Fact}
use Rattle.sx_arena.specs.declared.pairs.Pair.{Pair}
use Rattle.sx_arena.proofs.Parted.{pairs_stay}
use Rattle.sx_derive.specs.Candidates.{goal_in}
use Rattle.sx_derive.specs.Descents.{IsFirstRule, IsFirstFact}
use Rattle.sx_derive.specs.Failing.{PremisesFail, FailsAlong}
use Rattle.sx_derive.specs.Halting.{AfterTries, HaltsAfter, AreTriesTaken}
use Rattle.sx_derive.specs.Handing.{hyps_in, answer_in}
use Rattle.sx_derive.specs.Machine.{Frame, premises_after, tasks_events}
use Rattle.sx_derive.specs.Store.{IsStore, StoreGrows, IsMark, store_trees, store_envs}
use Rattle.sx_derive.specs.Tasks.{task_from, events_left, TaskFits, Piled}
use Rattle.sx_derive.specs.Traced.{GoalComesTo, IsTraced, premises_left, NotedFrom, CandidateTraced}
use Rattle.sx_derive.specs.Walk.{Event, give, Answer, tries_then, after_match, rules_events, goal_events}
use Rattle.sx_derive.specs.Walked.{events_in}
use Rattle.sx_derive.specs.declared.store.Mark.{Mark}
use Rattle.sx_derive.specs.declared.store.Store.{Store}
use Rattle.sx_derive.specs.declared.tasks.Ending.TheVariants.{Spent}
use Rattle.sx_derive.specs.declared.tasks.Task.{Task as TaskOf}
use Rattle.sx_derive.specs.declared.trace.Traced.{Traced}
use Rattle.sx_derive.specs.declared.trace.Traced.TheVariants.{Answered, Failed, Halted}
use Rattle.sx_derive.proofs.CandidateTraces.{comes_after}
use Rattle.sx_derive.proofs.FirstRules.{FirstRule, first_rule, no_given_events, goal_from_rule}
use Rattle.sx_derive.proofs.Halted.{after_then, halts_then, halts_spent}
use Rattle.sx_derive.proofs.Handed.{frames_until}
use Rattle.sx_derive.proofs.Led.{rule_within}
use Rattle.sx_derive.proofs.Passed.{tries_both}
use Rattle.sx_derive.proofs.Stepped.{then_each-give}
use Rattle.sx_derive.proofs.Stored.{grows_same, grows_then}
use Rattle.sx_derive.proofs.Tasked.{facts_length, task_rules}
use Rattle.sx_derive.proofs.Turned.{events_stay}

-- no notes hold of each goal
pub fails_none : (modes : Modes) (rules : List Rule) (hyps : Hypotheses) (levels : ℕ) (goal : Goal) (ks : List ℕ) → ks ≡ [] → FailsAlong modes rules hyps levels goal ks
unfolding FailsAlong
fails_none modes rules hyps zero goal [] e = tt
fails_none modes rules hyps (suc levels) goal [] e = tt
fails_none modes rules hyps levels goal (k ∷ ks) e = cc

module _ (modes : Modes) (rules : List Rule) (pairs : List Pair) (js : List Judgement) (facts : List Fact) (s mid : Store) (form : ℕ) (terms : Vec ℕ Global) (levels number env : ℕ) (h : IsStore modes rules s) (hp : ArePairs (length (store_trees s)) pairs)
    (below : AreBelow (length (store_trees s)) terms.items) (a : AreFacts modes (store_trees s) js facts) (g : StoreGrows modes rules s mid) (f : IsFirstFact form terms.items facts None) (r : IsFirstRule modes mid (goal_in s form terms.items) 0 rules (Some (number, env))) where
  abbrev hyps : Hypotheses
  hyps = hyps_in pairs s js

  -- how many candidates there are
  abbrev n : ℕ
  n = length facts + length rules

  abbrev goal : Goal
  goal = goal_in s form terms.items

  abbrev below_events : Goal → List (Event Answer)
  below_events = goal_events modes rules hyps levels

  abbrev notes_below : Goal → List ℕ → Type 0
  notes_below = FailsAlong modes rules hyps levels

  abbrev env_then : Assignment
  env_then = env_at (store_envs mid) env

  abbrev later : List (Event Answer)
  later = rules_events modes hyps below_events (suc number) (drop (suc number) rules) goal

  pub found : FirstRule modes rules hyps below_events notes_below mid goal 0 rules number env
  found = first_rule modes rules hyps below_events notes_below mid goal 0 rules number env r

  pub number_within : number < length rules
  number_within = let e = found.number_is in let l = rule_within rules found.place found.rule found.found in omega arith

  pub chain_within : env ≤ length mid.binds.cells.items
  chain_within = found.within

  module _ (rule : Rule) (at : slice_get rules number ≡ Some rule) (mark : Mark) (k : IsMark s mark) where
    -- the task of the candidates after the first
    abbrev task : TaskOf
    task = record { next = length facts + number + 1; form = form; terms = terms; levels = levels; frames = s.until; mark = mark }

    rule_same : found.rule ≡ rule
    rule_same =
        let n = found.number_is in
        let p : found.place ≡ number = omega arith in
        let q : Some found.rule ≡ Some rule = sym found.found ∙ ap (slice_get rules) p ∙ at in
        cc

    task_fits : TaskFits modes rules s n task
    task_fits = let l = number_within in record { next = (omega arith); terms = below; frames = h.until; until = (omega arith) }

    pub later_piled : Piled modes rules n s (task ∷ []) mid
    later_piled = (s, (grows_same modes rules s h, k, task_fits, g))

    later_events : events_left modes rules pairs js mid (task ∷ []) ≡ later
    later_events =
        let l = facts_length modes (store_trees s) js facts a in
        let x : task.next - length js ≡ suc number = omega arith in
        events_stay modes rules n pairs js s mid (task ∷ []) hp g (task_fits, tt)
        ∙ ap (λ (fs : List Frame). tasks_events modes rules hyps (task_from task.next js rules levels goal fs ∷ [])) (frames_until modes rules s h)
        ∙ ap (λ t. tasks_events modes rules hyps (t ∷ [])) (task_rules modes rules hyps levels goal [] task.next (omega arith))
        ∙ append-nil _
        ∙ then_each-give (rules_events modes hyps below_events (task.next - length js) (drop (task.next - length js) rules) goal)
        ∙ (λ i. rules_events modes hyps below_events (x i) (drop (x i) rules) goal)

    -- the goal's events from the premises of the rule on
    abbrev tries_before : ℕ
    tries_before = length js + suc found.place

    goal_comes : events_in modes rules pairs js s levels form terms.items ≡ tries_then tries_before (premises_left modes rules pairs js mid number rule levels rule.premises env 0 (task ∷ []))
    goal_comes =
        let l = found.number_is in
        let p : suc found.place ≡ suc number = omega arith in
        goal_from_rule modes rules hyps levels notes_below mid goal number env found (no_given_events modes rules s form terms.items h below 0 js facts a f)
        ∙ tries_both (length js) (suc found.place) tries_before _ refl
        ∙ (λ i. tries_then tries_before (after_match modes hyps below_events number (rule_same i) env_then ++ rules_events modes hyps below_events (suc number) (drop (p i) rules) goal))
        ∙ (λ i. tries_then tries_before (premises_after modes rules (record { judgements = js; pairs = sym (pairs_stay (store_trees s) (store_trees mid) g.trees pairs hp) i }) number rule levels rule.premises env_then no_more ++ sym later_events i))

    -- what is left of the candidate's premises and of its task
    abbrev premises_here : List (Event Answer)
    premises_here = premises_left modes rules pairs js mid number rule levels rule.premises env 0 (task ∷ [])

    abbrev goal_here : List (Event Answer)
    goal_here = events_in modes rules pairs js s levels form terms.items

    many_are : tries_before ≡ suc (length facts + number)
    many_are =
        let l = found.number_is in
        let a_many = facts_length modes (store_trees s) js facts a in
        omega arith

    -- the tries of the candidates up to the first are more than are left
    spent_before : (tries left : ℕ) → AreTriesTaken (length facts + number) tries left false → HaltsAfter tries left goal_here Spent
    spent_before tries left k =
        subst (λ (m : ℕ). HaltsAfter tries m goal_here Spent) (sym k.1) (halts_spent tries (length facts + number) goal_here premises_here k.0 (goal_comes ∙ (λ i. tries_then (many_are i) premises_here)))

    -- the notes of the candidate's premises are those of the goal
    notes_rise : (ks : List ℕ) → NotedFrom modes rules pairs js mid levels 0 rule.premises env_then ks → FailsAlong modes rules hyps (suc levels) goal ks
    unfolding FailsAlong
    notes_rise [] x = tt
    notes_rise (i ∷ ks) x =
        let y : PremisesFail modes rules hyps notes_below below_events 0 i ks rule.premises env_then =
        subst (λ (z : Hypotheses). PremisesFail modes rules z (FailsAlong modes rules z levels) (goal_events modes rules z levels) 0 i ks rule.premises env_then)
        (λ z. record { judgements = js; pairs = pairs_stay (store_trees s) (store_trees mid) g.trees pairs hp z }) x.1 in
        found.fails i ks (subst (λ (z : Rule). PremisesFail modes rules hyps notes_below below_events 0 i ks z.premises env_then) (sym rule_same) y)

    -- the tries of the candidates up to the first are taken
    module _ (tries mid_tries : ℕ) (taken : AreTriesTaken (length facts + number) tries mid_tries true) where
      after_them : AfterTries tries mid_tries goal_here premises_here
      after_them = let m = many_are in (tries_before, (omega arith), goal_comes)

      -- the candidate gives the first answer, or halts the walk
      pub goal_answered : (left : ℕ) (new : Store) (more : List TaskOf) (t : Traced) → ((notes : Vec ℕ Global) → t ≡ Failed notes → ⊥) → CandidateTraced modes rules pairs js n mid new mid_tries left number rule levels env (task ∷ []) (task ∷ more) t →
          IsTraced modes rules pairs js n s new tries left levels form terms.items (task ∷ more) t
      goal_answered left new more (Failed notes) x y = absurd (x notes refl)
      goal_answered left new more (Halted ending) x y = (grows_then modes rules s mid new g y.grows, halts_then tries mid_tries left ending goal_here premises_here after_them y.is)
      goal_answered left new more (Answered head outs) x y =
          (grows_then modes rules s mid new g y.grows, y.piled s later_piled, y.is.0, y.is.1, after_then tries mid_tries left goal_here premises_here (give (answer_in new head outs.items) ∷ events_left modes rules pairs js new (task ∷ more)) after_them y.is.2)

      -- the candidate gives nothing, and the tasks are left
      module _ (next_tries : ℕ) (new : Store) (more stack : List TaskOf) (e : stack ≡ task ∷ more) (notes : Vec ℕ Global) (x : CandidateTraced modes rules pairs js n mid new mid_tries next_tries number rule levels env (task ∷ []) (task ∷ more) (Failed notes)) where
        came : CandidateTraced modes rules pairs js n mid new mid_tries next_tries number rule levels env (task ∷ []) stack (Failed notes)
        came = subst (λ (ts : List TaskOf). CandidateTraced modes rules pairs js n mid new mid_tries next_tries number rule levels env (task ∷ []) ts (Failed notes)) (sym e) x

        pub failed_piled : Piled modes rules n s stack new
        failed_piled = came.piled s later_piled

        failed_events : AfterTries tries next_tries goal_here (events_left modes rules pairs js new stack)
        failed_events = after_then tries mid_tries next_tries goal_here premises_here (events_left modes rules pairs js new stack) after_them came.is.0

        pub failed_comes : (left : ℕ) (last : Store) (rest : List TaskOf) (t : Traced) → GoalComesTo modes rules pairs js n s last next_tries left (events_left modes rules pairs js new stack) (λ noted. noted ≡ reverse notes.items) rest t →
            IsTraced modes rules pairs js n s last tries left levels form terms.items rest t
        failed_comes left last rest t y =
            comes_after modes rules pairs js n s last tries next_tries left goal_here (events_left modes rules pairs js new stack) (λ noted. noted ≡ reverse notes.items) (FailsAlong modes rules hyps (suc levels) goal) rest t failed_events
            (λ ks w. subst (λ (zs : List ℕ). FailsAlong modes rules hyps (suc levels) goal zs) (sym w) (notes_rise (reverse notes.items) came.is.1)) y

  -- the tries up to the first candidate are more than are left
  pub goal_spent : (mark : Mark) → IsMark s mark → (tries left : ℕ) → AreTriesTaken (length facts + number) tries left false → (tasks : List TaskOf) → IsTraced modes rules pairs js n s mid tries left levels form terms.items tasks (Halted Spent)
  goal_spent mark k tries left taken tasks =
      let e = found.number_is in
      let p : number ≡ found.place = omega arith in
      (g, spent_before found.rule (ap (slice_get rules) p ∙ found.found) mark k tries left taken)
