-- The premises of a candidate, gone through one after the other.
use Rattle.std.proofs.Common.{◌≡◌, ℕ, suc, ◌+◌, ◌≤◌, List, [], ◌∷◌, ◌++◌, map, length, reverse, Some, None, Vec, refl, sym, ap, ◌∙◌, arith, subst, append_assoc, append-nil}
use Rattle.std.specs.declared.alloc.Global.{Global}
use Rattle.sx_rules.specs.Derivations.{Proofs, by}
use Rattle.sx_rules.specs.Modes.{Modes, outputs_of}
use Rattle.sx_rules.specs.Rules.{Judgement, Premise, Rule, Hypotheses, judgement_instance}
use Rattle.sx_arena.specs.Arena.{tree_at}
use Rattle.sx_arena.specs.Binds.{env_at}
use Rattle.sx_arena.specs.Matching.{Assignment, filled}
use Rattle.sx_arena.specs.Pairs.{ArePairs}
use Rattle.sx_arena.specs.Places.{IsLimit}
use Rattle.sx_arena.specs.declared.pairs.Pair.{Pair}
use Rattle.sx_arena.specs.declared.places.Limit.{Limit}
use Rattle.sx_arena.proofs.Growing.{extends-length}
use Rattle.sx_arena.proofs.Parted.{pairs_stay, pairs_more_terms}
use Rattle.sx_derive.specs.Chains.{kids_at}
use Rattle.sx_derive.specs.Failing.{PremisesFail, FailsAlong}
use Rattle.sx_derive.specs.Halting.{AfterTries}
use Rattle.sx_derive.specs.Handing.{hyps_in, answer_in}
use Rattle.sx_derive.specs.Machine.{premises_after}
use Rattle.sx_derive.specs.Store.{IsStore, StoreGrows, AreMadeInStore, store_trees, store_envs, store_kids}
use Rattle.sx_derive.specs.Tasks.{events_left, TasksFit, Piled}
use Rattle.sx_derive.specs.Traced.{GoalComesTo, premises_left, NotedFrom, PremiseTraced, CandidateTraced}
use Rattle.sx_derive.specs.Walk.{Event, give, Answer, limit_passed, goal_events, first_values}
use Rattle.sx_derive.specs.declared.chains.Head.TheVariants.{By}
use Rattle.sx_derive.specs.declared.chains.Waiting.{Waiting}
use Rattle.sx_derive.specs.declared.store.Store.{Store}
use Rattle.sx_derive.specs.declared.tasks.Ending.{Ending as EndingOf}
use Rattle.sx_derive.specs.declared.tasks.Ending.TheVariants.{Passed}
use Rattle.sx_derive.specs.declared.tasks.Task.{Task as TaskOf}
use Rattle.sx_derive.specs.declared.trace.Premised.TheVariants.{Holds, Fails, Halts}
use Rattle.sx_derive.specs.declared.trace.Traced.{Traced}
use Rattle.sx_derive.specs.declared.trace.Traced.TheVariants.{Answered, Failed, Halted}
use Rattle.sx_derive.proofs.Halted.{after_none, after_then, halts_here, halts_then}
use Rattle.sx_derive.proofs.Premised.{stays}
use Rattle.sx_derive.proofs.Resumed.{sizes}
use Rattle.sx_derive.proofs.RuleEvents.{after_end, end_passed}
use Rattle.sx_derive.proofs.Steps.{limit_is}
use Rattle.sx_derive.proofs.Stored.{grows_same, grows_then, grows_terms}
use Rattle.sx_derive.proofs.Turned.{piled_later, events_stay}

-- events that come to something come to it after more tries, and with what follows of the notes
pub comes_after : (modes : Modes) (rules : List Rule) (pairs : List Pair) (js : List Judgement) (n : ℕ) (first last : Store) (old mid new : ℕ) (es fs : List (Event Answer)) (P Q : List ℕ → Type 0) (tasks : List TaskOf) (t : Traced) → AfterTries old mid es fs → ((ks : List ℕ) → P ks → Q ks) →
    GoalComesTo modes rules pairs js n first last mid new fs P tasks t → GoalComesTo modes rules pairs js n first last old new es Q tasks t
comes_after modes rules pairs js n first last old mid new es fs P Q tasks (Answered head outs) a w x =
    (x.0, x.1, x.2, x.3, after_then old mid new es fs (give (answer_in last head outs.items) ∷ events_left modes rules pairs js last tasks) a x.4)
comes_after modes rules pairs js n first last old mid new es fs P Q tasks (Failed notes) a w x =
    ((x.0.0, after_then old mid new es fs [] a x.0.1, x.0.2), w (reverse notes.items) x.1)
comes_after modes rules pairs js n first last old mid new es fs P Q tasks (Halted ending) a w x =
    (x.0, halts_then old mid new ending es fs a x.1)

module _ (modes : Modes) (rules : List Rule) (pairs : List Pair) (js : List Judgement) (n number : ℕ) (rule : Rule) (levels : ℕ) (old : Store) (env_first tries : ℕ) (tasks_first : List TaskOf) where
  abbrev left_at : Store → List Premise → ℕ → ℕ → List TaskOf → List (Event Answer)
  left_at s ps env kids tasks = premises_left modes rules pairs js s number rule levels ps env kids tasks

  abbrev noted_at : ℕ → List Premise → Assignment → List ℕ → Type 0
  noted_at k ps env ks = NotedFrom modes rules pairs js old levels k ps env ks

  -- what holds before a premise
  pub record Going (now : Store) (left k : ℕ) (rest : List Premise) (env kids : ℕ) (tasks : List TaskOf) : Type 0 where
    pub piled : (first : Store) → Piled modes rules n first tasks_first old → Piled modes rules n first tasks now
    pub fits : TasksFit modes rules now n tasks
    pub grows : StoreGrows modes rules old now
    pub env_within : env ≤ length now.binds.cells.items
    pub kids_within : kids ≤ length now.kids.items
    pub events : AfterTries tries left (left_at old rule.premises env_first 0 tasks_first) (left_at now rest env kids tasks)
    pub noted : (ks : List ℕ) → noted_at k rest (env_at (store_envs now) env) ks → noted_at 0 rule.premises (env_at (store_envs old) env_first) ks

  pub going_as : (now : Store) (left k env kids : ℕ) (tasks : List TaskOf) (rest other : List Premise) → rest ≡ other → Going now left k rest env kids tasks → Going now left k other env kids tasks
  going_as now left k env kids tasks rest other e g = subst (λ (ps : List Premise). Going now left k ps env kids tasks) e g

  going_with : (now : Store) (left k env kids : ℕ) (tasks others : List TaskOf) (rest : List Premise) → tasks ≡ others → Going now left k rest env kids tasks → Going now left k rest env kids others
  going_with now left k env kids tasks others rest e g = subst (λ (ts : List TaskOf). Going now left k rest env kids ts) e g

  pub going_first : IsStore modes rules old → TasksFit modes rules old n tasks_first → env_first ≤ length old.binds.cells.items → Going old tries 0 rule.premises env_first 0 (tasks_first ++ [])
  going_first h f l = going_with old tries 0 env_first 0 tasks_first (tasks_first ++ []) rule.premises (sym (append-nil tasks_first)) (record {
    piled = λ first p. p;
    fits = f;
    grows = grows_same modes rules old h;
    env_within = l;
    kids_within = (omega arith);
    events = after_none tries (left_at old rule.premises env_first 0 tasks_first) (left_at old rule.premises env_first 0 tasks_first) refl;
    noted = λ ks x. x;
  })

  module _ (hp : ArePairs (length (store_trees old)) pairs) (now : Store) (left k env kids before : ℕ) (more : List TaskOf) where
    abbrev tasks : List TaskOf
    tasks = tasks_first ++ more

    abbrev cell : Waiting
    cell = record { rule = number; premise = k; env = env; kids = kids; levels = levels; before = before }

    noted_same : StoreGrows modes rules old now → (i : ℕ) (ps : List Premise) (e : Assignment) (ks : List ℕ) → NotedFrom modes rules pairs js now levels i ps e ks → noted_at i ps e ks
    noted_same g i ps e [] x = x
    noted_same g i ps e (y ∷ ks) x = (
      x.0,
      subst (λ (hyps : Hypotheses). PremisesFail modes rules hyps (FailsAlong modes rules hyps levels) (goal_events modes rules hyps levels) i y ks ps e)
          (λ z. record { judgements = js; pairs = pairs_stay (store_trees old) (store_trees now) g.trees pairs hp z }) x.1,
    )

    noted_back : StoreGrows modes rules old now → (i : ℕ) (ps : List Premise) (e : Assignment) (ks : List ℕ) → noted_at i ps e ks → NotedFrom modes rules pairs js now levels i ps e ks
    noted_back g i ps e [] x = x
    noted_back g i ps e (y ∷ ks) x = (
      x.0,
      subst (λ (hyps : Hypotheses). PremisesFail modes rules hyps (FailsAlong modes rules hyps levels) (goal_events modes rules hyps levels) i y ks ps e)
          (λ z. record { judgements = js; pairs = sym (pairs_stay (store_trees old) (store_trees now) g.trees pairs hp) z }) x.1,
    )

    module _ (p : Premise) (ps : List Premise) (g : Going now left k (p ∷ ps) env kids tasks) (new : Store) (then_left : ℕ) (others : List TaskOf) where
      -- what the premise comes to, the candidate comes to
      abbrev all_first : List (Event Answer)
      all_first = left_at old rule.premises env_first 0 tasks_first

      abbrev all_now : List (Event Answer)
      all_now = left_at now (p ∷ ps) env kids tasks

      -- the premise holds
      pub going_more : (next some : ℕ) → PremiseTraced modes rules pairs js n now new left then_left cell rule p ps tasks (tasks ++ others) (Holds next some) → Going new then_left (k + 1) ps next some (tasks_first ++ (more ++ others))
      going_more next some x =
          let y = x.is in
          let one_more : k + 1 ≡ suc k = omega arith in
          going_with new then_left (k + 1) next some (tasks ++ others) (tasks_first ++ (more ++ others)) ps (append_assoc tasks_first more others) (record {
            piled = λ first t. x.piled first (g.piled first t);
            fits = x.fits;
            grows = grows_then modes rules old now new g.grows x.grows;
            env_within = y.0;
            kids_within = y.1;
            events = after_then tries left then_left all_first all_now (left_at new ps next some (tasks ++ others)) g.events y.2;
            noted = λ ks z. g.noted ks (noted_same g.grows k (p ∷ ps) (env_at (store_envs now) env) ks (y.3 ks (noted_back g.grows (suc k) ps (env_at (store_envs new) next) ks
                (subst (λ (i : ℕ). noted_at i ps (env_at (store_envs new) next) ks) one_more z))));
          })

      -- nothing is given at it, and the tasks are left
      pub going_fails : (notes : Vec ℕ Global) → PremiseTraced modes rules pairs js n now new left then_left cell rule p ps tasks (tasks ++ others) (Fails notes) →
          CandidateTraced modes rules pairs js n old new tries then_left number rule levels env_first tasks_first (tasks_first ++ (more ++ others)) (Failed notes)
      going_fails notes x =
          subst (λ (after : List TaskOf). CandidateTraced modes rules pairs js n old new tries then_left number rule levels env_first tasks_first after (Failed notes)) (append_assoc tasks_first more others) (record {
            piled = λ first t. x.piled first (g.piled first t);
            grows = grows_then modes rules old now new g.grows x.grows;
            is = (
              after_then tries left then_left all_first all_now (events_left modes rules pairs js new (tasks ++ others)) g.events x.is.0,
              g.noted (reverse notes.items) (noted_same g.grows k (p ∷ ps) (env_at (store_envs now) env) (reverse notes.items) x.is.1),
            );
          })

      -- the walk halts at it
      pub going_halts : (after : List TaskOf) (ending : EndingOf) → PremiseTraced modes rules pairs js n now new left then_left cell rule p ps tasks (tasks ++ others) (Halts ending) → CandidateTraced modes rules pairs js n old new tries then_left number rule levels env_first tasks_first after (Halted ending)
      going_halts after ending x = record {
        piled = tt;
        grows = grows_then modes rules old now new g.grows x.grows;
        is = halts_then tries left then_left ending all_first all_now g.events x.is;
      }

-- all premises hold
module _ (modes : Modes) (rules : List Rule) (pairs : List Pair) (js : List Judgement) (n number : ℕ) (rule : Rule) (levels : ℕ) (old : Store) (env_first tries : ℕ) (tasks_first : List TaskOf) (hp : ArePairs (length (store_trees old)) pairs) (now : Store) (left k env kids : ℕ)
    (tasks : List TaskOf) (g : Going modes rules pairs js n number rule levels old env_first tries tasks_first now left k [] env kids tasks)
    (new : Store) (outs : Vec ℕ Global)
    (made : AreMadeInStore now new outs.items (outputs_of modes (judgement_instance (filled (env_at (store_envs now) env)) rule.conclusion))) where
  abbrev hyps_now : Hypotheses
  hyps_now = hyps_in pairs now js

  abbrev env_now : Assignment
  env_now = env_at (store_envs now) env

  abbrev kids_now : Proofs
  kids_now = kids_at (store_kids now) kids

  abbrev from_first : List (Event Answer)
  from_first = premises_left modes rules pairs js old number rule levels rule.premises env_first 0 tasks_first

  abbrev from_now : List (Event Answer)
  from_now = premises_left modes rules pairs js now number rule levels [] env kids tasks

  abbrev left_now : List (Event Answer)
  left_now = events_left modes rules pairs js now tasks

  end_grows : StoreGrows modes rules now new
  end_grows = grows_terms modes rules now new g.grows.store made.held.arena made.held.extends made.binds made.kids made.frames made.until

  left_stays : left_now ≡ events_left modes rules pairs js new tasks
  left_stays =
      let w = pairs_more_terms (length (store_trees old)) (length (store_trees now)) (extends-length (store_trees old) (store_trees now) g.grows.trees) pairs hp in
      sym (events_stay modes rules n pairs js now new tasks w end_grows g.fits)

  -- the outputs pass a limit
  pub going_passed : (after : List TaskOf) (l : Limit) → IsLimit (limit_passed (map (tree_at (store_trees new)) outs.items)) (Some l) → CandidateTraced modes rules pairs js n old new tries left number rule levels env_first tasks_first after (Halted (Passed l))
  going_passed after l i =
      let q = limit_is (limit_passed (map (tree_at (store_trees new)) outs.items)) l i in
      let e : limit_passed (outputs_of modes (judgement_instance (filled env_now) rule.conclusion)) ≡ Some q.0 = sym (ap limit_passed made.held.are) ∙ q.1 in
      record {
        piled = tt;
        grows = grows_then modes rules old now new g.grows end_grows;
        is = halts_then tries left left (Passed l) from_first from_now g.events
            (halts_here left (Passed l) from_now (q.0, q.2, (left_now, ap (λ (es : List (Event Answer)). es ++ left_now) (end_passed modes rules hyps_now number rule levels env_now kids_now q.0 e))));
      }

  -- they pass none, and the answer is given
  module _ (fine : limit_passed (map (tree_at (store_trees new)) outs.items) ≡ None) (variables : ℕ) (v : variables ≡ length rule.sorts) where
    abbrev answer : Answer
    answer = answer_in new (By number variables env kids) outs.items

    gives : premises_after modes rules hyps_now number rule levels [] env_now kids_now ≡ give answer ∷ []
    gives =
        let limit : limit_passed (outputs_of modes (judgement_instance (filled env_now) rule.conclusion)) ≡ None = sym (ap limit_passed made.held.are) ∙ fine in
        let x = stays modes rules now new env kids 0 end_grows g.env_within g.kids_within (omega arith) in
        after_end modes rules hyps_now number rule levels env_now kids_now limit
        ∙ (λ i. give (by number (first_values (sym v i) (filled (sym x.envs i))) (sym x.kids_are i), sym made.held.are i) ∷ [])

    pub going_end : CandidateTraced modes rules pairs js n old new tries left number rule levels env_first tasks_first tasks (Answered (By number variables env kids) outs)
    going_end =
        let z = sizes modes rules new in
        let ze = z.envs in
        let zk = z.kids in
        let x = stays modes rules now new env kids 0 end_grows g.env_within g.kids_within (omega arith) in
        let xe = x.env_within in
        let xk = x.kids_within in
        record {
          piled = λ first t. piled_later modes rules n first now new tasks (g.piled first t) end_grows;
          grows = grows_then modes rules old now new g.grows end_grows;
          is = (
            ((omega arith), (omega arith)),
            made.held.within,
            after_then tries left left from_first from_now (give answer ∷ events_left modes rules pairs js new tasks) g.events (after_none left from_now (give answer ∷ events_left modes rules pairs js new tasks) (λ i. gives i ++ left_stays i)),
          );
        }
