-- A search on its way to what it comes to next.
use Rattle.std.proofs.Common.{◌≡◌, ℕ, zero, suc, ◌+◌, ◌<◌, slice_set, ◌≤◌, List, [], ◌∷◌, ◌++◌, take, get_or, length, Some, None, refl, sym, ap, ◌∙◌, arith, subst}
use Rattle.std.specs.Prelude.{Ok, Err}
use Rattle.sx_term.specs.declared.no_memory.NoMemory.{NoMemory}
use Rattle.sx_rules.specs.Rules.{Judgement, Rule}
use Rattle.sx_rules.specs.Modes.{Modes}
use Rattle.sx_arena.specs.declared.fact.Fact.{Fact}
use Rattle.sx_arena.specs.declared.pairs.Pair.{Pair}
use Rattle.sx_derive.specs.Candidates.{AreFacts}
use Rattle.sx_derive.specs.Passing.{ComeToNothing}
use Rattle.sx_derive.specs.Resumable.{TakesTries, IsReachedAt, IsReached, AreTasksSettled}
use Rattle.sx_derive.specs.Store.{IsStore, StoreGrows, store_trees}
use Rattle.sx_derive.specs.Tasks.{events_left, TaskFits, TasksFit}
use Rattle.sx_derive.specs.Turns.{IsMetAfterTry, IsTaskTurn}
use Rattle.sx_derive.specs.Walk.{Event, try, Answer, tries_then}
use Rattle.sx_derive.specs.declared.store.Store.{Store}
use Rattle.sx_derive.specs.declared.tasks.Ending.{Ending as EndingOf}
use Rattle.sx_derive.specs.declared.tasks.Ending.TheVariants.{Found, Passed, DepthSpent, Spent}
use Rattle.sx_derive.specs.declared.tasks.Ending.TheVariants.{Exhausted}
use Rattle.sx_derive.specs.declared.tasks.Task.{Task as TaskOf}
use Rattle.sx_arena.proofs.Facts.{facts_stay}
use Rattle.sx_derive.proofs.Passed.{tries_more, tries_both}
use Rattle.sx_derive.proofs.Stored.{grows_same, grows_then}
use Rattle.sx_derive.proofs.Tasked.{facts_length}
use Rattle.sx_derive.proofs.Turned.{events_try, events_pop, fits_pop, moved_fits, moved_events}

-- the last of a list that is not empty
last_of : {X : Type 0} (xs : List X) (n : ℕ) (d : X) → length xs ≡ suc n → xs ≡ take n xs ++ get_or xs n d ∷ []
last_of [] n d h = absurd (omega arith)
last_of (x ∷ []) zero d h = refl
last_of (x ∷ []) (suc n) d h = absurd (omega arith)
last_of (x ∷ y ∷ xs) zero d h = absurd (omega arith)
last_of (x ∷ y ∷ xs) (suc n) d h = ap (λ zs. x ∷ zs) (last_of (y ∷ xs) n d (omega arith))

last_or : TaskOf → List TaskOf → TaskOf
last_or d [] = d
last_or d (x ∷ xs) = last_or x xs

last_is : (xs : List TaskOf) (d x : TaskOf) → last_or d (xs ++ x ∷ []) ≡ x
unfolding last_or
last_is [] d x = refl
last_is (y ∷ xs) d x = last_is xs y x

-- there is one last task
pub last_less : (ts rest : List TaskOf) (t : TaskOf) (n : ℕ) → ts ≡ rest ++ t ∷ [] → (front : List TaskOf) × (last : TaskOf) × (ts ≡ front ++ last ∷ []) × (last.next < n) → t.next < n
last_less ts rest t n e h =
    let q : h.1 ≡ t = sym (last_is h.0 t h.1) ∙ ap (last_or t) (sym h.2 ∙ e) ∙ last_is rest t t in
    subst (λ (k : TaskOf). k.next < n) q h.3

-- the last of a list, replaced
pub set_last : {X : Type 0} (xs : List X) (n : ℕ) (d : X) → length xs ≡ suc n → slice_set xs n d ≡ take n xs ++ d ∷ []
set_last [] n d h = absurd (omega arith)
set_last (x ∷ []) zero d h = refl
set_last (x ∷ []) (suc n) d h = absurd (omega arith)
set_last (x ∷ y ∷ xs) zero d h = absurd (omega arith)
set_last (x ∷ y ∷ xs) (suc n) d h = ap (λ zs. x ∷ zs) (set_last (y ∷ xs) n d (omega arith))

take_kept : {X : Type 0} (xs : List X) (n : ℕ) (d : X) → length xs ≡ suc n → take n (take n xs ++ d ∷ []) ≡ take n xs
take_kept xs zero d h = refl
take_kept [] (suc n) d h = absurd (omega arith)
take_kept (x ∷ xs) (suc n) d h = ap (λ zs. x ∷ zs) (take_kept xs n d (omega arith))

-- the last task, from another candidate on
module _ (modes : Modes) (rules : List Rule) (pairs : List Pair) (n : ℕ) (s : Store) (ts changed : List TaskOf) (i : ℕ) (t after : TaskOf) (next : ℕ) (h : length ts ≡ suc i) (e : t ≡ get_or ts i t)
    (a : after ≡ record { next = next; form = t.form; terms = t.terms; levels = t.levels; frames = t.frames; mark = t.mark }) (c : changed ≡ slice_set ts i after) where
  parted : ts ≡ take i ts ++ t ∷ []
  parted = last_of ts i t h ∙ ap (λ (k : TaskOf). take i ts ++ k ∷ []) (sym e)

  pub last_changed : changed ≡ take i ts ++ after ∷ []
  last_changed = c ∙ set_last ts i after h

  pub last_fits : TasksFit modes rules s n ts → TaskFits modes rules s n t
  last_fits f = (fits_pop modes rules n s (take i ts) t (subst (λ (zs : List TaskOf). TasksFit modes rules s n zs) parted f)).1

  pub changed_fits : next ≤ n → TasksFit modes rules s n ts → TasksFit modes rules s n changed
  changed_fits l f =
      subst (λ (zs : List TaskOf). TasksFit modes rules s n zs) (sym last_changed)
      (moved_fits modes rules n s (take i ts) t after next a l (subst (λ (zs : List TaskOf). TasksFit modes rules s n zs) parted f))

  pub changed_events : next ≤ n → (js : List Judgement) (k : ℕ) → next ≡ t.next + k → ComeToNothing modes rules pairs js s t t.next k →
      events_left modes rules pairs js s ts ≡ tries_then k (events_left modes rules pairs js s changed)
  changed_events l js k m x =
      ap (events_left modes rules pairs js s) parted
      ∙ moved_events modes rules n s (take i ts) t after next a l pairs js k m x
      ∙ ap (λ (zs : List TaskOf). tries_then k (events_left modes rules pairs js s zs)) (sym last_changed)

  rest_is : (rest : List TaskOf) → rest ≡ take i changed → rest ≡ take i ts
  rest_is rest r = r ∙ ap (take i) last_changed ∙ take_kept ts i after h

  pub rest_fit : (rest : List TaskOf) → rest ≡ take i changed → TasksFit modes rules s n ts → TasksFit modes rules s n rest
  rest_fit rest r f =
      subst (λ (zs : List TaskOf). TasksFit modes rules s n zs) (sym (rest_is rest r))
      (fits_pop modes rules n s (take i ts) t (subst (λ (zs : List TaskOf). TasksFit modes rules s n zs) parted f)).0

  pub rest_events : (rest : List TaskOf) → rest ≡ take i changed → (js : List Judgement) → length js + length rules ≤ after.next → events_left modes rules pairs js s changed ≡ events_left modes rules pairs js s rest
  rest_events rest r js l =
      ap (events_left modes rules pairs js s) last_changed
      ∙ events_pop modes rules pairs js s (take i ts) after l
      ∙ ap (events_left modes rules pairs js s) (sym (rest_is rest r))

module _ (modes : Modes) (rules : List Rule) (pairs : List Pair) (facts : List Fact) (old : Store) (budget : ℕ) (start : List TaskOf) (first : ℕ) where
  abbrev candidates : ℕ
  candidates = length facts + length rules

  abbrev events_first : List Judgement → List (Event Answer)
  events_first js = events_left modes rules pairs js old start

  -- the tries so far, and what is left
  pub record Reaching (now : Store) (tries last : ℕ) (tasks : List TaskOf) : Type 0 where
    pub grows : StoreGrows modes rules old now
    pub fits : TasksFit modes rules now (length facts + length rules) tasks
    pub less : tries ≤ budget
    pub steps : last ≡ first + tries
    pub goes : (js : List Judgement) → AreFacts modes (store_trees old) js facts → events_first js ≡ tries_then tries (events_left modes rules pairs js now tasks)

  pub reaching_first : IsStore modes rules old → TasksFit modes rules old (length facts + length rules) start → Reaching old 0 first start
  reaching_first h f = record { grows = grows_same modes rules old h; fits = f; less = (omega arith); steps = (omega arith); goes = λ js a. refl }

  module _ (now : Store) (tries last : ℕ) (tasks : List TaskOf) (w : Reaching now tries last tasks) where
    pub facts_then : (js : List Judgement) → AreFacts modes (store_trees old) js facts → AreFacts modes (store_trees now) js facts
    facts_then js a = facts_stay modes (store_trees old) (store_trees now) w.grows.trees js facts a

    pub reaching_settled : (one : List Judgement) → AreFacts modes (store_trees old) one facts → (rest : List TaskOf) (n then_tries then_last : ℕ) → then_tries ≡ tries + n → then_tries ≤ budget → then_last ≡ last + n →
        ((js : List Judgement) → AreFacts modes (store_trees now) js facts → AreTasksSettled modes rules pairs js now (length facts + length rules) n tasks rest) → Reaching now then_tries then_last rest
    reaching_settled one b rest n then_tries then_last e l f x =
        let s = w.steps in
        record {
          grows = w.grows;
          fits = (x one (facts_then one b)).fits;
          less = l;
          steps = (omega arith);
          goes = λ js a.
              w.goes js a
              ∙ ap (tries_then tries) (x js (facts_then js a)).same
              ∙ tries_both tries n then_tries (events_left modes rules pairs js now rest) e;
        }

    takes : (js : List Judgement) → AreFacts modes (store_trees old) js facts → TakesTries budget first last (events_first js) (events_left modes rules pairs js now tasks) tries
    takes js a = record { within = w.less; counted = w.steps; events = w.goes js a }

    pub reaching_end : tasks ≡ [] → (js : List Judgement) → AreFacts modes (store_trees old) js facts →
        IsReached modes rules pairs js (length facts + length rules) old now tasks budget first last (events_first js) (Ok (record { ending = Exhausted; tries = tries }))
    reaching_end e js a = (w.grows, w.fits, (takes js a, ap (events_left modes rules pairs js now) e))

    module _ (rest : List TaskOf) (task : TaskOf) (e : tasks ≡ rest ++ task ∷ []) (less : task.next < length facts + length rules) where
      begins : (js : List Judgement) → AreFacts modes (store_trees old) js facts → (more : List (Event Answer)) × (events_left modes rules pairs js now tasks ≡ try ∷ more)
      begins js a =
          let l = facts_length modes (store_trees old) js facts a in
          let b = events_try modes rules pairs js now rest task (omega arith) in
          (b.0, ap (events_left modes rules pairs js now) e ∙ b.1)

      pub reaching_spent : tries ≡ budget → (js : List Judgement) → AreFacts modes (store_trees old) js facts →
          IsReached modes rules pairs js (length facts + length rules) old now tasks budget first last (events_first js) (Ok (record { ending = Spent; tries = tries }))
      reaching_spent z js a = (w.grows, w.fits, (z, takes js a, begins js a))

      popped_fits : TasksFit modes rules now (length facts + length rules) rest × TaskFits modes rules now (length facts + length rules) task
      popped_fits = fits_pop modes rules (length facts + length rules) now rest task (subst (λ (ts : List TaskOf). TasksFit modes rules now (length facts + length rules) ts) e w.fits)

      pub rest_fits : TasksFit modes rules now (length facts + length rules) rest
      rest_fits = popped_fits.0

      pub task_fits : TaskFits modes rules now (length facts + length rules) task
      task_fits = popped_fits.1

      module _ (h : (tries ≡ budget → ⊥)) (after : ℕ) (n : after ≡ last + 1) where
        further : (js : List Judgement) → AreFacts modes (store_trees old) js facts → (es rest_of : List (Event Answer)) → events_left modes rules pairs js now (rest ++ task ∷ []) ≡ try ∷ es → es ≡ rest_of →
            TakesTries budget first after (events_first js) rest_of (suc tries)
        further js a es rest_of q z =
            let m = w.less in
            let k = w.steps in
            record {
              within = (omega arith);
              counted = (omega arith);
              events = w.goes js a ∙ ap (tries_then tries) (ap (events_left modes rules pairs js now) e ∙ q) ∙ tries_more tries es ∙ ap (tries_then (suc tries)) z;
            }

        pub reaching_failed : (err : NoMemory) (new : Store) (more : List TaskOf) → (js : List Judgement) → AreFacts modes (store_trees old) js facts →
            IsReached modes rules pairs js (length facts + length rules) old new more budget first after (events_first js) (Err err)
        reaching_failed err new more js a =
            let l = facts_length modes (store_trees old) js facts a in
            let b = events_try modes rules pairs js now rest task (omega arith) in
            (suc tries, b.0, further js a b.0 b.0 b.1 refl, (omega arith))

        module _ (new : Store) (more : List TaskOf) where
          pub reaching_more : (one : List Judgement) → AreFacts modes (store_trees old) one facts →
              ((js : List Judgement) → AreFacts modes (store_trees now) js facts → IsTaskTurn modes rules pairs js (length facts + length rules) now new task rest more None) → Reaching new (tries + 1) after more
          reaching_more one b x =
              let y = x one (facts_then one b) in
              let m = w.less in
              let k = w.steps in
              let s : suc tries ≡ tries + 1 = omega arith in
              record {
                grows = grows_then modes rules old now new w.grows y.grows;
                fits = y.fits;
                less = (omega arith);
                steps = (omega arith);
                goes = λ js a.
                    let t = (x js (facts_then js a)).meets in
                    (further js a t.0 (events_left modes rules pairs js new more) t.1 t.2).events ∙ ap (λ (c : ℕ). tries_then c (events_left modes rules pairs js new more)) s;
              }

          met_at : (js : List Judgement) → AreFacts modes (store_trees old) js facts → (es : List (Event Answer)) → events_left modes rules pairs js now (rest ++ task ∷ []) ≡ try ∷ es → (ending : EndingOf) →
              IsMetAfterTry new (Some ending) es (events_left modes rules pairs js new more) → IsReachedAt modes rules pairs js new more budget first after (events_first js) (suc tries) ending
          met_at js a es q (Found head outs) m = ((omega arith), m.0, m.1, further js a es _ q m.2)
          met_at js a es q (Passed limit) m = (m.0, m.1, further js a es _ q m.2)
          met_at js a es q DepthSpent m = further js a es _ q m
          met_at js a es q Spent m = absurd m
          met_at js a es q Exhausted m = absurd m

          pub reaching_ends : (ending : EndingOf) → ((js : List Judgement) → AreFacts modes (store_trees now) js facts → IsTaskTurn modes rules pairs js (length facts + length rules) now new task rest more (Some ending)) →
              (js : List Judgement) → AreFacts modes (store_trees old) js facts →
              IsReached modes rules pairs js (length facts + length rules) old new more budget first after (events_first js) (Ok (record { ending = ending; tries = tries + 1 }))
          reaching_ends ending x js a =
              let y = x js (facts_then js a) in
              let t = y.meets in
              let s : suc tries ≡ tries + 1 = omega arith in (
                grows_then modes rules old now new w.grows y.grows,
                y.fits,
                subst (λ (c : ℕ). IsReachedAt modes rules pairs js new more budget first after (events_first js) c ending) s (met_at js a t.0 t.1 ending t.2),
              )
