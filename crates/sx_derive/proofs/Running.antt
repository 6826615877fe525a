-- A walk on its way whose tasks are kept.
use Rattle.std.proofs.Common.{◌≡◌, ℕ, ◌+◌, ◌-◌, ◌<◌, List, [], ◌∷◌, ◌++◌, length, Option, Some, None, refl, sym, ap, ◌∙◌, arith, subst}
use Rattle.sx_rules.specs.Rules.{Judgement, Rule}
use Rattle.sx_rules.specs.Modes.{Modes}
use Rattle.sx_arena.specs.Pairs.{ArePairs}
use Rattle.sx_arena.specs.declared.fact.Fact.{Fact}
use Rattle.sx_arena.specs.declared.pairs.Pair.{Pair}
use Rattle.sx_arena.proofs.Facts.{facts_stay}
use Rattle.sx_arena.proofs.Growing.{extends-length}
use Rattle.sx_arena.proofs.Parted.{pairs_more_terms}
use Rattle.sx_derive.specs.Candidates.{AreFacts}
use Rattle.sx_derive.specs.Halting.{AfterTries}
use Rattle.sx_derive.specs.Runs.{IsRunTo, TakesTry}
use Rattle.sx_derive.specs.Store.{StoreGrows, IsMark, IsStoreCut, store_trees}
use Rattle.sx_derive.specs.Tasks.{events_left, TaskFits, TasksFit, Piled}
use Rattle.sx_derive.specs.Turns.{IsTaskPopped, IsMetAfterTry, IsTaskTurn}
use Rattle.sx_derive.specs.Walk.{depth_spent, Event, try, stop, Answer}
use Rattle.sx_derive.specs.declared.store.Store.{Store}
use Rattle.sx_derive.specs.declared.tasks.Ending.{Ending as EndingOf}
use Rattle.sx_derive.specs.declared.tasks.Ending.TheVariants.{Found, Passed, DepthSpent}
use Rattle.sx_derive.specs.declared.tasks.Ending.TheVariants.{Spent, Exhausted}
use Rattle.sx_derive.specs.declared.tasks.Task.{Task as TaskOf}
use Rattle.sx_derive.proofs.Cut.{cut_grows}
use Rattle.sx_derive.proofs.Halted.{after_then}
use Rattle.sx_derive.proofs.Stored.{grows_then}
use Rattle.sx_derive.proofs.Tasked.{facts_length}
use Rattle.sx_derive.proofs.Turned.{fits_push, piled_grows, piled_fits, piled_push, piled_top, events_stay, events_try}

-- where a try was taken
pub takes_try : (old new : ℕ) (ending : EndingOf) → new < old → TakesTry old new ending
takes_try old new (Found head outs) l = l
takes_try old new (Passed limit) l = tt
takes_try old new DepthSpent l = tt
takes_try old new Spent l = tt
takes_try old new Exhausted l = tt

module _ (modes : Modes) (rules : List Rule) (pairs : List Pair) (facts : List Fact) (js : List Judgement) (first old : Store) (budget : ℕ) (start : List TaskOf) where
  -- what is left after the tries so far
  pub record Running (now : Store) (left : ℕ) (tasks : List TaskOf) : Type 0 where
    pub grows : StoreGrows modes rules first now
    pub piled : Piled modes rules (length facts + length rules) first tasks now
    pub goes : AfterTries budget left (events_left modes rules pairs js old start) (events_left modes rules pairs js now tasks)

  pub running_first : Piled modes rules (length facts + length rules) first start old → Running old budget start
  running_first p = record {
    grows = piled_grows modes rules (length facts + length rules) first old start p;
    piled = p;
    goes = (0, (omega arith), refl);
  }

  module _ (a : AreFacts modes (store_trees first) js facts) (now : Store) (left : ℕ) (tasks : List TaskOf) (w : Running now left tasks) where
    pub running_facts : AreFacts modes (store_trees now) js facts
    running_facts = facts_stay modes (store_trees first) (store_trees now) w.grows.trees js facts a

    pub running_fits : TasksFit modes rules now (length facts + length rules) tasks
    running_fits = piled_fits modes rules (length facts + length rules) first now tasks w.piled

    -- after tries that come to nothing
    module _ (n then_left : ℕ) (e : left ≡ n + then_left) (rest : List TaskOf) where
      pub running_popped : (task : TaskOf) → IsTaskPopped modes rules pairs js now (length facts + length rules) n tasks rest (Some task) → Running now then_left (rest ++ task ∷ [])
      running_popped task p = record {
        grows = w.grows;
        piled = p.3 first w.piled;
        goes = after_then budget left then_left _ _ _ w.goes (n, e, p.1);
      }

      pub running_end : IsTaskPopped modes rules pairs js now (length facts + length rules) n tasks rest None →
          IsRunTo modes rules pairs js (length facts + length rules) first now budget then_left (events_left modes rules pairs js old start) rest Exhausted
      running_end p = (w.grows, after_then budget left then_left _ _ _ w.goes (n, e, p.0), p.1)

  module _ (a : AreFacts modes (store_trees first) js facts) (now : Store) (left : ℕ) (task : TaskOf) (rest : List TaskOf) (w : Running now left (rest ++ task ∷ [])) where
    -- the store that there was when the task was made
    abbrev Top : Type 0
    Top = (c : Store) × (Piled modes rules (length facts + length rules) first rest c × IsMark c task.mark × TaskFits modes rules c (length facts + length rules) task × StoreGrows modes rules c now)

    top : Top
    top = piled_top modes rules (length facts + length rules) first now rest task w.piled

    -- where the store is cut back to it nothing changes
    pub running_cut : ArePairs (length (store_trees first)) pairs → (cut : Store) → IsStoreCut task.mark now cut → Running cut left (rest ++ task ∷ [])
    running_cut hp cut k =
        let n = length facts + length rules in
        let t = top in
        let c = t.0 in
        let fc = piled_grows modes rules n first c rest t.1.0 in
        let g = cut_grows modes rules c now cut task.mark fc.store t.1.1 t.1.3 k in
        let hc = pairs_more_terms (length (store_trees first)) (length (store_trees c)) (extends-length (store_trees first) (store_trees c) fc.trees) pairs hp in
        let fits = fits_push modes rules n c rest task (piled_fits modes rules n first c rest t.1.0) t.1.2 in
        let same : events_left modes rules pairs js now (rest ++ task ∷ []) ≡ events_left modes rules pairs js cut (rest ++ task ∷ []) =
        events_stay modes rules n pairs js c now (rest ++ task ∷ []) hc t.1.3 fits ∙ sym (events_stay modes rules n pairs js c cut (rest ++ task ∷ []) hc g fits) in
        record {
          grows = grows_then modes rules first c cut fc g;
          piled = piled_push modes rules n first c cut rest task t.1.0 t.1.1 t.1.2 g;
          goes = subst (λ es. AfterTries budget left (events_left modes rules pairs js old start) es) same w.goes;
        }

    pub running_spent : task.next < length facts + length rules → left ≡ 0 →
        IsRunTo modes rules pairs js (length facts + length rules) first now budget left (events_left modes rules pairs js old start) rest Spent
    running_spent less z =
        let l = facts_length modes (store_trees first) js facts a in
        let b = events_try modes rules pairs js now rest task (omega arith) in
        (w.grows, (events_left modes rules pairs js now (rest ++ task ∷ []), w.goes, (z, b)))

    module _ (l : 0 < left) (new : Store) (more : List TaskOf) where
      further : (es after : List (Event Answer)) → events_left modes rules pairs js now (rest ++ task ∷ []) ≡ try ∷ es → es ≡ after → AfterTries budget (left - 1) (events_left modes rules pairs js old start) after
      further es after q z = after_then budget left (left - 1) _ _ after w.goes (1, (omega arith), q ∙ ap (λ fs. try ∷ fs) z)

      -- the tasks stand where they stood when the turn's task was made, and behind it what the turn made
      turned : (o : Option EndingOf) → IsTaskTurn modes rules pairs js (length facts + length rules) now new task rest more o → Piled modes rules (length facts + length rules) first more new
      turned o y = let t = top in y.piled first t.0 t.1.0 t.1.1 t.1.2 t.1.3

      pub running_more : IsTaskTurn modes rules pairs js (length facts + length rules) now new task rest more None → Running new (left - 1) more
      running_more y =
          let t = y.meets in
          record {
            grows = grows_then modes rules first now new w.grows y.grows;
            piled = turned None y;
            goes = further t.0 (events_left modes rules pairs js new more) t.1 t.2;
          }

      met_at : (es : List (Event Answer)) → events_left modes rules pairs js now (rest ++ task ∷ []) ≡ try ∷ es → StoreGrows modes rules first new → Piled modes rules (length facts + length rules) first more new → (ending : EndingOf) →
          IsMetAfterTry new (Some ending) es (events_left modes rules pairs js new more) →
          IsRunTo modes rules pairs js (length facts + length rules) first new budget (left - 1) (events_left modes rules pairs js old start) more ending
      met_at es q g p (Found head outs) m = (g, p, m.0, m.1, further es _ q m.2)
      met_at es q g p (Passed limit) m =
          let rest_of = events_left modes rules pairs js new more in
          (g, (stop m.0 ∷ rest_of, further es (stop m.0 ∷ rest_of) q m.2, (m.0, m.1, (rest_of, refl))))
      met_at es q g p DepthSpent m =
          let rest_of = events_left modes rules pairs js new more in
          (g, (stop depth_spent ∷ rest_of, further es (stop depth_spent ∷ rest_of) q m, (rest_of, refl)))
      met_at es q g p Spent m = absurd m
      met_at es q g p Exhausted m = absurd m

      pub running_ends : (ending : EndingOf) → IsTaskTurn modes rules pairs js (length facts + length rules) now new task rest more (Some ending) →
          IsRunTo modes rules pairs js (length facts + length rules) first new budget (left - 1) (events_left modes rules pairs js old start) more ending
      running_ends ending y =
          let t = y.meets in
          met_at t.0 t.1 (grows_then modes rules first now new w.grows y.grows) (turned (Some ending) y) ending t.2
