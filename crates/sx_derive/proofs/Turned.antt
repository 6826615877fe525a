-- A turn of a walk.
use Rattle.std.proofs.Common.{◌≡◌, ℕ, suc, ◌+◌, ◌-◌, ◌<◌, ◌≤◌, ◌⊎◌, inl, inr, true, false, List, [], ◌∷◌, ◌++◌, map, length, Option, Some, None, refl, sym, ap, ◌∙◌, arith, subst}
use Rattle.std.specs.Prelude.{Vec, IsTrue}
use Rattle.std.proofs.lemmas.Bool.{cases_lt}
use Rattle.std.specs.declared.alloc.Global.{Global}
use Rattle.sx_rules.specs.Rules.{Judgement, Rule, Hypotheses}
use Rattle.sx_rules.specs.Modes.{Modes}
use Rattle.sx_derive.specs.Passing.{task_at, ComeToNothing}
use Rattle.sx_derive.specs.Walk.{depth_spent, Event, try, give, stop, Answer, tries_then}
use Rattle.sx_derive.specs.Machine.{Task, hypotheses_from, Result, nothing, stops, answers, goes_on}
use Rattle.sx_derive.specs.Machine.{tasks_events, result_events}
use Rattle.sx_derive.specs.declared.chains.Head.{Head}
use Rattle.sx_arena.specs.declared.pairs.Pair.{Pair}
use Rattle.sx_arena.specs.declared.places.Limit.{Limit}
use Rattle.sx_derive.specs.declared.step.Step.{Step}
use Rattle.sx_derive.specs.declared.step.Step.TheVariants.{Nothing, Passed, DepthSpent, Done, Goes}
use Rattle.sx_derive.specs.declared.store.Mark.{Mark}
use Rattle.sx_derive.specs.declared.store.Store.{Store}
use Rattle.sx_derive.proofs.Stored.{grows_same, grows_then}
use Rattle.sx_derive.specs.declared.tasks.Task.{Task as TaskOf}
use Rattle.sx_derive.specs.declared.tasks.Ending.{Ending as EndingOf}
use Rattle.sx_derive.specs.declared.tasks.Ending.TheVariants.{Found, Passed as WasPassed}
use Rattle.sx_derive.specs.declared.tasks.Ending.TheVariants.{DepthSpent as WasSpent}
use Rattle.sx_arena.specs.Arena.{tree_at, AreBelow}
use Rattle.sx_derive.specs.Candidates.{goal_in}
use Rattle.sx_derive.specs.Handing.{hyps_in, answer_in, frames_in}
use Rattle.sx_arena.specs.Pairs.{ArePairs}
use Rattle.sx_derive.specs.Chains.{HeadFits}
use Rattle.sx_derive.specs.Step.{IsSearchStep}
use Rattle.sx_derive.specs.Store.{IsStore, StoreGrows, IsMark, store_trees, store_envs, store_kids}
use Rattle.sx_derive.specs.Store.{store_frames}
use Rattle.sx_derive.specs.Tasks.{task_from, task_in, stacked, events_left, TaskFits, TasksFit}
use Rattle.sx_derive.specs.Tasks.{Piled, IsNextCandidate}
use Rattle.sx_derive.specs.Turns.{IsTaskTurn}
use Rattle.sx_arena.proofs.Arenas.{maps_same, below_more}
use Rattle.sx_derive.proofs.Chained.{frames_stay_at}
use Rattle.sx_arena.proofs.Growing.{extends-length}
use Rattle.sx_arena.proofs.Parted.{pairs_stay}
use Rattle.sx_derive.proofs.Resumed.{sizes}
use Rattle.sx_derive.proofs.Tasked.{task_hypotheses, next_given, next_rule, next_none, rule_there, judgement_there}

module _ (modes : Modes) (rules : List Rule) (js : List Judgement) where
  pub stack_push : (s : Store) (xs : List TaskOf) (t : TaskOf) (ts : List Task) → stacked modes rules js s (xs ++ t ∷ []) ts ≡ task_in modes rules js s t ∷ stacked modes rules js s xs ts
  stack_push s [] t ts = refl
  stack_push s (x ∷ xs) t ts = stack_push s xs t (task_in modes rules js s x ∷ ts)

  -- more in the store changes no task
  pub task_stays : (s t : Store) (n : ℕ) (k : TaskOf) → StoreGrows modes rules s t → TaskFits modes rules s n k → task_in modes rules js t k ≡ task_in modes rules js s k
  task_stays s t n k g f =
      let e = maps_same (store_trees s) (store_trees t) g.trees k.terms.items f.terms in
      let z = (sizes modes rules s).frames in
      let l = f.frames in
      let q = frames_stay_at (store_frames modes rules s) (store_frames modes rules t) g.frames k.frames (omega arith) in
      λ i. task_from k.next js rules k.levels (record { form = k.form; terms = e i }) (q i)

  pub stack_stays : (s t : Store) (n : ℕ) (xs : List TaskOf) (ts : List Task) → StoreGrows modes rules s t → TasksFit modes rules s n xs → stacked modes rules js t xs ts ≡ stacked modes rules js s xs ts
  stack_stays s t n [] ts g f = refl
  stack_stays s t n (x ∷ xs) ts g f = ap (λ k. stacked modes rules js t xs (k ∷ ts)) (task_stays s t n x g f.0) ∙ stack_stays s t n xs (task_in modes rules js s x ∷ ts) g f.1

module _ (modes : Modes) (rules : List Rule) (n : ℕ) where
  pub fit_more : (s t : Store) (k : TaskOf) → StoreGrows modes rules s t → TaskFits modes rules s n k → TaskFits modes rules t n k
  fit_more s t k g f =
      let a = (sizes modes rules s).frames in
      let b = (sizes modes rules t).frames in
      let x = extends-length (store_frames modes rules s) (store_frames modes rules t) g.frames in
      let l = f.frames in
      let o = f.until in
      let u = g.until in
      record {
        next = f.next;
        terms = below_more (length (store_trees s)) (length (store_trees t)) (extends-length (store_trees s) (store_trees t) g.trees) k.terms.items f.terms;
        frames = (omega arith);
        until = (omega arith);
      }

  pub fits_more : (s t : Store) (xs : List TaskOf) → StoreGrows modes rules s t → TasksFit modes rules s n xs → TasksFit modes rules t n xs
  fits_more s t [] g f = tt
  fits_more s t (x ∷ xs) g f = (fit_more s t x g f.0, fits_more s t xs g f.1)

  pub fits_push : (s : Store) (xs : List TaskOf) (k : TaskOf) → TasksFit modes rules s n xs → TaskFits modes rules s n k → TasksFit modes rules s n (xs ++ k ∷ [])
  fits_push s [] k f g = (g, tt)
  fits_push s (x ∷ xs) k f g = (f.0, fits_push s xs k f.1 g)

  pub fits_pop : (s : Store) (xs : List TaskOf) (k : TaskOf) → TasksFit modes rules s n (xs ++ k ∷ []) → TasksFit modes rules s n xs × TaskFits modes rules s n k
  fits_pop s [] k f = (tt, f.0)
  fits_pop s (x ∷ xs) k f = let r = fits_pop s xs k f.1 in ((f.0, r.0), r.1)

module _ (modes : Modes) (rules : List Rule) (n : ℕ) where
  abbrev P : Store → List TaskOf → Store → Type 0
  P b xs s = Piled modes rules n b xs s

  pub piled_grows : (b s : Store) (xs : List TaskOf) → P b xs s → StoreGrows modes rules b s
  piled_grows b s [] p = p
  piled_grows b s (x ∷ xs) p = grows_then modes rules b p.0 s p.1.0 (piled_grows p.0 s xs p.1.3)

  pub piled_fits : (b s : Store) (xs : List TaskOf) → P b xs s → TasksFit modes rules s n xs
  piled_fits b s [] p = tt
  piled_fits b s (x ∷ xs) p = (fit_more modes rules n p.0 s x (piled_grows p.0 s xs p.1.3) p.1.2, piled_fits p.0 s xs p.1.3)

  pub piled_push : (b c s : Store) (xs : List TaskOf) (t : TaskOf) → P b xs c → IsMark c t.mark → TaskFits modes rules c n t → StoreGrows modes rules c s → P b (xs ++ t ∷ []) s
  piled_push b c s [] t p k f g = (c, (p, k, f, g))
  piled_push b c s (x ∷ xs) t p k f g = (p.0, (p.1.0, p.1.1, p.1.2, piled_push p.0 c s xs t p.1.3 k f g))

  -- the store of the last task
  pub piled_top : (b s : Store) (xs : List TaskOf) (t : TaskOf) → P b (xs ++ t ∷ []) s → (c : Store) × (P b xs c × IsMark c t.mark × TaskFits modes rules c n t × StoreGrows modes rules c s)
  piled_top b s [] t p = (p.0, (p.1.0, p.1.1, p.1.2, p.1.3))
  piled_top b s (x ∷ xs) t p = let r = piled_top p.0 s xs t p.1.3 in (r.0, ((p.0, (p.1.0, p.1.1, p.1.2, r.1.0)), r.1.1, r.1.2, r.1.3))

  pub piled_later : (b c s : Store) (xs : List TaskOf) → P b xs c → StoreGrows modes rules c s → P b xs s
  piled_later b c s [] p g = grows_then modes rules b c s p g
  piled_later b c s (x ∷ xs) p g = (p.0, (p.1.0, p.1.1, p.1.2, piled_later p.0 c s xs p.1.3 g))

  pub piled_pop : (b s : Store) (xs : List TaskOf) (t : TaskOf) → P b (xs ++ t ∷ []) s → P b xs s
  piled_pop b s xs t p = let r = piled_top b s xs t p in piled_later b r.0 s xs r.1.0 r.1.3

  -- tasks that stood in a store before have the same events
  pub events_stay : (pairs : List Pair) (js : List Judgement) (c s : Store) (xs : List TaskOf) → ArePairs (length (store_trees c)) pairs → StoreGrows modes rules c s → TasksFit modes rules c n xs →
      events_left modes rules pairs js s xs ≡ events_left modes rules pairs js c xs
  events_stay pairs js c s xs hp g f =
      λ i. tasks_events modes rules (record { judgements = js; pairs = pairs_stay (store_trees c) (store_trees s) g.trees pairs hp i }) (stack_stays modes rules js c s n xs [] g f i)

-- a task without a candidate has no events
pub events_pop : (modes : Modes) (rules : List Rule) (pairs : List Pair) (js : List Judgement) (s : Store) (xs : List TaskOf) (k : TaskOf) → length js + length rules ≤ k.next →
    events_left modes rules pairs js s (xs ++ k ∷ []) ≡ events_left modes rules pairs js s xs
events_pop modes rules pairs js s xs k h =
    ap (tasks_events modes rules (hyps_in pairs s js)) (stack_push modes rules js s xs k [])
    ∙ next_none modes rules (hyps_in pairs s js) k.levels (goal_in s k.form k.terms.items) (frames_in modes rules s k.frames) k.next h (stacked modes rules js s xs [])

module _ (modes : Modes) (rules : List Rule) (pairs : List Pair) (js : List Judgement) (n : ℕ) (old new : Store) (t after : TaskOf) (tasks : List TaskOf) (step : Step)
    (hs : IsStore modes rules old) (hp : ArePairs (length (store_trees old)) pairs) (ft : TaskFits modes rules old n t) (fs : TasksFit modes rules old n tasks)
    (less : t.next < n) (x : IsNextCandidate modes rules pairs js old new t step)
    (a_next : after.next ≡ t.next + 1) (a_form : after.form ≡ t.form) (a_terms : after.terms.items ≡ t.terms.items) (a_levels : after.levels ≡ t.levels) (a_frames : after.frames ≡ t.frames) (a_mark : after.mark ≡ t.mark) where
  abbrev hyps : Hypotheses
  hyps = hyps_in pairs old js

  hyps_same : hyps_in pairs new js ≡ hyps_in pairs old js
  hyps_same = λ i. record { judgements = js; pairs = pairs_stay (store_trees old) (store_trees new) x.grows.trees pairs hp i }

  after_fits : TaskFits modes rules new n after
  after_fits =
      let f = fit_more modes rules n old new t x.grows ft in
      let z = f.frames in
      let o = f.until in
      record {
        next = (omega arith);
        terms = subst (λ is. AreBelow (length (store_trees new)) is) (sym a_terms) f.terms;
        frames = (omega arith);
        until = (omega arith);
      }

  -- the task that is left, and the tasks before it
  abbrev left_task : Task
  left_task = task_from (suc t.next) js rules t.levels (goal_in old t.form t.terms.items) (frames_in modes rules old t.frames)

  abbrev left_stack : List Task
  left_stack = left_task ∷ stacked modes rules js old tasks []

  pub left_fits : TasksFit modes rules new n (tasks ++ after ∷ [])
  left_fits = fits_push modes rules n new tasks after (fits_more modes rules n old new tasks x.grows fs) after_fits

  after_in : (c : Store) → TaskFits modes rules c n t → TaskFits modes rules c n after
  after_in c f =
      let z = f.frames in
      let o = f.until in
      record {
        next = (omega arith);
        terms = subst (λ is. AreBelow (length (store_trees c)) is) (sym a_terms) f.terms;
        frames = (omega arith);
        until = (omega arith);
      }

  left_piled : (first c : Store) → Piled modes rules n first tasks c → IsMark c t.mark → TaskFits modes rules c n t → StoreGrows modes rules c old → Piled modes rules n first (tasks ++ after ∷ []) new
  left_piled first c p k f g =
      piled_push modes rules n first c new tasks after p (subst (λ (m : Mark). IsMark c m) (sym a_mark) k) (after_in c f) (grows_then modes rules c old new g x.grows)

  after_is : task_in modes rules js new after ≡ left_task
  after_is =
      let m : after.next ≡ suc t.next = omega arith in
      let e : map (tree_at (store_trees new)) after.terms.items ≡ map (tree_at (store_trees old)) t.terms.items =
      ap (map (tree_at (store_trees new))) a_terms ∙ maps_same (store_trees old) (store_trees new) x.grows.trees t.terms.items ft.terms in
      let z = (sizes modes rules old).frames in
      let l = ft.frames in
      let q : frames_in modes rules new after.frames ≡ frames_in modes rules old t.frames = ap (frames_in modes rules new) a_frames ∙ frames_stay_at (store_frames modes rules old) (store_frames modes rules new) x.grows.frames t.frames (omega arith) in
      λ i. task_from (m i) js rules (a_levels i) (record { form = a_form i; terms = e i }) (q i)

  stack_is : stacked modes rules js new (tasks ++ after ∷ []) [] ≡ left_stack
  stack_is = stack_push modes rules js new tasks after [] ∙ (λ i. after_is i ∷ stack_stays modes rules js old new n tasks [] x.grows fs i)

  left_is : events_left modes rules pairs js new (tasks ++ after ∷ []) ≡ tasks_events modes rules hyps left_stack
  left_is = λ i. tasks_events modes rules (hyps_same i) (stack_is i)

  old_is : (r : Result) → x.result ≡ r → events_left modes rules pairs js old (tasks ++ t ∷ []) ≡ try ∷ (result_events modes rules hyps r ++ tasks_events modes rules hyps left_stack)
  old_is r e =
      ap (tasks_events modes rules hyps) (stack_push modes rules js old tasks t [])
      ∙ x.events (stacked modes rules js old tasks [])
      ∙ ap (λ q. try ∷ (result_events modes rules hyps q ++ tasks_events modes rules hyps left_stack)) e

  pub turn_nothing : step ≡ Nothing → IsTaskTurn modes rules pairs js n old new t tasks (tasks ++ after ∷ []) None
  turn_nothing e =
      let r : x.result ≡ nothing = subst (λ (y : Step). IsSearchStep modes rules js new answers y x.result) e x.is in
      let q = old_is nothing r in
      record {
        grows = x.grows;
        fits = left_fits;
        piled = left_piled;
        meets = (_, q, sym left_is);
      }

  pub turn_passed : (l : Limit) → step ≡ Passed l → IsTaskTurn modes rules pairs js n old new t tasks (tasks ++ after ∷ []) (Some (WasPassed l))
  turn_passed l e =
      let r = subst (λ (y : Step). IsSearchStep modes rules js new answers y x.result) e x.is in
      let q = old_is (stops r.0) r.2 in
      record {
        grows = x.grows;
        fits = left_fits;
        piled = left_piled;
        meets = (_, q, (r.0, r.1, ap (λ es. stop r.0 ∷ es) (sym left_is)));
      }

  pub turn_spent : step ≡ DepthSpent → IsTaskTurn modes rules pairs js n old new t tasks (tasks ++ after ∷ []) (Some WasSpent)
  turn_spent e =
      let r : x.result ≡ stops depth_spent = subst (λ (y : Step). IsSearchStep modes rules js new answers y x.result) e x.is in
      let q = old_is (stops depth_spent) r in
      record {
        grows = x.grows;
        fits = left_fits;
        piled = left_piled;
        meets = (_, q, ap (λ es. stop depth_spent ∷ es) (sym left_is));
      }

  pub turn_goes : (form : ℕ) (terms : Vec ℕ Global) (levels frames : ℕ) (mark : Mark) (more : TaskOf) → IsMark new mark → step ≡ Goes form terms levels frames →
      more ≡ record { next = 0; form = form; terms = terms; levels = levels; frames = frames; mark = mark } →
      IsTaskTurn modes rules pairs js n old new t tasks ((tasks ++ after ∷ []) ++ more ∷ []) None
  turn_goes form terms levels frames mark more mk e f =
      let r = subst (λ (y : Step). IsSearchStep modes rules js new answers y x.result) e x.is in
      let goal = goal_in new form terms.items in
      let fr = frames_in modes rules new frames in
      let q = old_is (goes_on (hypotheses_from 0 js levels goal fr)) r.3 in
      let z = (sizes modes rules new).frames in
      let l = r.1 in
      let goes_to : TaskOf = record { next = 0; form = form; terms = terms; levels = levels; frames = frames; mark = mark } in
      let goes_fits : TaskFits modes rules new n goes_to = record { next = (omega arith); terms = r.0; frames = (omega arith); until = r.2 } in
      let k : TasksFit modes rules new n ((tasks ++ after ∷ []) ++ more ∷ []) = subst (λ (m : TaskOf). TasksFit modes rules new n ((tasks ++ after ∷ []) ++ m ∷ [])) (sym f)
      (fits_push modes rules n new (tasks ++ after ∷ []) goes_to left_fits goes_fits) in
      let s : events_left modes rules pairs js new ((tasks ++ after ∷ []) ++ more ∷ []) ≡ tasks_events modes rules hyps (hypotheses_from 0 js levels goal fr ∷ left_stack) =
      ap (tasks_events modes rules (hyps_in pairs new js)) (stack_push modes rules js new (tasks ++ after ∷ []) more [] ∙ ap (λ (m : TaskOf). task_in modes rules js new m ∷ stacked modes rules js new (tasks ++ after ∷ []) []) f)
      ∙ (λ i. tasks_events modes rules (hyps_same i) (task_from 0 js rules levels goal fr ∷ stack_is i))
      ∙ sym (task_hypotheses modes rules hyps levels goal fr 0 left_stack (omega arith)) in
      record {
        grows = x.grows;
        fits = k;
        piled = λ first c p u v g. subst (λ (m : TaskOf). Piled modes rules n first ((tasks ++ after ∷ []) ++ m ∷ []) new) (sym f)
            (piled_push modes rules n first new new (tasks ++ after ∷ []) goes_to (left_piled first c p u v g) mk goes_fits (grows_same modes rules new x.grows.store));
        meets = (_, q, sym s);
      }

  pub turn_found : (head : Head) (outs : Vec ℕ Global) → step ≡ Done head outs → IsTaskTurn modes rules pairs js n old new t tasks (tasks ++ after ∷ []) (Some (Found head outs))
  turn_found head outs e =
      let r : HeadFits (length (store_envs new)) (length (store_kids new)) head × AreBelow (length (store_trees new)) outs.items × (x.result ≡ answers (answer_in new head outs.items)) =
      subst (λ (y : Step). IsSearchStep modes rules js new answers y x.result) e x.is in
      let q = old_is (answers (answer_in new head outs.items)) r.2 in
      record {
        grows = x.grows;
        fits = left_fits;
        piled = left_piled;
        meets = (_, q, (r.0, r.1, ap (λ es. give (answer_in new head outs.items) ∷ es) (sym left_is)));
      }

-- a turn with the tasks that it leaves by another name
pub turned_on : (modes : Modes) (rules : List Rule) (pairs : List Pair) (js : List Judgement) (n : ℕ) (old new : Store) (t : TaskOf) (before more left_over : List TaskOf) (o : Option EndingOf) → left_over ≡ before ++ more →
    IsTaskTurn modes rules pairs js n old new t before (before ++ more) o → IsTaskTurn modes rules pairs js n old new t before left_over o
turned_on modes rules pairs js n old new t before more left_over o e h = subst (λ (ts : List TaskOf). IsTaskTurn modes rules pairs js n old new t before ts o) (sym e) h

pub not_less : (m n : ℕ) → (m < n → IsTrue false) → n ≤ m
not_less m n h = go (cases_lt m n)
  where
    go : (m < n) ⊎ (n ≤ m) → n ≤ m
    go (inl x) = (let q : false ≡ true = h x in cc)
    go (inr x) = x

-- where a task has a candidate its events begin with a try
pub events_try : (modes : Modes) (rules : List Rule) (pairs : List Pair) (js : List Judgement) (s : Store) (xs : List TaskOf) (k : TaskOf) → k.next < length js + length rules →
    (more : List (Event Answer)) × (events_left modes rules pairs js s (xs ++ k ∷ []) ≡ try ∷ more)
events_try modes rules pairs js s xs k h = go (cases_lt k.next (length js))
  where
    hyps : Hypotheses
    hyps = hyps_in pairs s js

    ends : (more : List (Event Answer)) → tasks_events modes rules (hyps_in pairs s js) (task_in modes rules js s k ∷ stacked modes rules js s xs []) ≡ try ∷ more →
        (more : List (Event Answer)) × (events_left modes rules pairs js s (xs ++ k ∷ []) ≡ try ∷ more)
    ends more e = (more, ap (tasks_events modes rules (hyps_in pairs s js)) (stack_push modes rules js s xs k []) ∙ e)

    go : (k.next < length js) ⊎ (length js ≤ k.next) → (more : List (Event Answer)) × (events_left modes rules pairs js s (xs ++ k ∷ []) ≡ try ∷ more)
    go (inl x) =
        let j = judgement_there js k.next x in
        ends _ (next_given modes rules (hyps_in pairs s js) k.levels (goal_in s k.form k.terms.items) (frames_in modes rules s k.frames) k.next j.0 j.1 x (stacked modes rules js s xs []))
    go (inr x) =
        let l : k.next - length js < length rules = omega arith in
        let r = rule_there rules (k.next - length js) l in
        let n : k.next ≡ length js + (k.next - length js) = omega arith in
        ends _ (next_rule modes rules (hyps_in pairs s js) k.levels (goal_in s k.form k.terms.items) (frames_in modes rules s k.frames) k.next (k.next - length js) r.0 n r.1 (stacked modes rules js s xs []))

-- the last task with another number in the place of its own
module _ (modes : Modes) (rules : List Rule) (n : ℕ) (s : Store) (xs : List TaskOf) (t after : TaskOf) (next : ℕ) (a : after ≡ record { next = next; form = t.form; terms = t.terms; levels = t.levels; frames = t.frames; mark = t.mark }) (l : next ≤ n) where
  abbrev moved : TaskOf
  moved = record { next = next; form = t.form; terms = t.terms; levels = t.levels; frames = t.frames; mark = t.mark }

  move_fit : (c : Store) → TaskFits modes rules c n t → TaskFits modes rules c n moved
  move_fit c f = record { next = l; terms = f.terms; frames = f.frames; until = f.until }

  pub moved_fits : TasksFit modes rules s n (xs ++ t ∷ []) → TasksFit modes rules s n (xs ++ after ∷ [])
  moved_fits f =
      let p = fits_pop modes rules n s xs t f in
      subst (λ (k : TaskOf). TasksFit modes rules s n (xs ++ k ∷ [])) (sym a) (fits_push modes rules n s xs moved p.0 (move_fit s p.1))

  pub moved_piled : (first : Store) → Piled modes rules n first (xs ++ t ∷ []) s → Piled modes rules n first (xs ++ after ∷ []) s
  moved_piled first p =
      let r = piled_top modes rules n first s xs t p in
      subst (λ (k : TaskOf). Piled modes rules n first (xs ++ k ∷ []) s) (sym a) (piled_push modes rules n first r.0 s xs moved r.1.0 r.1.1 (move_fit r.0 r.1.2) r.1.3)

  pub moved_events : (pairs : List Pair) (js : List Judgement) (k : ℕ) → next ≡ t.next + k → ComeToNothing modes rules pairs js s t t.next k →
      events_left modes rules pairs js s (xs ++ t ∷ []) ≡ tries_then k (events_left modes rules pairs js s (xs ++ after ∷ []))
  moved_events pairs js k e h =
      ap (tasks_events modes rules (hyps_in pairs s js)) (stack_push modes rules js s xs t [])
      ∙ h (stacked modes rules js s xs [])
      ∙ ap (λ (m : ℕ). tries_then k (tasks_events modes rules (hyps_in pairs s js) (task_at modes rules js s t m ∷ stacked modes rules js s xs []))) (sym e)
      ∙ ap (λ (ts : List Task). tries_then k (tasks_events modes rules (hyps_in pairs s js) ts)) (sym (stack_push modes rules js s xs moved []))
      ∙ ap (λ (q : TaskOf). tries_then k (events_left modes rules pairs js s (xs ++ q ∷ []))) (sym a)
