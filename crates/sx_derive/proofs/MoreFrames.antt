-- Answers that are handed on at frames further down: what follows an answer follows at more frames.
use Rattle.std.proofs.Common.{◌≡◌, ℕ, zero, suc, ◌-◌, ◌<◌, ◌≤◌, ◌⊎◌, inl, inr, Bool, true, false, List, [], ◌∷◌, ◌++◌, length, refl, sym, ap, ◌∙◌, arith, subst}
use Rattle.std.specs.Prelude.{nat_lt}
use Rattle.std.proofs.lemmas.Bool.{cases_lt}
use Rattle.std.proofs.lemmas.List.{append-nil, length_push}
use Rattle.sx_rules.specs.Derivations.{Proofs}
use Rattle.sx_rules.specs.Modes.{Modes, Goal}
use Rattle.sx_rules.specs.Rules.{Judgement, Rule, Hypotheses}
use Rattle.sx_arena.specs.Grown.{Extends, grown_from, CellsFit}
use Rattle.sx_arena.specs.Matching.{Assignment}
use Rattle.sx_arena.specs.declared.pairs.Pair.{Pair}
use Rattle.sx_arena.proofs.Growing.{extends-length, grown_from-append, grown_from-extends, grown-length}
use Rattle.sx_derive.specs.Candidates.{goal_in}
use Rattle.sx_derive.specs.Chains.{frame_of, frames_of, waiting_step, WaitingFits, AreFrames}
use Rattle.sx_derive.specs.Handing.{hyps_in, frames_in}
use Rattle.sx_derive.specs.Machine.{Frame, Task, after_frame, after_frames}
use Rattle.sx_derive.specs.Machine.{task_events, tasks_events}
use Rattle.sx_derive.specs.Store.{IsStore, StoreGrows, store_envs, store_kids}
use Rattle.sx_derive.specs.Tasks.{task_when, task_from, task_in, stacked, events_left, TaskFits}
use Rattle.sx_derive.specs.Tasks.{TasksFit, Piled}
use Rattle.sx_derive.specs.Walk.{Event, Answer, then_each}
use Rattle.sx_derive.specs.declared.chains.Waiting.{Waiting}
use Rattle.sx_derive.specs.declared.store.Store.{Store}
use Rattle.sx_derive.specs.declared.tasks.Task.{Task as TaskOf}
use Rattle.sx_derive.proofs.Chained.{frames_stay}
use Rattle.sx_derive.proofs.Handed.{frame_read, frames_until, cell_there}
use Rattle.sx_derive.proofs.Stepped.{then_each-append, then_each-then_each, then_each-same}
use Rattle.sx_derive.proofs.Stored.{grows_then}

-- the store, where answers are handed out at that frame
abbrev pub until_at : ℕ → Store → Store
until_at o s = record { arena = s.arena; binds = s.binds; kids = s.kids; frames = s.frames; until = o }

-- cells that fit, one list of them after the other
fits-append : {C V : Type 0} (step : List V → C → V) (P : List V → C → Type 0) (vs : List V) (cs ds : List C) → CellsFit step P vs cs → CellsFit step P (grown_from step vs cs) ds → CellsFit step P vs (cs ++ ds)
fits-append step P vs [] ds h k = k
fits-append step P vs (c ∷ cs) ds h k = (h.0, fits-append step P (vs ++ step vs c ∷ []) cs ds h.1 k)

fits-later : {C V : Type 0} (step : List V → C → V) (P : List V → C → Type 0) (vs : List V) (cs ds : List C) → CellsFit step P vs (cs ++ ds) → CellsFit step P (grown_from step vs cs) ds
fits-later step P vs [] ds h = h
fits-later step P vs (c ∷ cs) ds h = fits-later step P (vs ++ step vs c ∷ []) cs ds h.1

module _ (modes : Modes) (rules : List Rule) (es : List Assignment) (ks : List Proofs) (above below : ℕ) (l : below ≤ above) where
  -- cells past both frames
  past_both : (vs us : List (List Frame)) (cs : List Waiting) → length vs ≡ length us → above ≤ length us →
      CellsFit (waiting_step modes rules above es ks) (WaitingFits rules above es ks) vs cs → CellsFit (waiting_step modes rules below es ks) (WaitingFits rules below es ks) us cs
  past_both vs us [] e m h = tt
  past_both vs us (c ∷ cs) e m h =
      let p = h.0 in
      let x = waiting_step modes rules above es ks vs c in
      let y = waiting_step modes rules below es ks us c in
      let nx = length_push vs x in
      let ny = length_push us y in
      let a : above ≤ c.before = p.above (omega arith) in (
        record { waits = p.waits; env = p.env; kids = p.kids; before = (let b = p.before in omega arith); above = λ z. (omega arith) },
        past_both (vs ++ x ∷ []) (us ++ y ∷ []) cs (omega arith) (omega arith) h.1,
      )

  pub frames_lower : (cs more : List Waiting) → length cs ≡ above → AreFrames modes rules below es ks cs → AreFrames modes rules above es ks (cs ++ more) → AreFrames modes rules below es ks (cs ++ more)
  frames_lower cs more e h k =
      let sa = waiting_step modes rules above es ks in
      let sb = waiting_step modes rules below es ks in
      let na = grown-length sa cs in
      let nb = grown-length sb cs in
      fits-append sb (WaitingFits rules below es ks) [] cs more h
      (past_both (grown_from sa [] cs) (grown_from sb [] cs) more (omega arith) (omega arith) (fits-later sa (WaitingFits rules above es ks) [] cs more k))

module _ (modes : Modes) (rules : List Rule) (base : Store) (o : ℕ) (hb : IsStore modes rules (until_at o base)) (full : base.until ≡ length base.frames.items) where
  lower : o ≤ base.until
  lower = let l = hb.until in omega arith

  pub store_back : (c : Store) → StoreGrows modes rules base c → IsStore modes rules (until_at o c)
  store_back c g =
      let more = g.frame_cells.0 in
      let e : c.frames.items ≡ base.frames.items ++ more = g.frame_cells.1 in
      let d = frames_stay modes rules o (store_envs base) (store_envs c) (store_kids base) (store_kids c) g.envs g.kids base.frames.items hb.frames in
      let k : AreFrames modes rules base.until (store_envs c) (store_kids c) (base.frames.items ++ more) =
      subst (λ (cs : List Waiting). AreFrames modes rules base.until (store_envs c) (store_kids c) cs) e (subst (λ (u : ℕ). AreFrames modes rules u (store_envs c) (store_kids c) c.frames.items) g.until g.store.frames) in
      let m = extends-length base.frames.items c.frames.items g.frame_cells in
      let l = lower in
      record {
        arena = g.store.arena;
        binds = g.store.binds;
        kids = g.store.kids;
        frames = subst (λ (cs : List Waiting). AreFrames modes rules o (store_envs c) (store_kids c) cs) (sym e)
            (frames_lower modes rules (store_envs c) (store_kids c) base.until o lower base.frames.items more (sym full) d.1 k);
        until = (omega arith);
      }

  pub grows_back : (c d : Store) → StoreGrows modes rules base c → StoreGrows modes rules c d → StoreGrows modes rules (until_at o c) (until_at o d)
  grows_back c d g k =
      let x = store_back c g in
      let step = waiting_step modes rules o (store_envs d) (store_kids d) in
      let s = frames_stay modes rules o (store_envs c) (store_envs d) (store_kids c) (store_kids d) k.envs k.kids c.frames.items x.frames in
      let more = k.frame_cells.0 in
      let e : frames_of modes rules o (store_envs d) (store_kids d) d.frames.items ≡ grown_from step (frames_of modes rules o (store_envs d) (store_kids d) c.frames.items) more =
      ap (grown_from step []) k.frame_cells.1 ∙ grown_from-append step [] c.frames.items more in
      let z : Extends (frames_of modes rules o (store_envs d) (store_kids d) c.frames.items) (frames_of modes rules o (store_envs d) (store_kids d) d.frames.items) =
      subst (λ (fs : List (List Frame)). Extends (frames_of modes rules o (store_envs d) (store_kids d) c.frames.items) fs) (sym e) (grown_from-extends step (frames_of modes rules o (store_envs d) (store_kids d) c.frames.items) more) in
      record {
        store = store_back d (grows_then modes rules base c d g k);
        trees = k.trees;
        envs = k.envs;
        kids = k.kids;
        frames = subst (λ (fs : List (List Frame)). Extends fs (frames_of modes rules o (store_envs d) (store_kids d) d.frames.items)) s.0 z;
        bind_cells = k.bind_cells;
        kid_cells = k.kid_cells;
        frame_cells = k.frame_cells;
        until = refl;
      }

  fit_back : (n : ℕ) (c : Store) (t : TaskOf) → StoreGrows modes rules base c → TaskFits modes rules c n t → TaskFits modes rules (until_at o c) n t
  fit_back n c t g f =
      let l = lower in
      let u = g.until in
      let v = f.until in
      record { next = f.next; terms = f.terms; frames = f.frames; until = (omega arith) }

  pub fits_back : (n : ℕ) (c : Store) (ts : List TaskOf) → StoreGrows modes rules base c → TasksFit modes rules c n ts → TasksFit modes rules (until_at o c) n ts
  fits_back n c [] g f = tt
  fits_back n c (t ∷ ts) g f = (fit_back n c t g f.0, fits_back n c ts g f.1)

  pub piled_back : (n : ℕ) (first s : Store) (ts : List TaskOf) → StoreGrows modes rules base first → Piled modes rules n first ts s → Piled modes rules n (until_at o first) ts (until_at o s)
  piled_back n first s [] g p = grows_back first s g p
  piled_back n first s (t ∷ ts) g p =
      let c = p.0 in
      let gc = grows_then modes rules base first c g p.1.0 in
      let k = p.1.1 in (
        until_at o c,
        (
          grows_back first c g p.1.0,
          record { terms = k.terms; binds = k.binds; kids = k.kids; frames = k.frames },
          fit_back n c t gc p.1.2,
          piled_back n c s ts gc p.1.3,
        ),
      )

  -- the frames are those before, and those further down
  module _ (c : Store) (g : StoreGrows modes rules base c) where
    abbrev outer : List Frame
    outer = frames_in modes rules (until_at o c) base.until

    here : (i : ℕ) → base.until ≡ i → frames_in modes rules (until_at o c) i ≡ frames_in modes rules c i ++ outer
    here i e =
        let u = g.until in
        let f : c.until ≡ i = omega arith in
        ap (frames_in modes rules (until_at o c)) (sym e)
        ∙ sym (ap (λ (fs : List Frame). fs ++ outer) (ap (frames_in modes rules c) (sym f) ∙ frames_until modes rules c g.store))

    frames_to : (n i : ℕ) → i ≤ n → base.until ≤ i → i ≤ length c.frames.items → frames_in modes rules (until_at o c) i ≡ frames_in modes rules c i ++ outer
    frames_to zero i m l k = here i (omega arith)
    frames_to (suc n) i m l k = go (cases_lt base.until i) (λ j a b d. frames_to n j a b d)
      where
        go : (base.until < i) ⊎ (i ≤ base.until) → ((j : ℕ) → j ≤ n → base.until ≤ j → j ≤ length c.frames.items → frames_in modes rules (until_at o c) j ≡ frames_in modes rules c j ++ outer) →
            frames_in modes rules (until_at o c) i ≡ frames_in modes rules c i ++ outer
        go (inr e) again = here i (omega arith)
        go (inl e) again =
            let u = g.until in
            let w = lower in
            let x = cell_there c.frames.items (i - 1) (omega arith) in
            let r = frame_read modes rules c g.store i x.0 (omega arith) k x.1 in
            let q = frame_read modes rules (until_at o c) (store_back c g) i x.0 (omega arith) k x.1 in
            let y = r.before in
            let z = r.above in
            q.frames
            ∙ ap (λ (fs : List Frame). frame_of modes rules (store_envs c) (store_kids c) x.0 ∷ fs) (again x.0.before (omega arith) (omega arith) (omega arith))
            ∙ ap (λ (fs : List Frame). fs ++ outer) (sym r.frames)

    pub frames_back : (i : ℕ) → base.until ≤ i → i ≤ length c.frames.items → frames_in modes rules (until_at o c) i ≡ frames_in modes rules c i ++ outer
    frames_back i l k = frames_to i i (omega arith) l k

-- what follows an answer at frames before others
module _ (modes : Modes) (rules : List Rule) (hyps : Hypotheses) (outer : List Frame) where
  after_frames-append : (fs : List Frame) (a : Answer) → after_frames modes rules hyps (fs ++ outer) a ≡ then_each (after_frames modes rules hyps outer) (after_frames modes rules hyps fs a)
  after_frames-append [] a = sym (append-nil (after_frames modes rules hyps outer a))
  after_frames-append (f ∷ fs) a =
      then_each-same (after_frames modes rules hyps (fs ++ outer)) (λ b. then_each (after_frames modes rules hyps outer) (after_frames modes rules hyps fs b)) (after_frames-append fs) (after_frame modes rules hyps f a)
      ∙ sym (then_each-then_each (after_frames modes rules hyps outer) (after_frames modes rules hyps fs) (after_frame modes rules hyps f a))

  each_frames-append : (fs : List Frame) (es : List (Event Answer)) → then_each (after_frames modes rules hyps (fs ++ outer)) es ≡ then_each (after_frames modes rules hyps outer) (then_each (after_frames modes rules hyps fs) es)
  each_frames-append fs es =
      then_each-same (after_frames modes rules hyps (fs ++ outer)) (λ b. then_each (after_frames modes rules hyps outer) (after_frames modes rules hyps fs b)) (after_frames-append fs) es
      ∙ sym (then_each-then_each (after_frames modes rules hyps outer) (after_frames modes rules hyps fs) es)

  task_more : (b : Bool) (next : ℕ) (js : List Judgement) (levels : ℕ) (goal : Goal) (fs : List Frame) →
      task_events modes rules hyps (task_when b next js rules levels goal (fs ++ outer)) ≡ then_each (after_frames modes rules hyps outer) (task_events modes rules hyps (task_when b next js rules levels goal fs))
  task_more true next js levels goal fs = each_frames-append fs _
  task_more false next js levels goal fs = each_frames-append fs _

-- what is left of tasks
module _ (modes : Modes) (rules : List Rule) (base : Store) (o : ℕ) (hb : IsStore modes rules (until_at o base)) (full : base.until ≡ length base.frames.items) (c : Store) (g : StoreGrows modes rules base c) (n : ℕ) (pairs : List Pair) (js : List Judgement) where
  abbrev hyps : Hypotheses
  hyps = hyps_in pairs c js

  abbrev further : Answer → List (Event Answer)
  further = after_frames modes rules hyps (frames_in modes rules (until_at o c) base.until)

  task_back : (t : TaskOf) → TaskFits modes rules c n t → task_events modes rules hyps (task_in modes rules js (until_at o c) t) ≡ then_each further (task_events modes rules hyps (task_in modes rules js c t))
  task_back t f =
      let u = g.until in
      let v = f.until in
      ap (λ (fs : List Frame). task_events modes rules hyps (task_from t.next js rules t.levels (goal_in c t.form t.terms.items) fs)) (frames_back modes rules base o hb full c g t.frames (omega arith) f.frames)
      ∙ task_more modes rules hyps (frames_in modes rules (until_at o c) base.until) (nat_lt t.next (length js)) t.next js t.levels (goal_in c t.form t.terms.items) (frames_in modes rules c t.frames)

  stack_back : (xs : List TaskOf) (ts us : List Task) → TasksFit modes rules c n xs → tasks_events modes rules hyps us ≡ then_each further (tasks_events modes rules hyps ts) →
      tasks_events modes rules hyps (stacked modes rules js (until_at o c) xs us) ≡ then_each further (tasks_events modes rules hyps (stacked modes rules js c xs ts))
  stack_back [] ts us f e = e
  stack_back (x ∷ xs) ts us f e =
      let old = task_in modes rules js c x in
      let new = task_in modes rules js (until_at o c) x in
      stack_back xs (old ∷ ts) (new ∷ us) f.1
      ((λ i. task_back x f.0 i ++ e i) ∙ sym (then_each-append further (task_events modes rules hyps old) (tasks_events modes rules hyps ts)))

  pub events_back : (xs : List TaskOf) → TasksFit modes rules c n xs → events_left modes rules pairs js (until_at o c) xs ≡ then_each further (events_left modes rules pairs js c xs)
  events_back xs f = stack_back xs [] [] f refl
