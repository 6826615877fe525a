-- A goal whose answers are handed out at one more frame.
use Rattle.std.proofs.Common.{◌≡◌, ℕ, ◌+◌, ◌≤◌, List, [], ◌∷◌, ◌++◌, length, Vec, refl, sym, ap, ◌∙◌, arith}
use Rattle.std.specs.declared.alloc.Global.{Global}
use Rattle.std.proofs.lemmas.List.{length_push}
use Rattle.sx_rules.specs.Derivations.{Proofs}
use Rattle.sx_rules.specs.Modes.{Modes}
use Rattle.sx_rules.specs.Rules.{Judgement, Rule, Hypotheses}
use Rattle.sx_arena.specs.Grown.{CellsFit}
use Rattle.sx_arena.specs.Matching.{Assignment}
use Rattle.sx_arena.specs.Pairs.{ArePairs}
use Rattle.sx_arena.specs.declared.pairs.Pair.{Pair}
use Rattle.sx_arena.proofs.Parted.{pairs_stay}
use Rattle.sx_derive.specs.Chains.{frame_of, frames_at, waiting_step, WaitingFits}
use Rattle.sx_derive.specs.Handing.{hyps_in, frames_in, IsWaitingCell}
use Rattle.sx_derive.specs.Machine.{Frame, after_frame, after_frames}
use Rattle.sx_derive.specs.Store.{IsStore, StoreGrows, store_trees, store_envs, store_kids, store_frames}
use Rattle.sx_derive.specs.Tasks.{events_left, Piled}
use Rattle.sx_derive.specs.Traced.{IsTraced, IsTracedUnder}
use Rattle.sx_derive.specs.Walk.{Event, Answer, then_each}
use Rattle.sx_derive.specs.declared.chains.Waiting.{Waiting}
use Rattle.sx_derive.specs.declared.store.Store.{Store}
use Rattle.sx_derive.specs.declared.tasks.Task.{Task as TaskOf}
use Rattle.sx_derive.specs.declared.trace.Traced.{Traced}
use Rattle.sx_derive.specs.declared.trace.Traced.TheVariants.{Answered, Failed, Halted}
use Rattle.sx_derive.proofs.Chained.{frames_stay_at}
use Rattle.sx_derive.proofs.Handed.{frames_until}
use Rattle.sx_derive.proofs.MoreFrames.{until_at, grows_back, piled_back, events_back}
use Rattle.sx_derive.proofs.Resumed.{sizes}
use Rattle.sx_derive.proofs.Stepped.{then_each-same, then_each-give}
use Rattle.sx_derive.proofs.Stored.{grows_same, grows_then, grows_frame}
use Rattle.sx_derive.proofs.Turned.{piled_grows, piled_fits}

-- tasks that are piled from a store on are piled from each earlier one on
pub piled_earlier : (modes : Modes) (rules : List Rule) (n : ℕ) (a b s : Store) (ts : List TaskOf) → StoreGrows modes rules a b → Piled modes rules n b ts s → Piled modes rules n a ts s
piled_earlier modes rules n a b s [] g p = grows_then modes rules a b s g p
piled_earlier modes rules n a b s (t ∷ ts) g p = (p.0, (grows_then modes rules a b p.0 g p.1.0, p.1.1, p.1.2, p.1.3))

-- no frame is past the last one
frames_at_end : (modes : Modes) (rules : List Rule) (es : List Assignment) (ks : List Proofs) (old end : ℕ) (vs us : List (List Frame)) (cs : List Waiting) → length vs ≡ length us → length us + length cs ≤ end →
    CellsFit (waiting_step modes rules old es ks) (WaitingFits rules old es ks) vs cs → CellsFit (waiting_step modes rules end es ks) (WaitingFits rules end es ks) us cs
frames_at_end modes rules es ks old end vs us [] e m h = tt
frames_at_end modes rules es ks old end vs us (c ∷ cs) e m h =
    let p = h.0 in
    let x = waiting_step modes rules old es ks vs c in
    let y = waiting_step modes rules end es ks us c in
    let nx = length_push vs x in
    let ny = length_push us y in (
      record { waits = p.waits; env = p.env; kids = p.kids; before = (let b = p.before in omega arith); above = λ z. absurd (omega arith) },
      frames_at_end modes rules es ks old end (vs ++ x ∷ []) (us ++ y ∷ []) cs (omega arith) (omega arith) h.1,
    )

pub store_at_end : (modes : Modes) (rules : List Rule) (s : Store) (end : ℕ) → IsStore modes rules s → end ≡ length s.frames.items → IsStore modes rules (until_at end s)
store_at_end modes rules s end h e = record {
  arena = h.arena;
  binds = h.binds;
  kids = h.kids;
  frames = frames_at_end modes rules (store_envs s) (store_kids s) s.until end [] [] s.frames.items refl (omega arith) h.frames;
  until = (omega arith);
}

module _ (modes : Modes) (rules : List Rule) (pairs : List Pair) (s : Store) (c : Waiting) (h : IsStore modes rules s) (w : IsWaitingCell modes rules s c) (b : c.before ≡ s.until) (frames : Vec Waiting Global) (end : ℕ)
    (e : frames.items ≡ s.frames.items ++ c ∷ []) (f : end ≡ length s.frames.items + 1) where
  -- the store with the frame
  abbrev more : Store
  more = record { arena = s.arena; binds = s.binds; kids = s.kids; frames = frames; until = s.until }

  -- and there answers are handed out at it
  abbrev base : Store
  base = record { arena = s.arena; binds = s.binds; kids = s.kids; frames = frames; until = end }

  pushed : StoreGrows modes rules s more × (frames_at (store_frames modes rules more) (length s.frames.items + 1) ≡ frame_of modes rules (store_envs s) (store_kids s) c ∷ frames_at (store_frames modes rules s) c.before)
  pushed = grows_frame modes rules s more c h w refl refl refl e refl

  full : end ≡ length frames.items
  full = let n = ap length e ∙ length_push s.frames.items c in omega arith

  pub under_store : IsStore modes rules base
  under_store = store_at_end modes rules more end pushed.0.store full

  -- the frame alone is there
  frame_there : (u : Store) → StoreGrows modes rules base u → frames_in modes rules (until_at s.until u) end ≡ frame_of modes rules (store_envs s) (store_kids s) c ∷ []
  frame_there u g =
      let k = grows_back modes rules base s.until pushed.0.store full base u (grows_same modes rules base under_store) g in
      let z = (sizes modes rules more).frames in
      let l = full in
      frames_stay_at (store_frames modes rules more) (store_frames modes rules (until_at s.until u)) k.frames end (omega arith)
      ∙ ap (frames_at (store_frames modes rules more)) f
      ∙ pushed.1
      ∙ ap (λ (fs : List Frame). frame_of modes rules (store_envs s) (store_kids s) c ∷ fs) (ap (frames_in modes rules s) b ∙ frames_until modes rules s h)

  module _ (js : List Judgement) (hp : ArePairs (length (store_trees s)) pairs) (n : ℕ) (u : Store) (levels form : ℕ) (terms : List ℕ) (left : List TaskOf) where
    one_frame : (hyps : Hypotheses) (fr : Frame) (es : List (Event Answer)) → then_each (after_frames modes rules hyps (fr ∷ [])) es ≡ then_each (after_frame modes rules hyps fr) es
    one_frame hyps fr es = then_each-same (after_frames modes rules hyps (fr ∷ [])) (after_frame modes rules hyps fr) (λ a. then_each-give (after_frame modes rules hyps fr a)) es

    grown : StoreGrows modes rules base u → StoreGrows modes rules s (until_at s.until u)
    grown g = grows_then modes rules s more (until_at s.until u) pushed.0 (grows_back modes rules base s.until pushed.0.store full base u (grows_same modes rules base under_store) g)

    pub under_traced : (old new : ℕ) (t : Traced) → IsTraced modes rules pairs js n base u old new levels form terms left t → IsTracedUnder modes rules pairs js n s (until_at s.until u) old new c levels form terms left t
    under_traced old new (Failed notes) x = ((grown x.0.0, x.0.1, x.0.2), x.1)
    under_traced old new (Halted ending) x = (grown x.0, x.1)
    under_traced old new (Answered head outs) x =
        let p = x.1 in
        let g = piled_grows modes rules n base u left p in (
          x.2,
          x.3,
          piled_earlier modes rules n s more (until_at s.until u) left pushed.0 (piled_back modes rules base s.until pushed.0.store full n base u left (grows_same modes rules base under_store) p),
          (
            events_left modes rules pairs js u left,
            x.4,
            sym (events_back modes rules base s.until pushed.0.store full u g n pairs js left (piled_fits modes rules n base u left p)
                ∙ (λ i. then_each (after_frames modes rules (record { judgements = js; pairs = pairs_stay (store_trees s) (store_trees u) g.trees pairs hp i }) (frame_there u g i)) (events_left modes rules pairs js u left))
                ∙ one_frame (hyps_in pairs s js) (frame_of modes rules (store_envs s) (store_kids s) c) (events_left modes rules pairs js u left)),
          ),
        )
