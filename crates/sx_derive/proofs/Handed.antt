-- An answer that is handed from frame to frame.
use Rattle.std.proofs.Common.{◌≡◌, ℕ, zero, suc, ◌-◌, ◌<◌, ◌≤◌, Bool, false, List, [], ◌∷◌, length, get_or, refl, sym, ap, ◌∙◌, arith, subst}
use Rattle.sx_rules.specs.Rules.{Judgement, Rule}
use Rattle.sx_rules.specs.Modes.{Modes}
use Rattle.sx_derive.specs.Walk.{Answer}
use Rattle.sx_derive.specs.Machine.{Frame, Result, answers, hand_on}
use Rattle.sx_derive.specs.declared.chains.Head.{Head}
use Rattle.sx_derive.specs.declared.chains.Waiting.{Waiting}
use Rattle.sx_arena.specs.declared.pairs.Pair.{Pair}
use Rattle.sx_derive.specs.declared.step.Step.{Step}
use Rattle.sx_derive.specs.declared.step.Step.TheVariants.{Nothing, Passed, DepthSpent, Done, Goes}
use Rattle.sx_derive.specs.declared.store.Store.{Store}
use Rattle.sx_arena.specs.Arena.{AreBelow}
use Rattle.sx_derive.specs.Chains.{HeadFits, frame_of, chain_unless, waiting_chain, waiting_step, WaitingFits}
use Rattle.sx_derive.specs.Handing.{hyps_in, answer_in, frames_in, waiting_in, IsWaitingCell, IsResumed}
use Rattle.sx_derive.specs.Handing.{IsHanded}
use Rattle.sx_arena.specs.Pairs.{ArePairs}
use Rattle.sx_derive.specs.Step.{IsSearchStep}
use Rattle.sx_derive.specs.Store.{IsStore, StoreGrows, store_trees, store_envs, store_kids}
use Rattle.sx_derive.specs.Store.{store_frames}
use Rattle.sx_arena.proofs.Growing.{grown-length, extends-length, grown-at}
use Rattle.sx_derive.proofs.Chained.{frames_stay_at, number_is, number_past}
use Rattle.sx_arena.proofs.Parted.{pairs_stay}
use Rattle.sx_derive.proofs.Resumed.{sizes}
use Rattle.sx_derive.proofs.Stored.{grows_same, grows_then}
use Rattle.std.specs.Prelude.{Vec, nat_eq}
use Rattle.std.specs.declared.alloc.Global.{Global}

-- the cell at a number
pub record FrameRead (modes : Modes) (rules : List Rule) (s : Store) (here : ℕ) (c : Waiting) : Type 0 where
  pub waits : IsWaitingCell modes rules s c
  pub frames : frames_in modes rules s here ≡ waiting_in modes rules s c
  pub before : c.before < here
  pub above : s.until ≤ c.before

frame_read_at : (modes : Modes) (rules : List Rule) (s : Store) → IsStore modes rules s → (i : ℕ) (c : Waiting) → s.until ≤ i → i < length s.frames.items → c ≡ get_or s.frames.items i c → FrameRead modes rules s (suc i) c
frame_read_at modes rules s h i c o l e =
    let step = waiting_step modes rules s.until (store_envs s) (store_kids s) in
    let r = grown-at step (WaitingFits rules s.until (store_envs s) (store_kids s)) s.frames.items h.frames i c [] l e in
    let front = r.0 in
    let p = r.1 in
    let n : length front ≡ i = r.2 in
    let w = p.before in
    let b : s.until ≤ c.before = p.above (omega arith) in
    let past : nat_eq (suc (length front)) s.until ≡ false = number_past (suc (length front)) s.until (omega arith) in
    let m = grown-length step s.frames.items in
    record {
      waits = record { waits = p.waits; env = p.env; kids = p.kids; before = (omega arith); above = λ z. b };
      frames = r.4 ∙ ap (λ (x : Bool). chain_unless x (waiting_chain modes rules (store_envs s) (store_kids s) front c)) past ∙ ap (λ (fs : List Frame). waiting_frame_at fs) (sym (frames_stay_at front (store_frames modes rules s) r.3 c.before w));
      before = (omega arith);
      above = b;
    }
  where
    waiting_frame_at : List Frame → List Frame
    waiting_frame_at fs = frame_of modes rules (store_envs s) (store_kids s) c ∷ fs

pub frame_read : (modes : Modes) (rules : List Rule) (s : Store) → IsStore modes rules s → (here : ℕ) (c : Waiting) → s.until < here → here ≤ length s.frames.items → c ≡ get_or s.frames.items (here - 1) c → FrameRead modes rules s here c
frame_read modes rules s h here c p l e =
    let f : suc (here - 1) ≡ here = omega arith in
    subst (λ (n : ℕ). FrameRead modes rules s n c) f (frame_read_at modes rules s h (here - 1) c (omega arith) (omega arith) e)

pub cell_there : (cs : List Waiting) (i : ℕ) → i < length cs → (c : Waiting) × (c ≡ get_or cs i c)
cell_there [] i l = absurd (omega arith)
cell_there (x ∷ cs) zero l = (x, refl)
cell_there (x ∷ cs) (suc i) l = cell_there cs i (omega arith)

-- at the frame at which answers are handed out none waits
pub frames_until : (modes : Modes) (rules : List Rule) (s : Store) → IsStore modes rules s → frames_in modes rules s s.until ≡ []
frames_until modes rules s h = go s.until refl
  where
    go : (n : ℕ) → s.until ≡ n → frames_in modes rules s n ≡ []
    go zero e = refl
    go (suc i) e =
        let l = h.until in
        let c = cell_there s.frames.items i (omega arith) in
        let r = grown-at (waiting_step modes rules s.until (store_envs s) (store_kids s)) (WaitingFits rules s.until (store_envs s) (store_kids s)) s.frames.items h.frames i c.0 [] (omega arith) c.1 in
        let n : length r.0 ≡ i = r.2 in
        r.4 ∙ ap (λ (x : Bool). chain_unless x (waiting_chain modes rules (store_envs s) (store_kids s) r.0 c.0)) (number_is (suc (length r.0)) s.until (omega arith))

pub frames_none : (modes : Modes) (rules : List Rule) (s : Store) → IsStore modes rules s → (here : ℕ) → s.until ≤ here → here ≤ s.until → frames_in modes rules s here ≡ []
frames_none modes rules s h here a b = let e : here ≡ s.until = omega arith in ap (frames_in modes rules s) e ∙ frames_until modes rules s h

-- where a step is no answer it does not matter what becomes of one
pub step_other : (modes : Modes) (rules : List Rule) (js : List Judgement) (s : Store) (next other : Answer → Result) (step : Step) (r : Result) → ((h : Head) (o : Vec ℕ Global) → step ≡ Done h o → ⊥) →
    IsSearchStep modes rules js s next step r → IsSearchStep modes rules js s other step r
step_other modes rules js s next other Nothing r n h = h
step_other modes rules js s next other (Passed l) r n h = h
step_other modes rules js s next other DepthSpent r n h = h
step_other modes rules js s next other (Done a o) r n h = absurd (n a o refl)
step_other modes rules js s next other (Goes f t l k) r n h = h

-- the answer now, at the frames now, makes what the first answer makes
pub record Handing (modes : Modes) (rules : List Rule) (pairs : List Pair) (old now : Store) (frames : ℕ) (first : Head) (firsts : List ℕ) (waiting : ℕ) (head : Head) (outs : List ℕ) : Type 0 where
  pub grows : StoreGrows modes rules old now
  pub within : waiting ≤ length now.frames.items
  pub above : now.until ≤ waiting
  pub fits : HeadFits (length (store_envs now)) (length (store_kids now)) head
  pub below : AreBelow (length (store_trees now)) outs
  pub same : (js : List Judgement) → hand_on modes (hyps_in pairs old js) (frames_in modes rules old frames) (answer_in old first firsts)
      ≡ hand_on modes (hyps_in pairs old js) (frames_in modes rules now waiting) (answer_in now head outs)

pub handing_first : (modes : Modes) (rules : List Rule) (pairs : List Pair) (s : Store) (frames : ℕ) (head : Head) (outs : List ℕ) → IsStore modes rules s → frames ≤ length s.frames.items → s.until ≤ frames →
    HeadFits (length (store_envs s)) (length (store_kids s)) head → AreBelow (length (store_trees s)) outs → Handing modes rules pairs s s frames head outs frames head outs
handing_first modes rules pairs s frames head outs h l o f b = record {
  grows = grows_same modes rules s h;
  within = l;
  above = o;
  fits = f;
  below = b;
  same = λ js. refl;
}

-- no frame is left
pub handed_done : (modes : Modes) (rules : List Rule) (pairs : List Pair) (old now : Store) (frames : ℕ) (first : Head) (firsts : List ℕ) (waiting : ℕ) (head : Head) (outs : Vec ℕ Global) →
    Handing modes rules pairs old now frames first firsts waiting head outs.items → waiting ≤ now.until → IsHanded modes rules pairs old now frames first firsts (Done head outs)
handed_done modes rules pairs old now frames first firsts waiting head outs i l = record {
  grows = i.grows;
  is = λ js. (
    i.fits,
    i.below,
    i.same js ∙ ap (λ (fs : List Frame). hand_on modes (hyps_in pairs old js) fs (answer_in now head outs.items)) (frames_none modes rules now i.grows.store waiting i.above l),
  );
}

module _ (modes : Modes) (rules : List Rule) (pairs : List Pair) (old now new : Store) (frames : ℕ) (first : Head) (firsts : List ℕ) (waiting : ℕ) (head : Head) (outs : List ℕ) (c : Waiting)
    (hp : ArePairs (length (store_trees old)) pairs) (i : Handing modes rules pairs old now frames first firsts waiting head outs) (r : FrameRead modes rules now waiting c) where
  read_same : (step : Step) → (js : List Judgement) → hand_on modes (hyps_in pairs old js) (frames_in modes rules old frames) (answer_in old first firsts)
      ≡ hand_on modes (hyps_in pairs now js) (waiting_in modes rules now c) (answer_in now head outs)
  read_same step js =
      let e = pairs_stay (store_trees old) (store_trees now) i.grows.trees pairs hp in
      i.same js ∙ (λ k. hand_on modes (record { judgements = js; pairs = sym e k }) (r.frames k) (answer_in now head outs))

  pub handing_more : (next : Head) (made : Vec ℕ Global) → IsResumed modes rules pairs now new c head outs (Done next made) → Handing modes rules pairs old new frames first firsts c.before next made.items
  handing_more next made m =
      let n = m.is [] in
      let e = pairs_stay (store_trees old) (store_trees now) i.grows.trees pairs hp in
      let w = r.waits.before in
      let f = frames_stay_at (store_frames modes rules now) (store_frames modes rules new) m.grows.frames c.before w in
      let x = extends-length (store_frames modes rules now) (store_frames modes rules new) m.grows.frames in
      let y = (sizes modes rules new).frames in
      let o = r.above in
      let u = m.grows.until in
      record {
        grows = grows_then modes rules old now new i.grows m.grows;
        within = (omega arith);
        above = (omega arith);
        fits = n.0;
        below = n.1;
        same = λ js.
            let q = m.is js in
            read_same (Done next made) js ∙ q.2 ∙ (λ k. hand_on modes (record { judgements = js; pairs = e k }) (sym f k) (answer_in new next made.items));
      }

  pub handed_stop : (step : Step) → ((h : Head) (o : Vec ℕ Global) → step ≡ Done h o → ⊥) → IsResumed modes rules pairs now new c head outs step → IsHanded modes rules pairs old new frames first firsts step
  handed_stop step n m = record {
    grows = grows_then modes rules old now new i.grows m.grows;
    is = λ js. subst (λ (x : Result). IsSearchStep modes rules js new answers step x) (sym (read_same step js))
        (step_other modes rules js new (hand_on modes (hyps_in pairs now js) (frames_in modes rules now c.before)) answers step (hand_on modes (hyps_in pairs now js) (waiting_in modes rules now c) (answer_in now head outs)) n (m.is js));
  }
