-- An answer at a frame that waits for it.
use Rattle.std.proofs.Common.{◌≡◌, ℕ, zero, suc, ◌+◌, ◌<◌, ◌≤◌, List, [], ◌∷◌, ◌++◌, map, drop, length, get_or, Option, Some, None, refl, sym, ap, ◌∙◌, arith, subst}
use Rattle.std.specs.Prelude.{slice_get}
use Rattle.sx_rules.specs.declared.rule.Judgement.{Judgement as JudgementOf}
use Rattle.sx_rules.specs.declared.rule.Premise.{Premise as PremiseOf}
use Rattle.sx_rules.specs.declared.rule.Premise.TheVariants.{Holds}
use Rattle.sx_arena.specs.Views.{premise_of, judgement_of}
use Rattle.sx_rules.specs.Rules.{Judgement, Premise, holds, Rule}
use Rattle.sx_rules.specs.Modes.{Modes, outputs_of}
use Rattle.sx_rules.specs.Deep.{RuleIsShallow, RulesAreShallow}
use Rattle.sx_rules.specs.Derivations.{no_more, ◌⊳◌}
use Rattle.sx_arena.specs.Matching.{Assignment, match_all}
use Rattle.sx_derive.specs.Machine.{Frame, Result, result_matched, premises_result, hand_on}
use Rattle.sx_derive.specs.Machine.{joined_proofs}
use Rattle.sx_derive.specs.declared.chains.Head.{Head}
use Rattle.sx_derive.specs.declared.chains.Waiting.{Waiting}
use Rattle.sx_arena.specs.declared.pairs.Pair.{Pair}
use Rattle.sx_derive.specs.declared.step.Step.{Step}
use Rattle.sx_derive.specs.declared.step.Step.TheVariants.{Nothing}
use Rattle.sx_derive.specs.declared.store.Store.{Store}
use Rattle.sx_arena.specs.Arena.{trees, tree_at}
use Rattle.sx_arena.specs.Binds.{env_at, bind_step, BindsGrow}
use Rattle.sx_derive.specs.Chains.{kids_at, kid_step, head_proof, HeadFits, waiting_step}
use Rattle.sx_derive.specs.Handing.{hyps_in, answer_in, frames_in, waiting_in, IsWaitingCell, IsResumed}
use Rattle.sx_arena.specs.Pairs.{pairs_of, ArePairs}
use Rattle.sx_derive.specs.Premises.{IsPremises}
use Rattle.sx_derive.specs.Step.{IsSearchStep}
use Rattle.sx_derive.specs.Store.{IsStore, store_trees, store_envs, store_kids, store_frames}
use Rattle.sx_arena.proofs.Growing.{grown-length, extends-length}
use Rattle.sx_arena.proofs.BindChains.{env_stays}
use Rattle.sx_derive.proofs.Chained.{head_stays, head_fits_more, kids_stay_at, frames_stay_at}
use Rattle.sx_arena.proofs.Parted.{pairs_stay}
use Rattle.sx_derive.proofs.Steps.{frame_is}
use Rattle.sx_derive.proofs.Stored.{grows_then, grows_binds, grows_kid}

-- each rule of shallow rules is shallow
pub shallow_at : (rules : List Rule) (r : ℕ) (rule : Rule) → RulesAreShallow rules → slice_get rules r ≡ Some rule → RuleIsShallow rule
shallow_at [] r rule h e = cc
shallow_at (x ∷ rules) zero rule h e = let q : x ≡ rule = cc in subst RuleIsShallow q h.0
shallow_at (x ∷ rules) (suc r) rule h e = shallow_at rules r rule h.1 e

-- the lengths of a store's lists
pub record Sizes (modes : Modes) (rules : List Rule) (s : Store) : Type 0 where
  pub envs : length (store_envs s) ≡ length s.binds.cells.items
  pub kids : length (store_kids s) ≡ length s.kids.items
  pub frames : length (store_frames modes rules s) ≡ length s.frames.items

pub sizes : (modes : Modes) (rules : List Rule) (s : Store) → Sizes modes rules s
sizes modes rules s = record {
  envs = grown-length (bind_step (store_trees s)) s.binds.cells.items;
  kids = grown-length (kid_step (store_envs s)) s.kids.items;
  frames = grown-length (waiting_step modes rules s.until (store_envs s) (store_kids s)) s.frames.items;
}

-- the premise of the rule at the frame
pub waits_at : (modes : Modes) (rules : List Rule) (s : Store) (c : Waiting) → IsWaitingCell modes rules s c → (rule : Rule) → slice_get rules c.rule ≡ Some rule →
    (j : Judgement) × (slice_get rule.premises c.premise ≡ Some (holds j))
waits_at modes rules s c w rule e =
    let x = w.waits in
    let a : slice_get rules c.rule ≡ Some x.0 = x.2 in
    let same : x.0 ≡ rule = (let q : Some x.0 ≡ Some rule = sym a ∙ e in cc) in
    (x.1, subst (λ (r : Rule). slice_get r.premises c.premise ≡ Some (holds x.1)) same x.3)

-- the store with the kid of an answer
pub kid_store : (modes : Modes) (rules : List Rule) (s t u : Store) (c : Waiting) (head : Head) → IsStore modes rules s → IsWaitingCell modes rules s c → HeadFits (length (store_envs s)) (length (store_kids s)) head →
    BindsGrow (trees s.arena) s.binds t.binds → t.arena ≡ s.arena → t.kids.items ≡ s.kids.items → t.frames.items ≡ s.frames.items → t.until ≡ s.until →
    u.arena ≡ t.arena → u.binds ≡ t.binds → u.kids.items ≡ t.kids.items ++ record { before = c.kids; head = head } ∷ [] → u.frames.items ≡ t.frames.items → u.until ≡ t.until → IsStore modes rules u
kid_store modes rules s t u c head h w hf g ta tk tf tu ua ub uk uf uu =
    let st = grows_binds modes rules s t h g ta tk tf tu in
    let zs = (sizes modes rules s).kids in
    let zt = (sizes modes rules t).kids in
    let xe = extends-length (store_envs s) (store_envs t) st.envs in
    let xk = extends-length (store_kids s) (store_kids t) st.kids in
    let wk = w.kids in
    let hf' : HeadFits (length (store_envs t)) (length t.kids.items) head = head_fits_more (length (store_envs s)) (length (store_envs t)) (length (store_kids s)) (length t.kids.items) xe (omega arith) head hf in
    (grows_kid modes rules t u (record { before = c.kids; head = head }) st.store hf' (omega arith) ua ub uk uf uu).0.store

module _ (modes : Modes) (rules : List Rule) (pairs : List Pair) (s t : Store) (c : Waiting) (rule : Rule) (j : Judgement) (head : Head) (outs : List ℕ) (h : IsStore modes rules s)
    (hp : ArePairs (length (store_trees s)) pairs) (w : IsWaitingCell modes rules s c) (found : slice_get rules c.rule ≡ Some rule) (prem : slice_get rule.premises c.premise ≡ Some (holds j))
    (hf : HeadFits (length (store_envs s)) (length (store_kids s)) head) (g : BindsGrow (trees s.arena) s.binds t.binds) (ta : t.arena ≡ s.arena) (tk : t.kids.items ≡ s.kids.items) (tf : t.frames.items ≡ s.frames.items) (tu : t.until ≡ s.until) where
  -- what is made of the answer, by the frame's fields
  abbrev made_of : List Judgement → Option Assignment → Result
  made_of js m = result_matched m (λ env. premises_result modes (hyps_in pairs s js) c.rule rule c.levels (frames_in modes rules s c.before) (hand_on modes (hyps_in pairs s js) (frames_in modes rules s c.before))
      (drop (c.premise + 1) rule.premises) env (joined_proofs (kids_at (store_kids s) c.kids) (head_proof (store_envs s) (store_kids s) head ⊳ no_more)))

  handed_is : (js : List Judgement) → hand_on modes (hyps_in pairs s js) (waiting_in modes rules s c) (answer_in s head outs)
      ≡ made_of js (match_all (outputs_of modes j) (map (tree_at (store_trees s)) outs) (env_at (store_envs s) c.env))
  handed_is js =
      ap (λ (f : Frame). hand_on modes (hyps_in pairs s js) (f ∷ frames_in modes rules s c.before) (answer_in s head outs))
      (frame_is modes rules (store_envs s) (store_envs s) (store_kids s) (store_kids s) j c rule found prem refl refl)

  pub resumed_none : match_all (outputs_of modes j) (map (tree_at (store_trees s)) outs) (env_at (store_envs s) c.env) ≡ None → IsResumed modes rules pairs s t c head outs Nothing
  resumed_none m = record {
    grows = grows_binds modes rules s t h g ta tk tf tu;
    is = λ js. handed_is js ∙ ap (made_of js) m;
  }

  pub resumed_more : (u v : Store) (e kids : ℕ) (step : Step) → e ≤ length t.binds.cells.items → match_all (outputs_of modes j) (map (tree_at (store_trees s)) outs) (env_at (store_envs s) c.env) ≡ Some (env_at (store_envs t) e) →
      u.arena ≡ t.arena → u.binds ≡ t.binds → u.kids.items ≡ t.kids.items ++ record { before = c.kids; head = head } ∷ [] → u.frames.items ≡ t.frames.items → u.until ≡ t.until → kids ≡ length t.kids.items + 1 →
      IsPremises modes rules pairs u v c.rule rule c.levels e kids c.before (drop (c.premise + 1) rule.premises) step → IsResumed modes rules pairs s v c head outs step
  resumed_more u v e kids step le m ua ub uk uf uu ke p =
      let st = grows_binds modes rules s t h g ta tk tf tu in
      let zs = sizes modes rules s in
      let zt = sizes modes rules t in
      let xe = extends-length (store_envs s) (store_envs t) st.envs in
      let xk = extends-length (store_kids s) (store_kids t) st.kids in
      let xf = extends-length (store_frames modes rules s) (store_frames modes rules t) st.frames in
      let we = w.env in
      let wk = w.kids in
      let wb = w.before in
      let se = zs.envs in
      let sk = zs.kids in
      let sf = zs.frames in
      let te = zt.envs in
      let tk' = zt.kids in
      let hf' : HeadFits (length (store_envs t)) (length t.kids.items) head = head_fits_more (length (store_envs s)) (length (store_envs t)) (length (store_kids s)) (length t.kids.items) xe (omega arith) head hf in
      let o = grows_kid modes rules t u (record { before = c.kids; head = head }) st.store hf' (omega arith) ua ub uk uf uu in
      let su = grows_then modes rules s t u st o.0 in
      let ep : pairs_of (store_trees u) pairs ≡ pairs_of (store_trees s) pairs = pairs_stay (store_trees s) (store_trees u) su.trees pairs hp in
      let ef : frames_in modes rules u c.before ≡ frames_in modes rules s c.before = frames_stay_at (store_frames modes rules s) (store_frames modes rules u) su.frames c.before w.before in
      let ee : env_at (store_envs u) e ≡ env_at (store_envs t) e = env_stays (store_envs t) (store_envs u) o.0.envs e (omega arith) in
      let ek : kids_at (store_kids u) kids ≡ joined_proofs (kids_at (store_kids s) c.kids) (head_proof (store_envs s) (store_kids s) head ⊳ no_more) =
      ap (kids_at (store_kids u)) ke ∙ o.1
      ∙ (λ i. joined_proofs (kids_stay_at (store_kids s) (store_kids t) st.kids c.kids wk i) (head_stays (store_envs s) (store_envs t) (store_kids s) (store_kids t) st.envs st.kids head hf i ⊳ no_more)) in
      record {
        grows = grows_then modes rules s u v su p.grows;
        is = λ js. subst (λ (r : Result). IsSearchStep modes rules js v (hand_on modes (hyps_in pairs s js) (frames_in modes rules s c.before)) step r)
            ((λ i. premises_result modes (record { judgements = js; pairs = ep i }) c.rule rule c.levels (ef i) (hand_on modes (hyps_in pairs s js) (frames_in modes rules s c.before)) (drop (c.premise + 1) rule.premises) (ee i) (ek i))
            ∙ sym (handed_is js ∙ ap (made_of js) m))
            (p.is js (hand_on modes (hyps_in pairs s js) (frames_in modes rules s c.before)));
      }

-- the premise that is read is the one that waits
pub holds_at : (ps : List PremiseOf) (k : ℕ) (p : PremiseOf) (j : JudgementOf) (x : Premise) → slice_get (map premise_of ps) k ≡ Some x → p ≡ get_or ps k p → p ≡ Holds j →
    (k < length ps) × (slice_get (map premise_of ps) k ≡ Some (holds (judgement_of j)))
holds_at [] k p j x e f g = cc
holds_at (q ∷ ps) zero p j x e f g = ((omega arith), ap (λ y. Some (premise_of y)) (sym f ∙ g))
holds_at (q ∷ ps) (suc k) p j x e f g = let r = holds_at ps k p j x e f g in ((let z = r.0 in omega arith), r.1)
