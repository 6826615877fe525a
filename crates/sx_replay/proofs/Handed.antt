-- Outputs at the rules that wait for them.
use Rattle.std.proofs.Common.{◌≡◌, ℕ, zero, suc, ◌+◌, ◌<◌, ◌≤◌, List, [], ◌∷◌, ◌++◌, map, drop, length, get_or, Option, Some, None, Vec, refl, sym, ap, ◌∙◌, arith, subst, length-take-le}
use Rattle.std.specs.Prelude.{slice_get, take}
use Rattle.std.specs.declared.alloc.Global.{Global}
use Rattle.sx_term.specs.Tree.{Tree, node, none}
use Rattle.sx_rules.specs.declared.rule.Judgement.{Judgement as JudgementOf}
use Rattle.sx_rules.specs.declared.rule.Premise.{Premise as PremiseOf}
use Rattle.sx_rules.specs.declared.rule.Premise.TheVariants.{Holds}
use Rattle.sx_rules.specs.Rules.{Judgement, Premise, holds, Rule}
use Rattle.sx_rules.specs.Modes.{Modes, outputs_of}
use Rattle.sx_arena.specs.Matching.{Assignment, bind, match_all}
use Rattle.sx_arena.specs.declared.arena.Arena.{Arena}
use Rattle.sx_arena.specs.declared.binds.Bind.{Bind}
use Rattle.sx_arena.specs.declared.binds.Binds.{Binds}
use Rattle.sx_arena.specs.declared.pairs.Pair.{Pair}
use Rattle.sx_arena.specs.Arena.{trees, tree_at, AreBelow}
use Rattle.sx_arena.specs.Binds.{envs, env_at, bind_step, BindFits, IsBinds, BindsGrow}
use Rattle.sx_arena.specs.Grown.{Extends, grown_from, CellsFit}
use Rattle.sx_arena.specs.Keeping.{AreKeptIn}
use Rattle.sx_arena.specs.Pairs.{pairs_of, ArePairs}
use Rattle.sx_arena.specs.Views.{premise_of, judgement_of}
use Rattle.sx_arena.proofs.Growing.{first_terms, extends-at, extends-length}
use Rattle.sx_arena.proofs.BindChains.{envs_stay}
use Rattle.sx_replay.specs.declared.reader.Waiting.{Waiting}
use Rattle.sx_replay.specs.declared.reader.Reader.{Reader}
use Rattle.sx_replay.specs.declared.noted.Noted.{Noted}
use Rattle.sx_replay.specs.declared.step.Step.{Step}
use Rattle.sx_replay.specs.declared.step.Step.TheVariants.{Clash, Done, Asks}
use Rattle.sx_replay.specs.Machine.{ReplayFrame, Move, ends, move_matched, premises_move, hand_on}
use Rattle.sx_replay.specs.Reader.{reader_trees, reader_envs, base_trees, replay_frame_of, stack_on, stack}
use Rattle.sx_replay.specs.Reader.{WaitsInReader, AreWaiting, AreTo, AreKept, IsReplayReader, NamesStay}
use Rattle.sx_replay.specs.Reader.{ReplayGoesOn, replay_hypotheses, IsReplayStep, IsReplayPremises}
use Rattle.sx_replay.specs.Reader.{IsReplayResumed, IsMoved}
use Rattle.sx_replay.proofs.Readers.{envs_length, stack_one, stack_stays, stack_later, frame_is, frame_stays, grows_then, grows_binds, goes_same, goes_then, goes_grown, waiting_front, take_take, kept_front, kept_cut, base_pairs, reader_pairs, pairs_same}
use Rattle.std.proofs.lemmas.List.{length_push, length-take, take-append-le}

-- the rule and the premise of a rule that waits
pub waits_at : (rules : List Rule) (n : ℕ) (c : Waiting) → WaitsInReader rules n c → (rule : Rule) → slice_get rules c.rule ≡ Some rule → (j : Judgement) × (slice_get rule.premises c.premise ≡ Some (holds j))
waits_at rules n c w rule found =
    let q : Some w.rule ≡ Some rule = sym w.found ∙ found in
    let same : w.rule ≡ rule = cc in
    (w.judgement, subst (λ (r : Rule). slice_get r.premises c.premise ≡ Some (holds w.judgement)) same w.premise)

pub rule_within : (rules : List Rule) (n : ℕ) (c : Waiting) → WaitsInReader rules n c → c.rule < length rules
rule_within rules n c w = within rules c.rule w.rule w.found
  where
    within : (rs : List Rule) (i : ℕ) (r : Rule) → slice_get rs i ≡ Some r → i < length rs
    within [] i r e = cc
    within (x ∷ rs) zero r e = omega arith
    within (x ∷ rs) (suc i) r e = let h = within rs i r e in omega arith

pub premise_within : (ps : List PremiseOf) (k : ℕ) (x : Premise) → slice_get (map premise_of ps) k ≡ Some x → k < length ps
premise_within [] k x e = cc
premise_within (q ∷ ps) zero x e = omega arith
premise_within (q ∷ ps) (suc k) x e = let h = premise_within ps k x e in omega arith

-- the premise that is read is the one that waits
pub holds_at : (ps : List PremiseOf) (k : ℕ) (p : PremiseOf) (j : JudgementOf) (x : Premise) → slice_get (map premise_of ps) k ≡ Some x → p ≡ get_or ps k p → p ≡ Holds j →
    (k < length ps) × (slice_get (map premise_of ps) k ≡ Some (holds (judgement_of j)))
holds_at [] k p j x e f g = cc
holds_at (q ∷ ps) zero p j x e f g = ((omega arith), ap (λ y. Some (premise_of y)) (sym f ∙ g))
holds_at (q ∷ ps) (suc k) p j x e f g = let r = holds_at ps k p j x e f g in ((let z = r.0 in omega arith), r.1)

module _ (modes : Modes) (rules : List Rule) (pairs : List Pair) (s : Reader) (c : Waiting) (rule : Rule) (j : Judgement) (outs : List ℕ) (h : IsReplayReader rules s)
    (found : slice_get rules c.rule ≡ Some rule) (prem : slice_get rule.premises c.premise ≡ Some (holds j)) (b : Binds) (g : BindsGrow (trees s.arena) s.binds b) where
  -- what is made of the outputs
  abbrev made_of : List Judgement → Option Assignment → Move
  made_of js m = move_matched m (λ env. premises_move modes (replay_hypotheses pairs s js) (hand_on modes (replay_hypotheses pairs s js) (stack modes rules s)) (stack modes rules s) rule (drop (c.premise + 1) rule.premises) env s.noted)

  handed_is : (js : List Judgement) → hand_on modes (replay_hypotheses pairs s js) (replay_frame_of modes rules (reader_envs s) c ∷ stack modes rules s) (map (tree_at (reader_trees s)) outs) s.noted
      ≡ made_of js (match_all (outputs_of modes j) (map (tree_at (reader_trees s)) outs) (env_at (reader_envs s) c.env))
  handed_is js =
      ap (λ (f : ReplayFrame). hand_on modes (replay_hypotheses pairs s js) (f ∷ stack modes rules s) (map (tree_at (reader_trees s)) outs) s.noted)
      (frame_is modes rules (reader_envs s) j c rule (env_at (reader_envs s) c.env) found prem refl)

  abbrev pub bound_reader : Reader
  bound_reader = record { arena = s.arena; binds = b; waiting = s.waiting; noted = s.noted; base = s.base }

  pub bound_grows : NamesStay rules s bound_reader
  bound_grows = grows_binds rules s bound_reader h g refl refl refl

  pub resumed_none : match_all (outputs_of modes j) (map (tree_at (reader_trees s)) outs) (env_at (reader_envs s) c.env) ≡ None → IsReplayResumed modes rules pairs s bound_reader c outs Clash
  resumed_none m = record { grows = bound_grows; is = λ js. handed_is js ∙ ap (made_of js) m }

  pub resumed_more : (v : Reader) (e : ℕ) (step : Step) → match_all (outputs_of modes j) (map (tree_at (reader_trees s)) outs) (env_at (reader_envs s) c.env) ≡ Some (env_at (reader_envs bound_reader) e) →
      IsReplayPremises modes rules pairs bound_reader v rule e (drop (c.premise + 1) rule.premises) step → IsReplayResumed modes rules pairs s v c outs step
  resumed_more v e step m p =
      let st = stack_later modes rules s bound_reader h bound_grows.envs refl in
      record {
        grows = grows_then rules s bound_reader v bound_grows p.grows;
        is = λ js. subst (λ (r : Move). IsReplayStep modes rules s.waiting.items v (hand_on modes (replay_hypotheses pairs s js) (stack modes rules s)) step r)
            ((λ i. premises_move modes (replay_hypotheses pairs s js) (hand_on modes (replay_hypotheses pairs s js) (stack modes rules s)) (st i) rule (drop (c.premise + 1) rule.premises) (env_at (reader_envs bound_reader) e) s.noted)
            ∙ sym (handed_is js ∙ ap (made_of js) m))
            (p.is js (hand_on modes (replay_hypotheses pairs s js) (stack modes rules s)));
      }

-- where a step has no outputs it does not matter what becomes of them
pub step_other : (modes : Modes) (rules : List Rule) (cs ds : List Waiting) (r : Reader) (next other : List Tree → Noted → Move) (step : Step) (m : Move) → ((o : Vec ℕ Global) → step ≡ Done o → ⊥) →
    IsReplayStep modes rules cs r next step m → IsReplayStep modes rules ds r other step m
step_other modes rules cs ds r next other Clash m n h = h
step_other modes rules cs ds r next other (Done o) m n h = absurd (n o refl)
step_other modes rules cs ds r next other (Asks f t) m n h = h

-- the outputs now, at the rules that wait now, make what the first outputs make
pub record Handing (modes : Modes) (rules : List Rule) (pairs : List Pair) (old now : Reader) (firsts outs : List ℕ) : Type 0 where
  pub grows : ReplayGoesOn rules old now
  pub below : AreBelow (length (reader_trees now)) outs
  pub same : (js : List Judgement) → hand_on modes (replay_hypotheses pairs old js) (stack modes rules old) (map (tree_at (reader_trees old)) firsts) old.noted
      ≡ hand_on modes (replay_hypotheses pairs old js) (stack modes rules now) (map (tree_at (reader_trees now)) outs) now.noted

pub handing_first : (modes : Modes) (rules : List Rule) (pairs : List Pair) (r : Reader) (outs : List ℕ) → IsReplayReader rules r → AreBelow (length (reader_trees r)) outs → Handing modes rules pairs r r outs outs
handing_first modes rules pairs r outs h b = record { grows = goes_same rules r h; below = b; same = λ js. refl }

-- the first bindings, as many as there were when the rule began to wait
pub record IsCutAt (old new : Binds) (c : Waiting) : Type 0 where
  pub items : new.cells.items ≡ take c.mark old.cells.items
  pub binds : (ts : List Tree) → IsBinds ts old → IsBinds ts new × Extends (envs ts new) (envs ts old)

-- bindings to the first terms stand for the same among these alone
binds_less : (ts : List Tree) (n : ℕ) (es : List Assignment) (bs : List Bind) → CellsFit (bind_step ts) (BindFits ts) es bs → AreTo n bs →
    (grown_from (bind_step (take n ts)) es bs ≡ grown_from (bind_step ts) es bs) × CellsFit (bind_step (take n ts)) (BindFits (take n ts)) es bs
binds_less ts n es [] h a = (refl, tt)
binds_less ts n es (b ∷ bs) h a =
    let us = take n ts in
    let t = h.0.term in
    let l = a.0 in
    let m = length-take n ts in
    let w : b.term < length us = omega arith in
    let s : bind_step us es b ≡ bind_step ts es b = ap (λ (y : Tree). bind (env_at es b.before) b.variable y) (sym (extends-at us ts (first_terms n ts) b.term (node 0 none) w)) in
    let r = binds_less ts n (es ++ bind_step ts es b ∷ []) bs h.1 a.1 in (
      ap (λ (y : Assignment). grown_from (bind_step us) (es ++ y ∷ []) bs) s ∙ r.0,
      (record { term = w; before = h.0.before }, subst (λ (y : Assignment). CellsFit (bind_step us) (BindFits us) (es ++ y ∷ []) bs) (sym s) r.1),
    )

-- the reader without the last rule that waits, and without what was made since it began to wait
abbrev pub popped : Reader → Vec Waiting Global → Binds → Arena → Reader
popped now ws b a = record { arena = a; binds = b; waiting = ws; noted = now.noted; base = now.base }

module _ (rules : List Rule) (now : Reader) (ws : Vec Waiting Global) (c : Waiting) (b : Binds) (a : Arena) (outs kept : List ℕ)
    (h : IsReplayReader rules now) (e : now.waiting.items ≡ ws.items ++ c ∷ []) (k : IsCutAt now.binds b c) (x : AreKeptIn c.terms now.arena a outs kept) where
  front_waits : AreWaiting rules c.mark ws.items × WaitsInReader rules (length now.binds.cells.items) c
  front_waits = waiting_front rules (length now.binds.cells.items) ws.items c (subst (λ (cs : List Waiting). AreWaiting rules (length now.binds.cells.items) cs) e h.waiting)

  front_kept : AreKept now.base now.binds.cells.items ws.items × ((now.base ≤ c.terms) × AreTo c.terms (take c.mark now.binds.cells.items))
  front_kept = kept_front now.base now.binds.cells.items ws.items c (subst (λ (cs : List Waiting). AreKept now.base now.binds.cells.items cs) e h.kept)

  cells_length : length b.cells.items ≡ c.mark
  cells_length = ap length k.items ∙ length-take-le c.mark now.binds.cells.items front_waits.1.mark

  -- the bindings that are left
  binds_left : (reader_envs (popped now ws b a) ≡ envs (reader_trees now) b) × IsBinds (trees a) b
  binds_left =
      let ts = reader_trees now in
      let t = subst (λ (bs : List Bind). AreTo c.terms bs) (sym k.items) front_kept.1.1 in
      let l = binds_less ts c.terms [] b.cells.items (k.binds ts h.binds).0 t in
      let r = envs_stay (take c.terms ts) (trees a) x.kept b l.1 in
      (r.0 ∙ l.0, r.1)

  pub popped_reader : IsReplayReader rules (popped now ws b a) × WaitsInReader rules (length b.cells.items) c
  popped_reader =
      let f = front_waits in
      let l = cells_length in (
        record {
          arena = x.arena;
          binds = binds_left.1;
          waiting = subst (λ (n : ℕ). AreWaiting rules n ws.items) (sym l) f.0;
          base = (let m = extends-length (take c.terms (reader_trees now)) (trees a) x.kept in let n = length-take c.terms (reader_trees now) in let p = front_kept.1.0 in let q = h.base in omega arith);
          kept = kept_cut rules now.base c.mark now.binds.cells.items b.cells.items k.items ws.items f.0 front_kept.0;
        },
        record { rule = f.1.rule; judgement = f.1.judgement; found = f.1.found; premise = f.1.premise; env = f.1.env; mark = (omega arith) },
      )

  pub popped_goes : ReplayGoesOn rules now (popped now ws b a)
  popped_goes =
      let ts = reader_trees now in
      let n = length-take c.terms ts in
      let p = front_kept.1.0 in
      let q = h.base in
      record {
        reader = popped_reader.0;
        base = refl;
        trees = ap (take now.base) x.kept.1 ∙ take-append-le now.base (take c.terms ts) x.kept.0 (omega arith) ∙ take_take now.base c.terms ts p;
      }

  pub popped_envs : Extends (reader_envs (popped now ws b a)) (reader_envs now)
  popped_envs = subst (λ (es : List Assignment). Extends es (reader_envs now)) (sym binds_left.0) (k.binds (reader_trees now) h.binds).1

module _ (modes : Modes) (rules : List Rule) (pairs : List Pair) (old now new : Reader) (firsts outs kept : List ℕ) (ws : Vec Waiting Global) (c : Waiting) (b : Binds) (a : Arena) (cut : IsCutAt now.binds b c)
    (hp : ArePairs (length (base_trees old)) pairs) (i : Handing modes rules pairs old now firsts outs) (e : now.waiting.items ≡ ws.items ++ c ∷ []) (x : AreKeptIn c.terms now.arena a outs kept) where
  here : IsReplayReader rules (popped now ws b a) × WaitsInReader rules (length b.cells.items) c
  here = popped_reader rules now ws c b a outs kept i.grows.reader e cut x

  goes : ReplayGoesOn rules old (popped now ws b a)
  goes = goes_then rules old now (popped now ws b a) i.grows (popped_goes rules now ws c b a outs kept i.grows.reader e cut x)

  same_pairs : pairs_of (trees a) pairs ≡ pairs_of (reader_trees old) pairs
  same_pairs = pairs_same rules old (popped now ws b a) goes pairs hp

  pub pairs_here : ArePairs (length (trees a)) pairs
  pairs_here = reader_pairs (popped now ws b a) pairs (base_pairs rules old (popped now ws b a) goes pairs hp)

  read_same : (js : List Judgement) → hand_on modes (replay_hypotheses pairs old js) (stack modes rules old) (map (tree_at (reader_trees old)) firsts) old.noted
      ≡ hand_on modes (replay_hypotheses pairs (popped now ws b a) js) (replay_frame_of modes rules (reader_envs (popped now ws b a)) c ∷ stack modes rules (popped now ws b a)) (map (tree_at (trees a)) kept) now.noted
  read_same js =
      let pr = here in
      let y = popped_envs rules now ws c b a outs kept i.grows.reader e cut x in
      let n = envs_length (popped now ws b a) in
      let en = pr.1.env in
      let mk = pr.1.mark in
      let st : stack modes rules now ≡ replay_frame_of modes rules (reader_envs (popped now ws b a)) c ∷ stack modes rules (popped now ws b a) =
      ap (stack_on modes rules (reader_envs now) []) e ∙ stack_one modes rules (reader_envs now) [] ws.items c
      ∙ (λ k. frame_stays modes rules (reader_envs (popped now ws b a)) (reader_envs now) c y (omega arith) k
      ∷ stack_stays modes rules (reader_envs (popped now ws b a)) (reader_envs now) (length b.cells.items) y (omega arith) [] ws.items pr.0.waiting k) in
      i.same js ∙ (λ k. hand_on modes (record { judgements = js; pairs = sym same_pairs k }) (st k) (sym x.are k) now.noted)

  grown : (step : Step) → IsReplayResumed modes rules pairs (popped now ws b a) new c kept step → ReplayGoesOn rules old new
  grown step m = goes_then rules old (popped now ws b a) new goes (goes_grown rules (popped now ws b a) new here.0 m.grows)

  pub handing_more : (made : Vec ℕ Global) → IsReplayResumed modes rules pairs (popped now ws b a) new c kept (Done made) → Handing modes rules pairs old new firsts made.items
  handing_more made m =
      let n = m.is [] in
      let st = stack_later modes rules (popped now ws b a) new here.0 m.grows.envs n.1 in
      record {
        grows = grown (Done made) m;
        below = n.0;
        same = λ js.
            let r = m.is js in
            read_same js ∙ r.2 ∙ (λ k. hand_on modes (record { judgements = js; pairs = same_pairs k }) (sym st k) (map (tree_at (reader_trees new)) made.items) new.noted);
      }

  -- one rule less waits
  pub fewer_wait : (made : Vec ℕ Global) → IsReplayResumed modes rules pairs (popped now ws b a) new c kept (Done made) → length new.waiting.items < length now.waiting.items
  fewer_wait made m =
      let n = m.is [] in
      let l = ap length n.1 in
      let k = ap length e ∙ length_push ws.items c in
      omega arith

  pub handed_stop : (step : Step) → ((o : Vec ℕ Global) → step ≡ Done o → ⊥) → IsReplayResumed modes rules pairs (popped now ws b a) new c kept step →
      IsMoved modes rules pairs old new (λ hyps. hand_on modes hyps (stack modes rules old) (map (tree_at (reader_trees old)) firsts) old.noted) step
  handed_stop step n m = record {
    grows = grown step m;
    is = λ js. subst (λ (x : Move). IsReplayStep modes rules [] new ends step x) (sym (read_same js))
        (step_other modes rules ws.items [] new (hand_on modes (replay_hypotheses pairs (popped now ws b a) js) (stack modes rules (popped now ws b a))) ends step
        (hand_on modes (replay_hypotheses pairs (popped now ws b a) js) (replay_frame_of modes rules (reader_envs (popped now ws b a)) c ∷ stack modes rules (popped now ws b a)) (map (tree_at (trees a)) kept) now.noted) n (m.is js));
  }
