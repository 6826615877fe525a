-- A reader grows by terms, bindings and rules that wait.
use Rattle.std.proofs.Common.{◌≡◌, ℕ, zero, suc, ◌+◌, ◌≤◌, List, [], ◌∷◌, ◌++◌, drop, length, get_or, Some, refl, sym, ap, ◌∙◌, arith, subst}
use Rattle.std.specs.Prelude.{slice_get, take}
use Rattle.std.proofs.lemmas.List.{take-append-drop, take-append-le}
use Rattle.std.proofs.lemmas.Option.{get_or_from_slice_get}
use Rattle.sx_term.specs.Tree.{Tree}
use Rattle.sx_rules.specs.Rules.{Judgement, holds, Rule}
use Rattle.sx_rules.specs.Modes.{Modes, outputs_of}
use Rattle.sx_rules.specs.Deep.{RuleIsShallow, RulesAreShallow}
use Rattle.sx_arena.specs.Matching.{Assignment}
use Rattle.sx_arena.specs.declared.arena.Arena.{Arena}
use Rattle.sx_arena.specs.declared.binds.Bind.{Bind}
use Rattle.sx_arena.specs.declared.binds.Binds.{Binds}
use Rattle.sx_arena.specs.declared.fact.Fact.{Fact}
use Rattle.sx_arena.specs.declared.pairs.Pair.{Pair}
use Rattle.sx_arena.specs.Grown.{Extends, CellsFit}
use Rattle.sx_arena.specs.Arena.{trees, IsArena}
use Rattle.sx_arena.specs.Binds.{envs, env_at, bind_step, BindFits, IsBinds, BindsGrow}
use Rattle.sx_arena.specs.Facts.{AreFacts}
use Rattle.sx_arena.specs.Pairs.{pairs_of, ArePairs}
use Rattle.sx_arena.proofs.Growing.{extends-same, extends-is, extends-then, extends-length, grown-length}
use Rattle.sx_arena.proofs.BindChains.{env_stays, envs_stay}
use Rattle.sx_arena.proofs.Facts.{facts_stay}
use Rattle.sx_arena.proofs.Parted.{pairs_more_terms, pairs_stay}
use Rattle.sx_replay.specs.declared.reader.Waiting.{Waiting}
use Rattle.sx_replay.specs.declared.reader.Reader.{Reader}
use Rattle.sx_replay.specs.Machine.{ReplayFrame}
use Rattle.sx_replay.specs.Reader.{reader_trees, reader_envs, base_trees, replay_patterns, no_replay_rule}
use Rattle.sx_replay.specs.Reader.{replay_frame_of, stack_on, stack, WaitsInReader, AreLater, AreWaiting, AreTo}
use Rattle.sx_replay.specs.Reader.{AreKept, IsReplayReader, NamesStay, ReplayGoesOn}

-- the number of chains
pub envs_length : (r : Reader) → length (reader_envs r) ≡ length r.binds.cells.items
envs_length r = grown-length (bind_step (reader_trees r)) r.binds.cells.items

pub waits_later : (rules : List Rule) (m n : ℕ) → m ≤ n → (c : Waiting) → WaitsInReader rules m c → WaitsInReader rules n c
waits_later rules m n l c w = let e = w.mark in record { rule = w.rule; judgement = w.judgement; found = w.found; premise = w.premise; env = w.env; mark = (omega arith) }

pub waiting_later : (rules : List Rule) (m n : ℕ) → m ≤ n → (cs : List Waiting) → AreWaiting rules m cs → AreWaiting rules n cs
waiting_later rules m n l [] h = tt
waiting_later rules m n l (c ∷ cs) h = (waits_later rules m n l c h.0, (h.1.0, waiting_later rules m n l cs h.1.1))

later_one : (m : ℕ) (cs : List Waiting) (c : Waiting) → AreLater m cs → m ≤ c.mark → AreLater m (cs ++ c ∷ [])
later_one m [] c h l = (l, tt)
later_one m (x ∷ cs) c h l = (h.0, later_one m cs c h.1 l)

later_front : (m : ℕ) (cs : List Waiting) (c : Waiting) → AreLater m (cs ++ c ∷ []) → AreLater m cs × (m ≤ c.mark)
later_front m [] c h = (tt, h.0)
later_front m (x ∷ cs) c h = let r = later_front m cs c h.1 in ((h.0, r.0), r.1)

pub waiting_one : (rules : List Rule) (n : ℕ) (cs : List Waiting) (c : Waiting) → AreWaiting rules n cs → WaitsInReader rules n c → n ≤ c.mark → AreWaiting rules n (cs ++ c ∷ [])
waiting_one rules n [] c h w l = (w, (tt, tt))
waiting_one rules n (x ∷ cs) c h w l = let e = h.0.mark in (h.0, (later_one x.mark cs c h.1.0 (omega arith), waiting_one rules n cs c h.1.1 w l))

-- the rules before one wait with bindings that were there when it began to wait
pub waiting_front : (rules : List Rule) (n : ℕ) (cs : List Waiting) (c : Waiting) → AreWaiting rules n (cs ++ c ∷ []) → AreWaiting rules c.mark cs × WaitsInReader rules n c
waiting_front rules n [] c h = (tt, h.0)
waiting_front rules n (x ∷ cs) c h =
    let a = later_front x.mark cs c h.1.0 in
    let r = waiting_front rules n cs c h.1.1 in
    ((record { rule = h.0.rule; judgement = h.0.judgement; found = h.0.found; premise = h.0.premise; env = h.0.env; mark = a.1 }, (a.0, r.0)), r.1)

-- the stack with one rule more
pub stack_one : (modes : Modes) (rules : List Rule) (es : List Assignment) (fs : List ReplayFrame) (cs : List Waiting) (c : Waiting) → stack_on modes rules es fs (cs ++ c ∷ []) ≡ replay_frame_of modes rules es c ∷ stack_on modes rules es fs cs
stack_one modes rules es fs [] c = refl
stack_one modes rules es fs (x ∷ cs) c = stack_one modes rules es (replay_frame_of modes rules es x ∷ fs) cs c

pub stack_length : (modes : Modes) (rules : List Rule) (es : List Assignment) (fs : List ReplayFrame) (cs : List Waiting) → length (stack_on modes rules es fs cs) ≡ length fs + length cs
stack_length modes rules es fs [] = omega arith
stack_length modes rules es fs (c ∷ cs) = let r = stack_length modes rules es (replay_frame_of modes rules es c ∷ fs) cs in omega arith

-- more terms and bindings change no frame
pub frame_stays : (modes : Modes) (rules : List Rule) (es ds : List Assignment) (c : Waiting) → Extends es ds → c.env ≤ length es → replay_frame_of modes rules ds c ≡ replay_frame_of modes rules es c
frame_stays modes rules es ds c x l =
    let rule = get_or rules c.rule no_replay_rule in
    let e = env_stays es ds x c.env l in
    λ i. record { rule = rule; rest = drop (c.premise + 1) rule.premises; patterns = replay_patterns modes (slice_get rule.premises c.premise); env = e i }

pub stack_stays : (modes : Modes) (rules : List Rule) (es ds : List Assignment) (n : ℕ) → Extends es ds → n ≤ length es → (fs : List ReplayFrame) (cs : List Waiting) → AreWaiting rules n cs → stack_on modes rules ds fs cs ≡ stack_on modes rules es fs cs
stack_stays modes rules es ds n x l fs [] h = refl
stack_stays modes rules es ds n x l fs (c ∷ cs) h =
    let w = h.0.env in
    let v = h.0.mark in
    stack_stays modes rules es ds n x l (replay_frame_of modes rules ds c ∷ fs) cs h.1.1
    ∙ ap (λ (f : ReplayFrame). stack_on modes rules es (f ∷ fs) cs) (frame_stays modes rules es ds c x (omega arith))

-- the frame that a waiting rule stands for
pub frame_is : (modes : Modes) (rules : List Rule) (es : List Assignment) (j : Judgement) (c : Waiting) (rule : Rule) (env : Assignment) → slice_get rules c.rule ≡ Some rule → slice_get rule.premises c.premise ≡ Some (holds j) → env_at es c.env ≡ env →
    replay_frame_of modes rules es c ≡ record { rule = rule; rest = drop (c.premise + 1) rule.premises; patterns = outputs_of modes j; env = env }
frame_is modes rules es j c rule env f g x =
    let r = get_or_from_slice_get rules c.rule rule no_replay_rule f in
    let p = ap (replay_patterns modes) g in
    (λ i. record { rule = r i; rest = drop (c.premise + 1) (r i).premises; patterns = replay_patterns modes (slice_get (r i).premises c.premise); env = x i })
    ∙ (λ i. record { rule = rule; rest = drop (c.premise + 1) rule.premises; patterns = p i; env = env })

-- bindings to terms that are there
pub binds_to : (ts : List Tree) (es : List Assignment) (bs : List Bind) → CellsFit (bind_step ts) (BindFits ts) es bs → AreTo (length ts) bs
binds_to ts es [] h = tt
binds_to ts es (b ∷ bs) h = (h.0.term, binds_to ts (es ++ bind_step ts es b ∷ []) bs h.1)

pub to_take : (n m : ℕ) (bs : List Bind) → AreTo n bs → AreTo n (take m bs)
to_take n zero [] h = tt
to_take n (suc m) [] h = tt
to_take n zero (b ∷ bs) h = tt
to_take n (suc m) (b ∷ bs) h = (h.0, to_take n m bs h.1)

pub take_take : {X : Type 0} (m n : ℕ) (xs : List X) → m ≤ n → take m (take n xs) ≡ take m xs
take_take zero zero [] l = refl
take_take zero (suc n) [] l = refl
take_take (suc m) zero [] l = refl
take_take (suc m) (suc n) [] l = refl
take_take zero zero (x ∷ xs) l = refl
take_take zero (suc n) (x ∷ xs) l = refl
take_take (suc m) zero (x ∷ xs) l = absurd (omega arith)
take_take (suc m) (suc n) (x ∷ xs) l = ap (λ ys. x ∷ ys) (take_take m n xs (omega arith))

kept_by : (rules : List Rule) (base n : ℕ) (bs ds : List Bind) → ((m : ℕ) → m ≤ n → take m ds ≡ take m bs) → (cs : List Waiting) → AreWaiting rules n cs → AreKept base bs cs → AreKept base ds cs
kept_by rules base n bs ds e [] w h = tt
kept_by rules base n bs ds e (c ∷ cs) w h =
    ((h.0.0, subst (λ (xs : List Bind). AreTo c.terms xs) (sym (e c.mark w.0.mark)) h.0.1), kept_by rules base n bs ds e cs w.1.1 h.1)

-- more bindings, or fewer, but for those with which rules wait
pub kept_more : (rules : List Rule) (base n : ℕ) (bs ds : List Bind) → Extends bs ds → n ≤ length bs → (cs : List Waiting) → AreWaiting rules n cs → AreKept base bs cs → AreKept base ds cs
kept_more rules base n bs ds (more, e) l = kept_by rules base n bs ds (λ m k. ap (take m) e ∙ take-append-le m bs more (omega arith))

pub kept_cut : (rules : List Rule) (base n : ℕ) (bs ds : List Bind) → ds ≡ take n bs → (cs : List Waiting) → AreWaiting rules n cs → AreKept base bs cs → AreKept base ds cs
kept_cut rules base n bs ds e = kept_by rules base n bs ds (λ m k. ap (take m) e ∙ take_take m n bs k)

pub kept_one : (base : ℕ) (bs : List Bind) (cs : List Waiting) (c : Waiting) → AreKept base bs cs → base ≤ c.terms → AreTo c.terms (take c.mark bs) → AreKept base bs (cs ++ c ∷ [])
kept_one base bs [] c h l t = ((l, t), tt)
kept_one base bs (x ∷ cs) c h l t = (h.0, kept_one base bs cs c h.1 l t)

pub kept_front : (base : ℕ) (bs : List Bind) (cs : List Waiting) (c : Waiting) → AreKept base bs (cs ++ c ∷ []) → AreKept base bs cs × ((base ≤ c.terms) × AreTo c.terms (take c.mark bs))
kept_front base bs [] c h = (tt, h.0)
kept_front base bs (x ∷ cs) c h = let r = kept_front base bs cs c h.1 in ((h.0, r.0), r.1)

pub grows_same : (rules : List Rule) (r : Reader) → IsReplayReader rules r → NamesStay rules r r
grows_same rules r h = record { reader = h; base = refl; trees = extends-same (reader_trees r); envs = extends-same (reader_envs r) }

pub grows_then : (rules : List Rule) (a b c : Reader) → NamesStay rules a b → NamesStay rules b c → NamesStay rules a c
grows_then rules a b c p q = record {
  reader = q.reader;
  base = q.base ∙ p.base;
  trees = extends-then (reader_trees a) (reader_trees b) (reader_trees c) p.trees q.trees;
  envs = extends-then (reader_envs a) (reader_envs b) (reader_envs c) p.envs q.envs;
}

-- the terms of the problem are the first terms
pub base_extends : (r : Reader) → Extends (base_trees r) (reader_trees r)
base_extends r = (drop r.base (reader_trees r), sym (take-append-drop r.base (reader_trees r)))

pub goes_same : (rules : List Rule) (r : Reader) → IsReplayReader rules r → ReplayGoesOn rules r r
goes_same rules r h = record { reader = h; base = refl; trees = refl }

pub goes_then : (rules : List Rule) (a b c : Reader) → ReplayGoesOn rules a b → ReplayGoesOn rules b c → ReplayGoesOn rules a c
goes_then rules a b c p q = record { reader = q.reader; base = q.base ∙ p.base; trees = q.trees ∙ p.trees }

pub goes_grown : (rules : List Rule) (a b : Reader) → IsReplayReader rules a → NamesStay rules a b → ReplayGoesOn rules a b
goes_grown rules a b h g =
    let more = g.trees.0 in
    record {
      reader = g.reader;
      base = g.base;
      trees = (λ i. take (g.base i) (g.trees.1 i)) ∙ take-append-le a.base (reader_trees a) more h.base;
    }

-- so pairs of its terms stay
pub base_pairs : (rules : List Rule) (a b : Reader) → ReplayGoesOn rules a b → (ps : List Pair) → ArePairs (length (base_trees a)) ps → ArePairs (length (base_trees b)) ps
base_pairs rules a b g ps h = subst (λ (ts : List Tree). ArePairs (length ts) ps) (sym g.trees) h

-- and its hypotheses
pub base_facts : (modes : Modes) (rules : List Rule) (a b : Reader) → ReplayGoesOn rules a b → (js : List Judgement) (fs : List Fact) → AreFacts modes (base_trees a) js fs → AreFacts modes (base_trees b) js fs
base_facts modes rules a b g js fs h = subst (λ (ts : List Tree). AreFacts modes ts js fs) (sym g.trees) h

pub reader_facts : (modes : Modes) (r : Reader) (js : List Judgement) (fs : List Fact) → AreFacts modes (base_trees r) js fs → AreFacts modes (reader_trees r) js fs
reader_facts modes r js fs h = facts_stay modes (base_trees r) (reader_trees r) (base_extends r) js fs h

pub reader_pairs : (r : Reader) (ps : List Pair) → ArePairs (length (base_trees r)) ps → ArePairs (length (reader_trees r)) ps
reader_pairs r ps h = pairs_more_terms (length (base_trees r)) (length (reader_trees r)) (extends-length (base_trees r) (reader_trees r) (base_extends r)) ps h

pub pairs_same : (rules : List Rule) (a b : Reader) → ReplayGoesOn rules a b → (ps : List Pair) → ArePairs (length (base_trees a)) ps → pairs_of (reader_trees b) ps ≡ pairs_of (reader_trees a) ps
pairs_same rules a b g ps h =
    pairs_stay (base_trees b) (reader_trees b) (base_extends b) ps (base_pairs rules a b g ps h)
    ∙ ap (λ (ts : List Tree). pairs_of ts ps) g.trees
    ∙ sym (pairs_stay (base_trees a) (reader_trees a) (base_extends a) ps h)

-- bindings that were there
pub env_later : (rules : List Rule) (s t : Reader) → NamesStay rules s t → (env : ℕ) → env ≤ length s.binds.cells.items → (env ≤ length t.binds.cells.items) × (env_at (reader_envs t) env ≡ env_at (reader_envs s) env)
env_later rules s t g env l =
    let a = envs_length s in
    let b = envs_length t in
    let x = extends-length (reader_envs s) (reader_envs t) g.envs in
    ((omega arith), env_stays (reader_envs s) (reader_envs t) g.envs env (omega arith))

-- rules that waited, with more terms and bindings
pub stack_later : (modes : Modes) (rules : List Rule) (s t : Reader) → IsReplayReader rules s → Extends (reader_envs s) (reader_envs t) → t.waiting.items ≡ s.waiting.items → stack modes rules t ≡ stack modes rules s
stack_later modes rules s t h x e =
    let a = envs_length s in
    ap (stack_on modes rules (reader_envs t) []) e ∙ stack_stays modes rules (reader_envs s) (reader_envs t) (length s.binds.cells.items) x (omega arith) [] s.waiting.items h.waiting

kept_as : (s t : Reader) → t.binds.cells.items ≡ s.binds.cells.items → t.waiting.items ≡ s.waiting.items → t.base ≡ s.base → AreKept s.base s.binds.cells.items s.waiting.items → AreKept t.base t.binds.cells.items t.waiting.items
kept_as s t b w z h =
    subst (λ (n : ℕ). AreKept n t.binds.cells.items t.waiting.items) (sym z)
    (subst (λ (bs : List Bind). AreKept s.base bs t.waiting.items) (sym b)
    (subst (λ (cs : List Waiting). AreKept s.base s.binds.cells.items cs) (sym w) h))

-- more terms
pub grows_terms : (rules : List Rule) (s t : Reader) → IsReplayReader rules s → IsArena t.arena → Extends (reader_trees s) (reader_trees t) → t.binds ≡ s.binds → t.waiting.items ≡ s.waiting.items → t.base ≡ s.base → NamesStay rules s t
grows_terms rules s t h a x b w z =
    let st = envs_stay (reader_trees s) (reader_trees t) x s.binds h.binds in
    let n : length t.binds.cells.items ≡ length s.binds.cells.items = ap (λ (y : Binds). length y.cells.items) b in
    record {
      reader = record {
        arena = a;
        binds = subst (λ (y : Binds). IsBinds (reader_trees t) y) (sym b) st.1;
        waiting = subst (λ (cs : List Waiting). AreWaiting rules (length t.binds.cells.items) cs) (sym w) (waiting_later rules (length s.binds.cells.items) (length t.binds.cells.items) (omega arith) s.waiting.items h.waiting);
        base = (let l = extends-length (reader_trees s) (reader_trees t) x in let k = h.base in omega arith);
        kept = kept_as s t (ap (λ (y : Binds). y.cells.items) b) w z h.kept;
      };
      base = z;
      trees = x;
      envs = extends-is (reader_envs s) (reader_envs t) (ap (envs (reader_trees t)) b ∙ st.0);
    }

-- more bindings
pub grows_binds : (rules : List Rule) (s t : Reader) → IsReplayReader rules s → BindsGrow (trees s.arena) s.binds t.binds → t.arena ≡ s.arena → t.waiting.items ≡ s.waiting.items → t.base ≡ s.base → NamesStay rules s t
grows_binds rules s t h g a w z =
    let m = envs_length s in
    let n = grown-length (bind_step (reader_trees s)) t.binds.cells.items in
    let x = extends-length (reader_envs s) (envs (reader_trees s) t.binds) g.extends in
    record {
      reader = record {
        arena = subst (λ (y : Arena). IsArena y) (sym a) h.arena;
        binds = subst (λ (y : Arena). IsBinds (trees y) t.binds) (sym a) g.binds;
        waiting = subst (λ (cs : List Waiting). AreWaiting rules (length t.binds.cells.items) cs) (sym w) (waiting_later rules (length s.binds.cells.items) (length t.binds.cells.items) (omega arith) s.waiting.items h.waiting);
        base = (let l = ap (λ (y : Arena). length (trees y)) a in let k = h.base in omega arith);
        kept = subst (λ (k : ℕ). AreKept k t.binds.cells.items t.waiting.items) (sym z)
            (subst (λ (cs : List Waiting). AreKept s.base t.binds.cells.items cs) (sym w)
            (kept_more rules s.base (length s.binds.cells.items) s.binds.cells.items t.binds.cells.items g.cells (omega arith) s.waiting.items h.waiting h.kept));
      };
      base = z;
      trees = extends-is (reader_trees s) (reader_trees t) (ap trees a);
      envs = subst (λ (y : Arena). Extends (reader_envs s) (envs (trees y) t.binds)) (sym a) g.extends;
    }

-- one rule more that waits
pub grows_waiting : (rules : List Rule) (s t : Reader) (c : Waiting) → IsReplayReader rules s → WaitsInReader rules (length s.binds.cells.items) c → length s.binds.cells.items ≤ c.mark → c.terms ≡ length (reader_trees s) → t.arena ≡ s.arena → t.binds ≡ s.binds →
    t.waiting.items ≡ s.waiting.items ++ c ∷ [] → t.base ≡ s.base → NamesStay rules s t
grows_waiting rules s t c h w l d a b e z =
    let n : length t.binds.cells.items ≡ length s.binds.cells.items = ap (λ (y : Binds). length y.cells.items) b in
    record {
      reader = record {
        arena = subst (λ (y : Arena). IsArena y) (sym a) h.arena;
        binds = subst (λ (y : Arena). IsBinds (trees y) t.binds) (sym a) (subst (λ (y : Binds). IsBinds (reader_trees s) y) (sym b) h.binds);
        waiting = subst (λ (cs : List Waiting). AreWaiting rules (length t.binds.cells.items) cs) (sym e)
            (waiting_later rules (length s.binds.cells.items) (length t.binds.cells.items) (omega arith) (s.waiting.items ++ c ∷ []) (waiting_one rules (length s.binds.cells.items) s.waiting.items c h.waiting w l));
        base = (let k = ap (λ (y : Arena). length (trees y)) a in let m = h.base in omega arith);
        kept = subst (λ (k : ℕ). AreKept k t.binds.cells.items t.waiting.items) (sym z)
            (subst (λ (y : Binds). AreKept s.base y.cells.items t.waiting.items) (sym b)
            (subst (λ (cs : List Waiting). AreKept s.base s.binds.cells.items cs) (sym e)
            (kept_one s.base s.binds.cells.items s.waiting.items c h.kept (let m = h.base in omega arith)
            (to_take c.terms c.mark s.binds.cells.items (subst (λ (k : ℕ). AreTo k s.binds.cells.items) (sym d) (binds_to (reader_trees s) [] s.binds.cells.items h.binds))))));
      };
      base = z;
      trees = extends-is (reader_trees s) (reader_trees t) (ap trees a);
      envs = extends-is (reader_envs s) (reader_envs t) (λ i. envs (trees (a i)) (b i));
    }

-- each rule of shallow rules is shallow
pub shallow_rule : (rules : List Rule) (r : ℕ) (rule : Rule) → RulesAreShallow rules → slice_get rules r ≡ Some rule → RuleIsShallow rule
shallow_rule [] r rule h e = cc
shallow_rule (x ∷ rules) zero rule h e = let q : x ≡ rule = cc in subst RuleIsShallow q h.0
shallow_rule (x ∷ rules) (suc r) rule h e = shallow_rule rules r rule h.1 e
