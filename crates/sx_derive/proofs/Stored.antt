-- A store grows by terms, bindings, proofs and frames.
use Rattle.std.proofs.Common.{◌≡◌, ℕ, ◌+◌, ◌≤◌, List, [], ◌∷◌, ◌++◌, length, refl, sym, ap, ◌∙◌, arith, subst}
use Rattle.std.proofs.lemmas.List.{length_push}
use Rattle.sx_arena.specs.Matching.{Assignment}
use Rattle.sx_rules.specs.Rules.{Rule}
use Rattle.sx_rules.specs.Modes.{Modes}
use Rattle.sx_rules.specs.Derivations.{Proofs, no_more, ◌⊳◌}
use Rattle.sx_derive.specs.Machine.{joined_proofs}
use Rattle.sx_arena.specs.declared.arena.Arena.{Arena}
use Rattle.sx_arena.specs.declared.binds.Binds.{Binds}
use Rattle.sx_derive.specs.declared.chains.Kid.{Kid}
use Rattle.sx_derive.specs.declared.chains.Waiting.{Waiting}
use Rattle.sx_derive.specs.declared.store.Store.{Store}
use Rattle.sx_arena.specs.Grown.{Extends}
use Rattle.sx_arena.specs.Arena.{trees, IsArena}
use Rattle.sx_arena.specs.Binds.{envs, IsBinds, BindsGrow}
use Rattle.sx_derive.specs.Chains.{kids_at, head_proof, HeadFits, kid_chains, AreKids, frame_of}
use Rattle.sx_derive.specs.Chains.{frames_at, WaitingFits, frames_of, AreFrames}
use Rattle.sx_derive.specs.Store.{store_trees, store_envs, store_kids, store_frames, IsStore}
use Rattle.sx_derive.specs.Store.{StoreGrows}
use Rattle.sx_arena.proofs.Growing.{extends-same, extends-is, extends-then}
use Rattle.sx_arena.proofs.BindChains.{envs_stay}
use Rattle.sx_derive.proofs.Chained.{kids_stay, kids_one, frames_stay, frames_one}

pub grows_same : (modes : Modes) (rules : List Rule) (s : Store) → IsStore modes rules s → StoreGrows modes rules s s
grows_same modes rules s h = record {
  store = h;
  trees = extends-same (store_trees s);
  envs = extends-same (store_envs s);
  kids = extends-same (store_kids s);
  frames = extends-same (store_frames modes rules s);
  bind_cells = extends-same s.binds.cells.items;
  kid_cells = extends-same s.kids.items;
  frame_cells = extends-same s.frames.items;
  until = refl;
}

pub grows_then : (modes : Modes) (rules : List Rule) (a b c : Store) → StoreGrows modes rules a b → StoreGrows modes rules b c → StoreGrows modes rules a c
grows_then modes rules a b c p q = record {
  store = q.store;
  trees = extends-then (store_trees a) (store_trees b) (store_trees c) p.trees q.trees;
  envs = extends-then (store_envs a) (store_envs b) (store_envs c) p.envs q.envs;
  kids = extends-then (store_kids a) (store_kids b) (store_kids c) p.kids q.kids;
  frames = extends-then (store_frames modes rules a) (store_frames modes rules b) (store_frames modes rules c) p.frames q.frames;
  bind_cells = extends-then a.binds.cells.items b.binds.cells.items c.binds.cells.items p.bind_cells q.bind_cells;
  kid_cells = extends-then a.kids.items b.kids.items c.kids.items p.kid_cells q.kid_cells;
  frame_cells = extends-then a.frames.items b.frames.items c.frames.items p.frame_cells q.frame_cells;
  until = q.until ∙ p.until;
}

-- the same cells, and answers handed out at the same frame
frames_as : (modes : Modes) (rules : List Rule) (s t : Store) → t.frames.items ≡ s.frames.items → t.until ≡ s.until → AreFrames modes rules s.until (store_envs t) (store_kids t) s.frames.items →
    AreFrames modes rules t.until (store_envs t) (store_kids t) t.frames.items
frames_as modes rules s t f u h =
    subst (λ (w : ℕ). AreFrames modes rules w (store_envs t) (store_kids t) t.frames.items) (sym u)
    (subst (λ (cs : List Waiting). AreFrames modes rules s.until (store_envs t) (store_kids t) cs) (sym f) h)

until_within : (s t : Store) → t.frames.items ≡ s.frames.items → t.until ≡ s.until → s.until ≤ length s.frames.items → t.until ≤ length t.frames.items
until_within s t f u l = let n = ap length f in omega arith

-- more terms or more bindings
pub more_envs : (modes : Modes) (rules : List Rule) (s t : Store) → IsStore modes rules s → IsArena t.arena → IsBinds (trees t.arena) t.binds → Extends (store_trees s) (store_trees t) → Extends (store_envs s) (store_envs t) →
    Extends s.binds.cells.items t.binds.cells.items → t.kids.items ≡ s.kids.items → t.frames.items ≡ s.frames.items → t.until ≡ s.until → StoreGrows modes rules s t
more_envs modes rules s t h a b x y cells k f u =
    let c = kids_stay (store_envs s) (store_envs t) y s.kids.items h.kids in
    let e : store_kids t ≡ store_kids s = ap (kid_chains (store_envs t)) k ∙ c.0 in
    let z = extends-is (store_kids s) (store_kids t) e in
    let d = frames_stay modes rules s.until (store_envs s) (store_envs t) (store_kids s) (store_kids t) y z s.frames.items h.frames in
    let g : store_frames modes rules t ≡ store_frames modes rules s = (λ i. frames_of modes rules (u i) (store_envs t) (store_kids t) (f i)) ∙ d.0 in
    record {
      store = record {
        arena = a;
        binds = b;
        kids = subst (λ (cs : List Kid). AreKids (store_envs t) cs) (sym k) c.1;
        frames = frames_as modes rules s t f u d.1;
        until = until_within s t f u h.until;
      };
      trees = x;
      envs = y;
      kids = z;
      frames = extends-is (store_frames modes rules s) (store_frames modes rules t) g;
      bind_cells = cells;
      kid_cells = extends-is s.kids.items t.kids.items k;
      frame_cells = extends-is s.frames.items t.frames.items f;
      until = u;
    }

pub grows_terms : (modes : Modes) (rules : List Rule) (s t : Store) → IsStore modes rules s → IsArena t.arena → Extends (store_trees s) (store_trees t) →
    t.binds ≡ s.binds → t.kids.items ≡ s.kids.items → t.frames.items ≡ s.frames.items → t.until ≡ s.until → StoreGrows modes rules s t
grows_terms modes rules s t h a x b k f u =
    let c = envs_stay (store_trees s) (store_trees t) x s.binds h.binds in
    more_envs modes rules s t h a (subst (λ (y : Binds). IsBinds (trees t.arena) y) (sym b) c.1) x
    (extends-is (store_envs s) (store_envs t) (ap (envs (trees t.arena)) b ∙ c.0))
    (extends-is s.binds.cells.items t.binds.cells.items (ap (λ (y : Binds). y.cells.items) b)) k f u

pub grows_binds : (modes : Modes) (rules : List Rule) (s t : Store) → IsStore modes rules s → BindsGrow (trees s.arena) s.binds t.binds →
    t.arena ≡ s.arena → t.kids.items ≡ s.kids.items → t.frames.items ≡ s.frames.items → t.until ≡ s.until → StoreGrows modes rules s t
grows_binds modes rules s t h b a k f u =
    more_envs modes rules s t h (subst (λ (y : Arena). IsArena y) (sym a) h.arena) (subst (λ (y : Arena). IsBinds (trees y) t.binds) (sym a) b.binds)
    (extends-is (store_trees s) (store_trees t) (ap trees a)) (subst (λ (y : Arena). Extends (store_envs s) (envs (trees y) t.binds)) (sym a) b.extends) b.cells k f u

-- one more proof
pub grows_kid : (modes : Modes) (rules : List Rule) (s t : Store) (c : Kid) → IsStore modes rules s → HeadFits (length (store_envs s)) (length s.kids.items) c.head → c.before ≤ length s.kids.items →
    t.arena ≡ s.arena → t.binds ≡ s.binds → t.kids.items ≡ s.kids.items ++ c ∷ [] → t.frames.items ≡ s.frames.items → t.until ≡ s.until →
    StoreGrows modes rules s t × (kids_at (store_kids t) (length s.kids.items + 1) ≡ joined_proofs (kids_at (store_kids s) c.before) (head_proof (store_envs s) (store_kids s) c.head ⊳ no_more))
grows_kid modes rules s t c h p l a b k f u =
    let e : store_envs t ≡ store_envs s = λ i. envs (trees (a i)) (b i) in
    let o = kids_one (store_envs s) s.kids.items t.kids.items c h.kids p l k in
    let m : store_kids t ≡ kid_chains (store_envs s) t.kids.items = ap (λ es. kid_chains es t.kids.items) e in
    let z : Extends (store_kids s) (store_kids t) = subst (λ (y : List Proofs). Extends (store_kids s) y) (sym m) o.1 in
    let y : Extends (store_envs s) (store_envs t) = extends-is (store_envs s) (store_envs t) e in
    let d = frames_stay modes rules s.until (store_envs s) (store_envs t) (store_kids s) (store_kids t) y z s.frames.items h.frames in (
      record {
        store = record {
          arena = subst (λ (x : Arena). IsArena x) (sym a) h.arena;
          binds = subst (λ (x : Arena). IsBinds (trees x) t.binds) (sym a) (subst (λ (x : Binds). IsBinds (trees s.arena) x) (sym b) h.binds);
          kids = subst (λ (es : List Assignment). AreKids es t.kids.items) (sym e) o.0;
          frames = frames_as modes rules s t f u d.1;
          until = until_within s t f u h.until;
        };
        trees = extends-is (store_trees s) (store_trees t) (ap trees a);
        envs = y;
        kids = z;
        frames = extends-is (store_frames modes rules s) (store_frames modes rules t) ((λ i. frames_of modes rules (u i) (store_envs t) (store_kids t) (f i)) ∙ d.0);
        bind_cells = extends-is s.binds.cells.items t.binds.cells.items (ap (λ (x : Binds). x.cells.items) b);
        kid_cells = (c ∷ [], k);
        frame_cells = extends-is s.frames.items t.frames.items f;
        until = u;
      },
      ap (λ ks. kids_at ks (length s.kids.items + 1)) m ∙ o.2,
    )

-- one more frame
pub grows_frame : (modes : Modes) (rules : List Rule) (s t : Store) (c : Waiting) → IsStore modes rules s → WaitingFits rules s.until (store_envs s) (store_kids s) (store_frames modes rules s) c →
    t.arena ≡ s.arena → t.binds ≡ s.binds → t.kids.items ≡ s.kids.items → t.frames.items ≡ s.frames.items ++ c ∷ [] → t.until ≡ s.until →
    StoreGrows modes rules s t × (frames_at (store_frames modes rules t) (length s.frames.items + 1) ≡ frame_of modes rules (store_envs s) (store_kids s) c ∷ frames_at (store_frames modes rules s) c.before)
grows_frame modes rules s t c h p a b k f u =
    let e : store_envs t ≡ store_envs s = λ i. envs (trees (a i)) (b i) in
    let m : store_kids t ≡ store_kids s = λ i. kid_chains (e i) (k i) in
    let o = frames_one modes rules s.until (store_envs s) (store_kids s) s.frames.items t.frames.items c h.frames p h.until f in
    let longer = ap length f ∙ length_push s.frames.items c in
    let there = h.until in
    let n : store_frames modes rules t ≡ frames_of modes rules s.until (store_envs s) (store_kids s) t.frames.items = λ i. frames_of modes rules (u i) (e i) (m i) t.frames.items in (
      record {
        store = record {
          arena = subst (λ (x : Arena). IsArena x) (sym a) h.arena;
          binds = subst (λ (x : Arena). IsBinds (trees x) t.binds) (sym a) (subst (λ (x : Binds). IsBinds (trees s.arena) x) (sym b) h.binds);
          kids = subst (λ (es : List Assignment). AreKids es t.kids.items) (sym e) (subst (λ (cs : List Kid). AreKids (store_envs s) cs) (sym k) h.kids);
          frames = subst (λ (w : ℕ). AreFrames modes rules w (store_envs t) (store_kids t) t.frames.items) (sym u) (subst (λ (es : List Assignment). AreFrames modes rules s.until es (store_kids t) t.frames.items) (sym e) (subst (λ (ks : List Proofs). AreFrames modes rules s.until (store_envs s) ks t.frames.items) (sym m) o.0));
          until = (omega arith);
        };
        trees = extends-is (store_trees s) (store_trees t) (ap trees a);
        envs = extends-is (store_envs s) (store_envs t) e;
        kids = extends-is (store_kids s) (store_kids t) m;
        frames = subst (λ (x : List (List _)). Extends (store_frames modes rules s) x) (sym n) o.1;
        bind_cells = extends-is s.binds.cells.items t.binds.cells.items (ap (λ (x : Binds). x.cells.items) b);
        kid_cells = extends-is s.kids.items t.kids.items k;
        frame_cells = (c ∷ [], f);
        until = u;
      },
      ap (λ fs. frames_at fs (length s.frames.items + 1)) n ∙ o.2,
    )
