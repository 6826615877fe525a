-- Chains of bindings.
use Rattle.std.proofs.Common.{◌≡◌, ℕ, zero, suc, ◌+◌, ◌-◌, ◌<◌, ◌≤◌, Bool, true, false, List, [], ◌∷◌, ◌++◌, drop, length, get_or, Some, refl, sym, ap, ◌∙◌, arith, subst}
use Rattle.std.specs.Prelude.{nat_eq, take}
use Rattle.std.proofs.lemmas.Bool.Decides.{Decides-eqb}
use Rattle.std.proofs.lemmas.List.{length_push, get_or_push}
use Rattle.sx_term.specs.Tree.{Tree, node, none}
use Rattle.sx_arena.specs.Matching.{Assignment, nothing_bound, bind}
use Rattle.sx_arena.specs.declared.binds.Bind.{Bind}
use Rattle.sx_arena.specs.declared.binds.Binds.{Binds}
use Rattle.sx_arena.specs.Grown.{Extends, grown_from, CellsFit}
use Rattle.sx_arena.specs.Arena.{tree_at}
use Rattle.sx_arena.specs.Binds.{env_at, bind_step, BindFits, envs, IsBinds, BindsGrow, IsBoundTerm}
use Rattle.sx_arena.proofs.Growing.{extends-same, extends-then, extends-length, extends-at, grown_from-one, grown_from-append, grown_from-extends, grown-length, fits-one, grown-at, grown-same}

pub env_stays : (es fs : List Assignment) → Extends es fs → (i : ℕ) → i ≤ length es → env_at fs i ≡ env_at es i
env_stays es fs x zero h = refl
env_stays es fs x (suc i) h = extends-at es fs x i nothing_bound (omega arith)

pub bind_same : (env : Assignment) (v w : ℕ) (t : Tree) → v ≡ w → bind env v t w ≡ Some t
bind_same env v w t e = go (nat_eq w v) refl
  where
    go : (b : Bool) → nat_eq w v ≡ b → bind env v t w ≡ Some t
    go true f = ap (λ (b : Bool). elim b [ true ↦ Some t | false ↦ env w ]) f
    go false f = let g = (Decides-eqb w v).1 (sym e) in absurd (let q : true ≡ false = sym g ∙ f in let z : ⊥ = cc in z)

pub bind_other : (env : Assignment) (v w : ℕ) (t : Tree) → (v ≡ w → ⊥) → bind env v t w ≡ env w
bind_other env v w t d = go (nat_eq w v) refl
  where
    go : (b : Bool) → nat_eq w v ≡ b → bind env v t w ≡ env w
    go true f = absurd (d (sym ((Decides-eqb w v).0 f)))
    go false f = ap (λ (b : Bool). elim b [ true ↦ Some t | false ↦ env w ]) f

-- the cell at a number
pub record BindRead (ts : List Tree) (es : List Assignment) (here : ℕ) (c : Bind) : Type 0 where
  pub env : env_at es here ≡ bind_step ts es c
  pub term : c.term < length ts
  pub before : c.before < here
  pub within : here ≤ length es

bind_read_at : (ts : List Tree) (b : Binds) → IsBinds ts b → (i : ℕ) (c : Bind) → i < length b.cells.items → c ≡ get_or b.cells.items i c → BindRead ts (envs ts b) (suc i) c
bind_read_at ts b h i c l e =
    let r = grown-at (bind_step ts) (BindFits ts) b.cells.items h i c nothing_bound l e in
    let front = r.0 in
    let p = r.1 in
    let n : length front ≡ i = r.2 in
    let w = p.before in
    let m = grown-length (bind_step ts) b.cells.items in
    record {
      env = r.4 ∙ ap (λ (env : Assignment). bind env c.variable (tree_at ts c.term)) (sym (env_stays front (envs ts b) r.3 c.before w));
      term = p.term;
      before = (omega arith);
      within = (omega arith);
    }

pub bind_read : (ts : List Tree) (b : Binds) → IsBinds ts b → (here : ℕ) (c : Bind) → 0 < here → here ≤ length b.cells.items → c ≡ get_or b.cells.items (here - 1) c → BindRead ts (envs ts b) here c
bind_read ts b h here c p l e =
    let f : suc (here - 1) ≡ here = omega arith in
    subst (λ (n : ℕ). BindRead ts (envs ts b) n c) f (bind_read_at ts b h (here - 1) c (omega arith) e)

pub found_here : (ts : List Tree) (b : Binds) → IsBinds ts b → (here v : ℕ) (c : Bind) → 0 < here → here ≤ length b.cells.items → c ≡ get_or b.cells.items (here - 1) c → c.variable ≡ v → IsBoundTerm ts (env_at (envs ts b) here v) (Some c.term)
found_here ts b h here v c p l e f =
    let r = bind_read ts b h here c p l e in
    (r.term, ap (λ (env : Assignment). env v) r.env ∙ bind_same (env_at (envs ts b) c.before) c.variable v (tree_at ts c.term) f)

pub found_before : (ts : List Tree) (b : Binds) → IsBinds ts b → (here v : ℕ) (c : Bind) → 0 < here → here ≤ length b.cells.items → c ≡ get_or b.cells.items (here - 1) c → (c.variable ≡ v → ⊥) → env_at (envs ts b) here v ≡ env_at (envs ts b) c.before v
found_before ts b h here v c p l e f =
    let r = bind_read ts b h here c p l e in
    ap (λ (env : Assignment). env v) r.env ∙ bind_other (env_at (envs ts b) c.before) c.variable v (tree_at ts c.term) f

-- more terms change nothing
pub envs_stay : (ts us : List Tree) → Extends ts us → (b : Binds) → IsBinds ts b → (envs us b ≡ envs ts b) × IsBinds us b
envs_stay ts us x b h = grown-same (bind_step ts) (bind_step us) (BindFits ts) (BindFits us)
    (λ es c p. (
      ap (λ t. bind (env_at es c.before) c.variable t) (sym (extends-at ts us x c.term (node 0 none) p.term)),
      record { term = (let a = p.term in let z = extends-length ts us x in omega arith); before = p.before },
    ))
    [] b.cells.items h

pub binds_same : (ts : List Tree) (b : Binds) → IsBinds ts b → BindsGrow ts b b
binds_same ts b h = record { binds = h; cells = extends-same b.cells.items; extends = extends-same (envs ts b) }

pub binds_then : (ts : List Tree) (a b c : Binds) → BindsGrow ts a b → BindsGrow ts b c → BindsGrow ts a c
binds_then ts a b c p q = record {
  binds = q.binds;
  cells = extends-then a.cells.items b.cells.items c.cells.items p.cells q.cells;
  extends = extends-then (envs ts a) (envs ts b) (envs ts c) p.extends q.extends;
}

-- one more binding
pub binds_one : (ts : List Tree) (old new : Binds) (c : Bind) → IsBinds ts old → c.term < length ts → c.before ≤ length old.cells.items → new.cells.items ≡ old.cells.items ++ c ∷ [] →
    BindsGrow ts old new × (env_at (envs ts new) (length old.cells.items + 1) ≡ bind (env_at (envs ts old) c.before) c.variable (tree_at ts c.term)) × (length old.cells.items + 1 ≤ length new.cells.items)
binds_one ts old new c h t l e =
    let n = grown-length (bind_step ts) old.cells.items in
    let f : envs ts new ≡ envs ts old ++ bind_step ts (envs ts old) c ∷ [] = ap (grown_from (bind_step ts) []) e ∙ grown_from-one (bind_step ts) [] old.cells.items c in
    let p : BindFits ts (envs ts old) c = record { term = t; before = (omega arith) } in
    let k : length old.cells.items + 1 ≡ suc (length old.cells.items) = omega arith in
    let m = ap length e ∙ length_push old.cells.items c in (
      record {
        binds = subst (λ (x : List Bind). CellsFit (bind_step ts) (BindFits ts) [] x) (sym e) (fits-one (bind_step ts) (BindFits ts) [] old.cells.items c h p);
        cells = (c ∷ [], e);
        extends = (bind_step ts (envs ts old) c ∷ [], f);
      },
      ap (env_at (envs ts new)) k ∙ ap (λ es. get_or es (length old.cells.items) nothing_bound) f ∙ get_or_push (envs ts old) (bind_step ts (envs ts old) c) nothing_bound (length old.cells.items) n,
      (omega arith),
    )

take_drop : {X : Type 0} (n : ℕ) (xs : List X) → xs ≡ take n xs ++ drop n xs
take_drop zero xs = refl
take_drop (suc n) [] = refl
take_drop (suc n) (x ∷ xs) = ap (λ ys. x ∷ ys) (take_drop n xs)

fits_front : {C V : Type 0} (step : List V → C → V) (P : List V → C → Type 0) (vs : List V) (cs ds : List C) → CellsFit step P vs (cs ++ ds) → CellsFit step P vs cs
fits_front step P vs [] ds h = tt
fits_front step P vs (c ∷ cs) ds h = (h.0, fits_front step P (vs ++ step vs c ∷ []) cs ds h.1)

-- the first bindings are bindings, and the others go on from them
pub binds_cut : (old new : Binds) (n : ℕ) → new.cells.items ≡ take n old.cells.items → (ts : List Tree) → IsBinds ts old → IsBinds ts new × Extends (envs ts new) (envs ts old)
binds_cut old new n e ts h =
    let cs = old.cells.items in
    let f = fits_front (bind_step ts) (BindFits ts) [] (take n cs) (drop n cs) (subst (λ (ds : List Bind). CellsFit (bind_step ts) (BindFits ts) [] ds) (take_drop n cs) h) in
    let g = ap (λ (ds : List Bind). grown_from (bind_step ts) [] ds) (take_drop n cs) ∙ grown_from-append (bind_step ts) [] (take n cs) (drop n cs) in
    let x = subst (λ (ys : List Assignment). Extends (grown_from (bind_step ts) [] (take n cs)) ys) (sym g) (grown_from-extends (bind_step ts) (grown_from (bind_step ts) [] (take n cs)) (drop n cs)) in (
      subst (λ (ds : List Bind). CellsFit (bind_step ts) (BindFits ts) [] ds) (sym e) f,
      subst (λ (ds : List Bind). Extends (grown_from (bind_step ts) [] ds) (envs ts old)) (sym e) x,
    )
