-- Laws of instances by a substitution.
use Rattle.std.proofs.Common.{◌≡◌, ℕ, List, [], ◌∷◌, inl, inr, map, refl, sym, ap, ◌∙◌}
use Rattle.std.proofs.Math.ListN.{get_or-map}
use Rattle.sx_term.specs.Tree.{Tree, Trees, node, lexeme, hole, none, ◌▹◌}
use Rattle.sx_term.specs.Instances.{instance, instances, Stands, StandsInKids, StandsAmong, bound_by}

-- an instance depends on the variables of the term alone
mutual
  pub instance-same : (s r : ℕ → Tree) (t : Tree) → ((v : ℕ) → Stands v t → s v ≡ r v) → instance s t ≡ instance r t
  instance-same s r (node l ts) h = ap (node l) (instances-same s r ts h)
  instance-same s r (lexeme k x) h = refl
  instance-same s r (hole v) h = h v refl

  pub instances-same : (s r : ℕ → Tree) (ts : Trees) → ((v : ℕ) → StandsInKids v ts → s v ≡ r v) → instances s ts ≡ instances r ts
  instances-same s r none h = refl
  instances-same s r (t ▹ ts) h =
      let a = instance-same s r t (λ v k. h v (inl k)) in
      let b = instances-same s r ts (λ v k. h v (inr k)) in cc

pub map_instance-same : (s r : ℕ → Tree) (ts : List Tree) → ((v : ℕ) → StandsAmong v ts → s v ≡ r v) → map (instance s) ts ≡ map (instance r) ts
map_instance-same s r [] h = refl
map_instance-same s r (t ∷ ts) h =
    let a = instance-same s r t (λ v k. h v (inl k)) in
    let b = map_instance-same s r ts (λ v k. h v (inr k)) in cc

-- the instance of an instance
mutual
  pub instance-instance : (s r : ℕ → Tree) (t : Tree) → instance s (instance r t) ≡ instance (λ v. instance s (r v)) t
  instance-instance s r (node l ts) = ap (node l) (instances-instances s r ts)
  instance-instance s r (lexeme k x) = refl
  instance-instance s r (hole v) = refl

  pub instances-instances : (s r : ℕ → Tree) (ts : Trees) → instances s (instances r ts) ≡ instances (λ v. instance s (r v)) ts
  instances-instances s r none = refl
  instances-instances s r (t ▹ ts) =
      let a = instance-instance s r t in
      let b = instances-instances s r ts in cc

-- bindings under a substitution state the substitution after that of the bindings
pub instance-bound : (s : ℕ → Tree) (binds : List Tree) (t : Tree) →
    instance s (instance (bound_by binds) t) ≡ instance (bound_by (map (instance s) binds)) t
instance-bound s binds t =
    instance-instance s (bound_by binds) t
    ∙ instance-same (λ v. instance s (bound_by binds v)) (bound_by (map (instance s) binds)) t (λ v _. sym (get_or-map (instance s) binds v (node 0 none)))

pub map_instance-bound : (s : ℕ → Tree) (binds : List Tree) (ts : List Tree) →
    map (instance s) (map (instance (bound_by binds)) ts) ≡ map (instance (bound_by (map (instance s) binds))) ts
map_instance-bound s binds [] = refl
map_instance-bound s binds (t ∷ ts) =
    let a = instance-bound s binds t in
    let b = map_instance-bound s binds ts in cc

-- where two instances of a term are equal, the substitutions are equal at its variables
mutual
  pub instance-determines : (s r : ℕ → Tree) (t : Tree) → instance s t ≡ instance r t → (v : ℕ) → Stands v t → s v ≡ r v
  instance-determines s r (node l ts) e v h = instances-determine s r ts (let q : instances s ts ≡ instances r ts = cc in q) v h
  instance-determines s r (lexeme k x) e v h = absurd h
  instance-determines s r (hole w) e v h = ap s h ∙ e ∙ sym (ap r h)

  pub instances-determine : (s r : ℕ → Tree) (ts : Trees) → instances s ts ≡ instances r ts → (v : ℕ) → StandsInKids v ts → s v ≡ r v
  instances-determine s r none e v h = absurd h
  instances-determine s r (t ▹ ts) e v (inl h) = instance-determines s r t (let q : instance s t ≡ instance r t = cc in q) v h
  instances-determine s r (t ▹ ts) e v (inr h) = instances-determine s r ts (let q : instances s ts ≡ instances r ts = cc in q) v h

pub map_instance-determines : (s r : ℕ → Tree) (ts : List Tree) → map (instance s) ts ≡ map (instance r) ts → (v : ℕ) → StandsAmong v ts → s v ≡ r v
map_instance-determines s r [] e v h = absurd h
map_instance-determines s r (t ∷ ts) e v (inl h) = instance-determines s r t (let q : instance s t ≡ instance r t = cc in q) v h
map_instance-determines s r (t ∷ ts) e v (inr h) = map_instance-determines s r ts (let q : map (instance s) ts ≡ map (instance r) ts = cc in q) v h
