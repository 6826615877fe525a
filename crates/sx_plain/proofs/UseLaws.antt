-- What a flat body does with its parts measures its instances.
use Rattle.std.proofs.Common.{◌≡◌, ◌↔◌, arith, ℕ, zero, suc, ◌+◌, ◌*◌, ◌<◌, ◌≤◌, max, drop, set, get_or, Vec, List, [], ◌∷◌, ◌++◌, inl, inr, length, refl, sym, ap, ◌∙◌, subst}
use Rattle.std.specs.Prelude.{slice_index_or}
use Rattle.std.specs.declared.alloc.Global.{Global}
use Rattle.sx_term.specs.declared.term.Term.{Term, Node}
use Rattle.sx_term.specs.Term.{tree}
use Rattle.sx_term.proofs.Kids.{trees, tree-at_node}
use Rattle.sx_term.specs.Tree.{Tree, Trees, node, lexeme, hole, none, ◌▹◌, depth_of, greatest_depth}
use Rattle.sx_term.specs.Tree.{size_of, total_size}
use Rattle.sx_term.specs.Instances.{Stands, StandsInKids}
use Rattle.sx_plain.specs.declared.part_use.PartUse.{PartUse}
use Rattle.sx_plain.specs.Measures.{depth_with, greatest_with, size_with, total_with, greatest}
use Rattle.sx_plain.specs.Uses.{unused_parts, once_more, use_noted_at, noted, noted_all, own_size}
use Rattle.sx_plain.specs.Uses.{own_sizes, most_times, used_depth, used_size, AreNear, ArePositive}
use Rattle.sx_plain.specs.Uses.{IsMeasured}

-- as many parts as before
length-noted_at : (above v : ℕ) (us : List PartUse) → length (use_noted_at above v us) ≡ length us
length-noted_at above v [] = refl
length-noted_at above zero (u ∷ us) = refl
length-noted_at above (suc v) (u ∷ us) = let e = length-noted_at above v us in omega arith

mutual
  length-noted : (above : ℕ) (t : Tree) (us : List PartUse) → length (noted above t us) ≡ length us
  length-noted above (node label ts) us = length-noted_all (above + 1) ts us
  length-noted above (lexeme kind text) us = refl
  length-noted above (hole v) us = length-noted_at above v us

  length-noted_all : (above : ℕ) (ts : Trees) (us : List PartUse) → length (noted_all above ts us) ≡ length us
  length-noted_all above none us = refl
  length-noted_all above (t ▹ ts) us = length-noted_all above ts (noted above t us) ∙ length-noted above t us

-- sizes
one_more : (a n : ℕ) → (a + 1) * n ≡ a * n + n
one_more a n = grind arith

size-noted_at : (above v : ℕ) (us : List PartUse) (ns : List ℕ) → v < length us → length ns ≡ length us →
    used_size (use_noted_at above v us) ns ≡ slice_index_or ns v 1 + used_size us ns
size-noted_at above v [] ns l e = absurd (omega arith)
size-noted_at above v (u ∷ us) [] l e = absurd (omega arith)
size-noted_at above zero (u ∷ us) (n ∷ ns) l e = let h = one_more u.times n in omega arith
size-noted_at above (suc v) (u ∷ us) (n ∷ ns) l e = let h = size-noted_at above v us ns (omega arith) (omega arith) in omega arith

mutual
  size-noted : (above : ℕ) (t : Tree) (us : List PartUse) (ns : List ℕ) → ((v : ℕ) → Stands v t → v < length us) → length ns ≡ length us →
      own_size t + used_size (noted above t us) ns ≡ size_with ns t + used_size us ns
  size-noted above (node label ts) us ns h e = let k = size-noted_all (above + 1) ts us ns h e in omega arith
  size-noted above (lexeme kind text) us ns h e = refl
  size-noted above (hole v) us ns h e = let k = size-noted_at above v us ns (h v refl) e in omega arith

  size-noted_all : (above : ℕ) (ts : Trees) (us : List PartUse) (ns : List ℕ) → ((v : ℕ) → StandsInKids v ts → v < length us) → length ns ≡ length us →
      own_sizes ts + used_size (noted_all above ts us) ns ≡ total_with ns ts + used_size us ns
  size-noted_all above none us ns h e = refl
  size-noted_all above (t ▹ ts) us ns h e =
      let n = length-noted above t us in
      let a = size-noted above t us ns (λ v s. h v (inl s)) e in
      let b = size-noted_all above ts (noted above t us) ns (λ v s. let l = h v (inr s) in omega arith) (omega arith) in omega arith

-- depths
depth-noted_at : (above v : ℕ) (us : List PartUse) (ds : List ℕ) → v < length us → length ds ≡ length us →
    used_depth (use_noted_at above v us) ds ≡ max (used_depth us ds) (above + slice_index_or ds v 1)
depth-noted_at above v [] ds l e = absurd (omega arith)
depth-noted_at above v (u ∷ us) [] l e = absurd (omega arith)
depth-noted_at above zero (u ∷ us) (d ∷ ds) l e = omega arith
depth-noted_at above (suc v) (u ∷ us) (d ∷ ds) l e = let h = depth-noted_at above v us ds (omega arith) (omega arith) in omega arith

positive-at : (ds : List ℕ) (v : ℕ) → ArePositive ds → 1 ≤ slice_index_or ds v 1
positive-at [] v p = omega arith
positive-at (d ∷ ds) zero p = p.0
positive-at (d ∷ ds) (suc v) p = positive-at ds v p.1

mutual
  depth-noted : (above : ℕ) (t : Tree) (us : List PartUse) (ds : List ℕ) → ((v : ℕ) → Stands v t → v < length us) → length ds ≡ length us → ArePositive ds →
      max (above + depth_of t) (used_depth (noted above t us) ds) ≡ max (used_depth us ds) (above + depth_with ds t)
  depth-noted above (node label ts) us ds h e p = let k = depth-noted_all (above + 1) ts us ds h e p in omega arith
  depth-noted above (lexeme kind text) us ds h e p = omega arith
  depth-noted above (hole v) us ds h e p =
      let k = depth-noted_at above v us ds (h v refl) e in
      let q = positive-at ds v p in omega arith

  depth-noted_all : (above : ℕ) (ts : Trees) (us : List PartUse) (ds : List ℕ) → ((v : ℕ) → StandsInKids v ts → v < length us) → length ds ≡ length us → ArePositive ds →
      max (above + greatest_depth ts) (used_depth (noted_all above ts us) ds) ≡ max (used_depth us ds) (above + greatest_with ds ts)
  depth-noted_all above none us ds h e p = omega arith
  depth-noted_all above (t ▹ ts) us ds h e p =
      let n = length-noted above t us in
      let a = depth-noted above t us ds (λ v s. h v (inl s)) e p in
      let b = depth-noted_all above ts (noted above t us) ds (λ v s. let l = h v (inr s) in omega arith) (omega arith) p in omega arith

-- a part that stands is no deeper than the instance
mutual
  stands-within : (ds : List ℕ) (t : Tree) (v : ℕ) → Stands v t → slice_index_or ds v 1 ≤ depth_with ds t
  stands-within ds (node label ts) v h = let k = all_stand-within ds ts v h in omega arith
  stands-within ds (lexeme kind text) v h = absurd h
  stands-within ds (hole w) v h = let e = ap (λ (x : ℕ). slice_index_or ds x 1) h in omega arith

  all_stand-within : (ds : List ℕ) (ts : Trees) (v : ℕ) → StandsInKids v ts → slice_index_or ds v 1 ≤ greatest_with ds ts
  all_stand-within ds none v h = absurd h
  all_stand-within ds (t ▹ ts) v (inl h) = let k = stands-within ds t v h in omega arith
  all_stand-within ds (t ▹ ts) v (inr h) = let k = all_stand-within ds ts v h in omega arith

greatest-within : (ds : List ℕ) (most : ℕ) → ((v : ℕ) → v < length ds → slice_index_or ds v 1 ≤ most) → greatest ds ≤ most
greatest-within [] most h = omega arith
greatest-within (d ∷ ds) most h =
    let a = h zero (omega arith) in
    let b = greatest-within ds most (λ v l. h (suc v) (omega arith)) in omega arith

-- parts that are not used
length-unused : (n : ℕ) → length (unused_parts n) ≡ n
length-unused zero = refl
length-unused (suc n) = let e = length-unused n in omega arith

size-unused : (n : ℕ) (ns : List ℕ) → used_size (unused_parts n) ns ≡ 0
size-unused zero ns = refl
size-unused (suc n) [] = refl
size-unused (suc n) (m ∷ ns) = let h = size-unused n ns in omega arith

depth-unused : (n : ℕ) (ds : List ℕ) → length ds ≡ n → used_depth (unused_parts n) ds ≡ greatest ds
depth-unused zero [] e = refl
depth-unused zero (d ∷ ds) e = absurd (omega arith)
depth-unused (suc n) [] e = absurd (omega arith)
depth-unused (suc n) (d ∷ ds) e = let h = depth-unused n ds (omega arith) in omega arith

pub times-unused : (n : ℕ) → most_times (unused_parts n) ≡ 0
times-unused zero = refl
times-unused (suc n) = let h = times-unused n in omega arith

near-unused : (n : ℕ) → AreNear (unused_parts n)
near-unused zero = tt
near-unused (suc n) = (omega arith, near-unused n)

pub unused_parts-push : (n : ℕ) (u : PartUse) → u ≡ record { times = 0; above = 0 } → unused_parts n ++ u ∷ [] ≡ unused_parts (n + 1)
unused_parts-push zero u e = ap (λ (x : PartUse). x ∷ []) e
unused_parts-push (suc n) u e =
    let m : suc n + 1 ≡ suc (n + 1) = omega arith in
    rw m (ap (λ (us : List PartUse). record { times = 0; above = 0 } ∷ us) (unused_parts-push n u e))

-- how near and how often
near-noted_at : (above v : ℕ) (us : List PartUse) → above ≤ 1000 → AreNear us → AreNear (use_noted_at above v us)
near-noted_at above v [] l h = tt
near-noted_at above zero (u ∷ us) l h = ((let k = h.0 in omega arith), h.1)
near-noted_at above (suc v) (u ∷ us) l h = (h.0, near-noted_at above v us l h.1)

mutual
  near-noted : (above : ℕ) (t : Tree) (us : List PartUse) → above + depth_of t ≤ 1001 → AreNear us → AreNear (noted above t us)
  near-noted above (node label ts) us l h = near-noted_all (above + 1) ts us (omega arith) h
  near-noted above (lexeme kind text) us l h = h
  near-noted above (hole v) us l h = near-noted_at above v us (omega arith) h

  near-noted_all : (above : ℕ) (ts : Trees) (us : List PartUse) → above + greatest_depth ts ≤ 1001 → AreNear us → AreNear (noted_all above ts us)
  near-noted_all above none us l h = h
  near-noted_all above (t ▹ ts) us l h = near-noted_all above ts (noted above t us) (omega arith) (near-noted above t us (omega arith) h)

times-noted_at : (above v : ℕ) (us : List PartUse) → most_times (use_noted_at above v us) ≤ most_times us + 1
times-noted_at above v [] = omega arith
times-noted_at above zero (u ∷ us) = omega arith
times-noted_at above (suc v) (u ∷ us) = let h = times-noted_at above v us in omega arith

mutual
  pub times-noted : (above : ℕ) (t : Tree) (us : List PartUse) → most_times (noted above t us) ≤ most_times us + size_of t
  times-noted above (node label ts) us = let h = times-noted_all (above + 1) ts us in omega arith
  times-noted above (lexeme kind text) us = omega arith
  times-noted above (hole v) us = times-noted_at above v us

  times-noted_all : (above : ℕ) (ts : Trees) (us : List PartUse) → most_times (noted_all above ts us) ≤ most_times us + total_size ts
  times-noted_all above none us = omega arith
  times-noted_all above (t ▹ ts) us =
      let a = times-noted above t us in
      let b = times-noted_all above ts (noted above t us) in omega arith

-- a flat body is measured by what it does with its parts
is_measured : (arity : ℕ) (t : Tree) → depth_of t ≤ 1000 → ((v : ℕ) → Stands v t ↔ (v < arity)) →
    IsMeasured t (own_size t) (depth_of t) (noted 0 t (unused_parts arity))
is_measured arity t l parts = record {
  near = near-noted 0 t (unused_parts arity) (omega arith) (near-unused arity);
  sizes = λ ns e.
      let n = length-unused arity in
      let m = length-noted 0 t (unused_parts arity) in
      let a = size-noted 0 t (unused_parts arity) ns (λ v s. let k = (parts v).0 s in omega arith) (omega arith) in
      let b = size-unused arity ns in omega arith;
  depths = λ ds e p.
      let n = length-unused arity in
      let m = length-noted 0 t (unused_parts arity) in
      let a = depth-noted 0 t (unused_parts arity) ds (λ v s. let k = (parts v).0 s in omega arith) (omega arith) p in
      let b = depth-unused arity ds (omega arith) in
      let c = greatest-within ds (depth_with ds t) (λ v k. stands-within ds t v ((parts v).1 (omega arith))) in omega arith;
}

pub measured_by : (arity : ℕ) (t : Tree) (own depth : ℕ) (us new : List PartUse) → depth_of t ≤ 1000 → ((v : ℕ) → Stands v t ↔ (v < arity)) →
    own ≡ own_size t → depth ≡ depth_of t → us ≡ unused_parts arity → new ≡ noted 0 t us → IsMeasured t own depth new
measured_by arity t own depth us new l parts o d e n =
    subst (λ (x : ℕ). IsMeasured t x depth new) (sym o)
    (subst (λ (x : ℕ). IsMeasured t (own_size t) x new) (sym d)
    (subst (λ (x : List PartUse). IsMeasured t (own_size t) (depth_of t) x) (sym (n ∙ ap (noted 0 t) e)) (is_measured arity t l parts)))

pub many_noted : (arity : ℕ) (t : Tree) (us new : List PartUse) → us ≡ unused_parts arity → new ≡ noted 0 t us → length new ≡ arity
many_noted arity t us new e n = ap (λ (x : List PartUse). length x) n ∙ length-noted 0 t us ∙ ap (λ (x : List PartUse). length x) e ∙ length-unused arity

-- noting at a place
pub noted-set : (above v : ℕ) (us : List PartUse) (u : PartUse) → v < length us → u ≡ get_or us v u → set us v (once_more above u) ≡ use_noted_at above v us
noted-set above v [] u l e = absurd (omega arith)
noted-set above zero (x ∷ us) u l e = ap (λ (y : PartUse). once_more above y ∷ us) e
noted-set above (suc v) (x ∷ us) u l e = ap (λ (ys : List PartUse). x ∷ ys) (noted-set above v us u (omega arith) e)

pub noted-past : (above v : ℕ) (us : List PartUse) → length us ≤ v → use_noted_at above v us ≡ us
noted-past above v [] l = refl
noted-past above zero (x ∷ us) l = absurd (omega arith)
noted-past above (suc v) (x ∷ us) l = ap (λ (ys : List PartUse). x ∷ ys) (noted-past above v us (omega arith))

pub times-at : (us : List PartUse) (v : ℕ) (u : PartUse) → v < length us → u ≡ get_or us v u → u.times ≤ most_times us
times-at [] v u l e = absurd (omega arith)
times-at (x ∷ us) zero u l e = let q = ap (λ (y : PartUse). y.times) e in omega arith
times-at (x ∷ us) (suc v) u l e = let h = times-at us v u (omega arith) e in omega arith

pub near-at : (us : List PartUse) (v : ℕ) (u : PartUse) → v < length us → u ≡ get_or us v u → AreNear us → u.above ≤ 1000
near-at [] v u l e h = absurd (omega arith)
near-at (x ∷ us) zero u l e h = let q = ap (λ (y : PartUse). y.above) e in let k = h.0 in omega arith
near-at (x ∷ us) (suc v) u l e h = near-at us v u (omega arith) e h.1

-- one more part
pub used_depth-step : (us : List PartUse) (ds : List ℕ) (i : ℕ) (u : PartUse) (d : ℕ) → i < length us → length ds ≡ length us → u ≡ get_or us i u → d ≡ get_or ds i d →
    used_depth (drop i us) (drop i ds) ≡ max (u.above + d) (used_depth (drop (i + 1) us) (drop (i + 1) ds))
used_depth-step [] ds i u d l n e f = absurd (omega arith)
used_depth-step (x ∷ us) [] i u d l n e f = absurd (omega arith)
used_depth-step (x ∷ us) (m ∷ ds) zero u d l n e f = let q = ap (λ (y : PartUse). y.above) e in omega arith
used_depth-step (x ∷ us) (m ∷ ds) (suc i) u d l n e f =
    let k : suc i + 1 ≡ suc (i + 1) = omega arith in rw k (used_depth-step us ds i u d (omega arith) (omega arith) e f)

pub used_size-step : (us : List PartUse) (ns : List ℕ) (i : ℕ) (u : PartUse) (n : ℕ) → i < length us → length ns ≡ length us → u ≡ get_or us i u → n ≡ get_or ns i n →
    used_size (drop i us) (drop i ns) ≡ u.times * n + used_size (drop (i + 1) us) (drop (i + 1) ns)
used_size-step [] ns i u n l k e f = absurd (omega arith)
used_size-step (x ∷ us) [] i u n l k e f = absurd (omega arith)
used_size-step (x ∷ us) (m ∷ ns) zero u n l k e f = ap (λ (y : PartUse). y.times * m + used_size us ns) (sym e) ∙ ap (λ (y : ℕ). u.times * y + used_size us ns) (sym f)
used_size-step (x ∷ us) (m ∷ ns) (suc i) u n l k e f =
    let j : suc i + 1 ≡ suc (i + 1) = omega arith in rw j (used_size-step us ns i u n (omega arith) (omega arith) e f)

-- past the last
pub used_depth-end : (us : List PartUse) (ds : List ℕ) (i : ℕ) → length us ≤ i → used_depth (drop i us) (drop i ds) ≡ 0
used_depth-end [] ds zero l = refl
used_depth-end [] ds (suc i) l = refl
used_depth-end (u ∷ us) ds zero l = absurd (omega arith)
used_depth-end (u ∷ us) [] (suc i) l = used_depth-none (drop i us)
  where
    used_depth-none : (xs : List PartUse) → used_depth xs [] ≡ 0
    used_depth-none [] = refl
    used_depth-none (x ∷ xs) = refl
used_depth-end (u ∷ us) (d ∷ ds) (suc i) l = used_depth-end us ds i (omega arith)

pub used_size-end : (us : List PartUse) (ns : List ℕ) (i : ℕ) → length us ≤ i → used_size (drop i us) (drop i ns) ≡ 0
used_size-end [] ns zero l = refl
used_size-end [] ns (suc i) l = refl
used_size-end (u ∷ us) ns zero l = absurd (omega arith)
used_size-end (u ∷ us) [] (suc i) l = used_size-none (drop i us)
  where
    used_size-none : (xs : List PartUse) → used_size xs [] ≡ 0
    used_size-none [] = refl
    used_size-none (x ∷ xs) = refl
used_size-end (u ∷ us) (n ∷ ns) (suc i) l = used_size-end us ns i (omega arith)

-- nodes and lexemes are no more than all
mutual
  pub own-within : (t : Tree) → own_size t ≤ size_of t
  own-within (node label ts) = let h = all_own-within ts in omega arith
  own-within (lexeme kind text) = omega arith
  own-within (hole v) = omega arith

  pub all_own-within : (ts : Trees) → own_sizes ts ≤ total_size ts
  all_own-within none = omega arith
  all_own-within (t ▹ ts) =
      let a = own-within t in
      let b = all_own-within ts in omega arith

-- a kid is smaller than its node
total-at : (ts : List Term) (i : ℕ) (k : Term) → i < length ts → k ≡ get_or ts i k → size_of (tree k) ≤ total_size (trees ts)
total-at [] i k l g = absurd (omega arith)
total-at (t ∷ ts) zero k l g = let e = ap (λ (x : Term). size_of (tree x)) g in omega arith
total-at (t ∷ ts) (suc i) k l g = let h = total-at ts i k (omega arith) g in omega arith

pub size-kid : (t : Term) (label : ℕ) (kids : Vec Term Global) (ts : List Term) (i : ℕ) (k : Term) → t ≡ Node label kids → ts ≡ kids.items → i < length ts → k ≡ get_or ts i k → size_of (tree k) < size_of (tree t)
size-kid t label kids ts i k e s l g =
    let a = total-at ts i k l g in
    let b = ap size_of (tree-at_node t label kids e) in
    let c = ap (λ (x : List Term). total_size (trees x)) s in omega arith
