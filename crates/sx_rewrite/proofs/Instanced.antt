-- Terms under what is put for their variables, one after another.
use Rattle.std.proofs.Common.{◌≡◌, arith, ℕ, zero, suc, ◌+◌, ◌<◌, ◌≤◌, take, drop, get_or, length, List, [], ◌∷◌, ◌++◌, map, Vec, Option, Some, None, refl, sym, ap, ◌∙◌, subst}
use Rattle.std.specs.Prelude.{Result, Ok, Err, slice_get}
use Rattle.std.specs.Result.{IsErrAnd}
use Rattle.sx_rules.specs.declared.rule.Rule.{Rule as RuleOf}
use Rattle.sx_rules.specs.Rules.{Rule}
use Rattle.sx_rules.specs.Views.{NamedRule, named, rule}
use Rattle.sx_rules.specs.Deep.{AreShallow, RulesAreShallow}
use Rattle.std.specs.declared.alloc.Global.{Global}
use Rattle.sx_term.specs.declared.term.Term.{Term, Node}
use Rattle.sx_term.specs.Term.{tree}
use Rattle.sx_term.proofs.Kids.{trees, tree-at_node}
use Rattle.sx_term.specs.Tree.{Tree, node, none, depth_of, greatest_depth, forest}
use Rattle.sx_term.specs.Instances.{instance, bound_by}
use Rattle.sx_plain.specs.declared.measure.Measure.{Measure}
use Rattle.sx_plain.specs.Measures.{depth_with, size_with, greatest}
use Rattle.sx_plain.specs.PartMeasures.{depths_of, sizes_of}
use Rattle.sx_plain.proofs.Measured.{sat}
use Rattle.sx_rewrite.specs.declared.put_terms.PutTerms.{PutTerms}
use Rattle.sx_rewrite.specs.declared.rewrite_error.RewriteError.{RewriteError}
use Rattle.sx_rewrite.specs.Rewriting.{RewriteRefusal, first_over}
use Rattle.sx_rewrite.specs.Puts.{IsMeasureOf, AreMeasuresOf, IsSmallTerm, IsLimited, Tells}
use Rattle.sx_rewrite.specs.Put.{ArePut}
use Rattle.sx_rewrite.proofs.Puts.{put-depth, put-size, put-made, over-none, limited-small, limited-tells}

-- the list from a place on, and up to one more
trees-from : (ts : List Term) (i : ℕ) (k : Term) → i < length ts → k ≡ get_or ts i k → drop i (map tree ts) ≡ tree k ∷ drop (i + 1) (map tree ts)
trees-from [] i k l e = absurd (omega arith)
trees-from (t ∷ ts) zero k l e = ap (λ (x : Term). tree x ∷ map tree ts) (sym e)
trees-from (t ∷ ts) (suc i) k l e = let n : suc i + 1 ≡ suc (i + 1) = omega arith in rw n (trees-from ts i k (omega arith) e)

trees-to : (ts : List Term) (i : ℕ) (k : Term) → i < length ts → k ≡ get_or ts i k → take (i + 1) (map tree ts) ≡ take i (map tree ts) ++ tree k ∷ []
trees-to [] i k l e = absurd (omega arith)
trees-to (t ∷ ts) zero k l e = ap (λ (x : Term). tree x ∷ []) (sym e)
trees-to (t ∷ ts) (suc i) k l e =
    let n : suc i + 1 ≡ suc (i + 1) = omega arith in
    rw n (ap (λ (xs : List Tree). tree t ∷ xs) (trees-to ts i k (omega arith) e))

trees-end : (ts : List Term) (i : ℕ) → length ts ≤ i → drop i (map tree ts) ≡ []
trees-end [] zero l = refl
trees-end [] (suc i) l = refl
trees-end (t ∷ ts) zero l = absurd (omega arith)
trees-end (t ∷ ts) (suc i) l = trees-end ts i (omega arith)

trees-all : (ts : List Term) (i : ℕ) → length ts ≤ i → take i (map tree ts) ≡ map tree ts
trees-all [] zero l = refl
trees-all [] (suc i) l = refl
trees-all (t ∷ ts) zero l = absurd (omega arith)
trees-all (t ∷ ts) (suc i) l = ap (λ (xs : List Tree). tree t ∷ xs) (trees-all ts i (omega arith))

map-both : (s : ℕ → Tree) (ts us : List Tree) → map (instance s) (ts ++ us) ≡ map (instance s) ts ++ map (instance s) us
map-both s [] us = refl
map-both s (t ∷ ts) us = ap (λ (xs : List Tree). instance s t ∷ xs) (map-both s ts us)

pub tree-both : (ts us : List Term) → map tree (ts ++ us) ≡ map tree ts ++ map tree us
tree-both [] us = refl
tree-both (t ∷ ts) us = ap (λ (xs : List Tree). tree t ∷ xs) (tree-both ts us)

pub measures-both : (ts us : List Tree) (ms ns : List Measure) → AreMeasuresOf ts ms → AreMeasuresOf us ns → AreMeasuresOf (ts ++ us) (ms ++ ns)
measures-both [] us [] ns h k = k
measures-both [] us (m ∷ ms) ns h k = absurd h
measures-both (t ∷ ts) us [] ns h k = absurd h
measures-both (t ∷ ts) us (m ∷ ms) ns h k = (h.0, measures-both ts us ms ns h.1 k)

pub deep-both : (ts : List Tree) (t : Tree) (n : ℕ) → greatest_depth (forest ts) ≤ n → depth_of t ≤ n → greatest_depth (forest (ts ++ t ∷ [])) ≤ n
deep-both [] t n h k = omega (arith, k)
deep-both (x ∷ ts) t n h k = let r = deep-both ts t n (omega (arith, h)) k in omega (arith, h, r)

pub greatest-both : (ms : List Measure) (m : Measure) (n : ℕ) → greatest (depths_of ms) ≤ n → m.depth ≤ n → greatest (depths_of (ms ++ m ∷ [])) ≤ n
greatest-both [] m n h k = omega (arith, k)
greatest-both (x ∷ ms) m n h k = let r = greatest-both ms m n (omega (arith, h)) k in omega (arith, h, r)

-- where there is no part, a node without kids is made
pub no-part : (ts : List Term) (v : ℕ) (made : Vec Term Global) → made.items ≡ [] → length ts ≤ v → tree (Node 0 made) ≡ bound_by (map tree ts) v
no-part ts v made e l = tree-at_node (Node 0 made) 0 made refl ∙ ap (λ (xs : List Term). node 0 (trees xs)) e ∙ sym (past ts v l)
  where
    past : (xs : List Term) (w : ℕ) → length xs ≤ w → bound_by (map tree xs) w ≡ node 0 none
    past [] w h = refl
    past (x ∷ xs) zero h = absurd (omega (arith, h))
    past (x ∷ xs) (suc w) h = past xs w (omega (arith, h))

-- the instances up to a place pass no limit, and are made and measured
pub record SoFar (s : ℕ → Tree) (ts : List Tree) (i : ℕ) (made : List Tree) (ms : List Measure) : Type 0 where
  pub over : first_over (map (instance s) ts) ≡ first_over (map (instance s) (drop i ts))
  pub made_are : made ≡ map (instance s) (take i ts)
  pub measures_are : AreMeasuresOf (map (instance s) (take i ts)) ms

-- so it is for all that may be put
pub record InstancesSoFar (puts : PutTerms) (ts : List Term) (i : ℕ) (made : List Term) (ms : List Measure) : Type 0 where
  pub shallow : greatest_depth (forest (map tree made)) ≤ 1000
  pub measured : greatest (depths_of ms) ≤ 1001000
  pub goes : (more : List Tree) → ArePut more puts → SoFar (bound_by more) (map tree ts) i (map tree made) ms

-- how deep and how big an instance is measured
pub record IsMeasured (ms : List Measure) (t : Tree) (m : Measure) : Type 0 where
  pub depth : m.depth ≡ depth_with (depths_of ms) t
  pub size : m.size ≡ sat (size_with (sizes_of ms) t)

pub measure-is : (more : List Tree) (ms : List Measure) (t : Tree) (m : Measure) → AreMeasuresOf more ms → IsMeasured ms t m → IsMeasureOf (instance (bound_by more) t) m
measure-is more ms t m h k = (k.depth ∙ put-depth more ms t h, k.size ∙ put-size more ms t h)

pub none-so-far : (puts : PutTerms) (ts : List Term) → InstancesSoFar puts ts 0 [] []
none-so-far puts ts = record { shallow = omega arith; measured = omega arith; goes = λ more p. record { over = refl; made_are = refl; measures_are = tt } }

module _ (s : ℕ → Tree) (ts : List Term) (i : ℕ) (k : Term) (within : i < length ts) (at : k ≡ get_or ts i k) where
  here : map (instance s) (drop i (map tree ts)) ≡ instance s (tree k) ∷ map (instance s) (drop (i + 1) (map tree ts))
  here = ap (map (instance s)) (trees-from ts i k within at)

  -- the term at the place is over, or it is not and those after it are looked at
  pub here-tells : (m : Measure) (e : RewriteError) → first_over (map (instance s) (map tree ts)) ≡ first_over (map (instance s) (drop i (map tree ts))) →
      IsLimited m (Err e) → IsMeasureOf (instance s (tree k)) m → Tells (first_over (map (instance s) (map tree ts))) e
  here-tells m e over l is =
      subst (λ (o : Option RewriteRefusal). Tells o e) (sym (over ∙ ap first_over here)) (limited-tells (instance s (tree k)) (map (instance s) (drop (i + 1) (map tree ts))) m e l is)

  pub here-passes : first_over (map (instance s) (map tree ts)) ≡ first_over (map (instance s) (drop i (map tree ts))) → IsSmallTerm (instance s (tree k)) →
      first_over (map (instance s) (map tree ts)) ≡ first_over (map (instance s) (drop (i + 1) (map tree ts)))
  here-passes over small = over ∙ ap first_over here ∙ over-none (instance s (tree k)) (map (instance s) (drop (i + 1) (map tree ts))) small

  so-far-step : (made : List Tree) (ms : List Measure) (m : Measure) → SoFar s (map tree ts) i made ms → IsSmallTerm (instance s (tree k)) → IsMeasureOf (instance s (tree k)) m →
      SoFar s (map tree ts) (i + 1) (made ++ instance s (tree k) ∷ []) (ms ++ m ∷ [])
  so-far-step made ms m so small is =
      let e : map (instance s) (take (i + 1) (map tree ts)) ≡ map (instance s) (take i (map tree ts)) ++ instance s (tree k) ∷ [] =
      ap (map (instance s)) (trees-to ts i k within at) ∙ map-both s (take i (map tree ts)) (tree k ∷ []) in
      record {
        over = here-passes so.over small;
        made_are = ap (λ (xs : List Tree). xs ++ instance s (tree k) ∷ []) so.made_are ∙ sym e;
        measures_are = subst (λ (xs : List Tree). AreMeasuresOf xs (ms ++ m ∷ [])) (sym e) (measures-both (map (instance s) (take i (map tree ts))) (instance s (tree k) ∷ []) ms (m ∷ []) so.measures_are (is, tt));
      }

pub none-over : (s : ℕ → Tree) (ts : List Term) (i : ℕ) → length ts ≤ i → first_over (map (instance s) (map tree ts)) ≡ first_over (map (instance s) (drop i (map tree ts))) → first_over (map (instance s) (map tree ts)) ≡ None
none-over s ts i l over = over ∙ ap (λ (xs : List Tree). first_over (map (instance s) xs)) (trees-end ts i l)

module _ (puts : PutTerms) (ts : List Term) (i : ℕ) (made : List Term) (ms : List Measure) (so : InstancesSoFar puts ts i made ms) where
  -- one more instance
  module _ (k : Term) (within : i < length ts) (at : k ≡ get_or ts i k) (m : Measure) (is : IsMeasured puts.measures.items (tree k) m) where
    pub instances-tell : (e : RewriteError) → IsLimited m (Err e) → (more : List Tree) → ArePut more puts → Tells (first_over (map (instance (bound_by more)) (map tree ts))) e
    instances-tell e l more p = here-tells (bound_by more) ts i k within at m e (so.goes more p).over l (measure-is more puts.measures.items (tree k) m p.0 is)

    module _ (small : (m.depth ≤ 1000) × (m.size ≤ 1000000)) (new : Term) (new-is : tree new ≡ instance (bound_by (map tree puts.terms.items)) (tree k)) where
      passes : (more : List Tree) → ArePut more puts → IsSmallTerm (instance (bound_by more) (tree k))
      passes more p = limited-small (instance (bound_by more) (tree k)) m small (measure-is more puts.measures.items (tree k) m p.0 is)

      is-made : (more : List Tree) → ArePut more puts → tree new ≡ instance (bound_by more) (tree k)
      is-made more p = new-is ∙ put-made more (map tree puts.terms.items) (tree k) p.1 (passes more p)

      pub instances-step : (more : List Tree) × ArePut more puts → InstancesSoFar puts ts (i + 1) (made ++ new ∷ []) (ms ++ m ∷ [])
      instances-step (some, put) = record {
        shallow =
            let d : depth_of (tree new) ≤ 1000 = (let e = ap depth_of (is-made some put) in let b = (passes some put).0 in omega (arith, e, b)) in
            subst (λ (xs : List Tree). greatest_depth (forest xs) ≤ 1000) (sym (tree-both made (new ∷ []))) (deep-both (map tree made) (tree new) 1000 so.shallow d);
        measured = greatest-both ms m 1001000 so.measured (let d = small.0 in omega (arith, d));
        goes = λ more p.
            let w = so-far-step (bound_by more) ts i k within at (map tree made) ms m (so.goes more p) (passes more p) (measure-is more puts.measures.items (tree k) m p.0 is) in
            let e : map tree (made ++ new ∷ []) ≡ map tree made ++ instance (bound_by more) (tree k) ∷ [] =
            tree-both made (new ∷ []) ∙ ap (λ (x : Tree). map tree made ++ x ∷ []) (is-made more p) in
            subst (λ (xs : List Tree). SoFar (bound_by more) (map tree ts) (i + 1) xs (ms ++ m ∷ [])) (sym e) w;
      }

  pub instances-end : length ts ≤ i → (more : List Tree) → ArePut more puts →
      (first_over (map (instance (bound_by more)) (map tree ts)) ≡ None)
      × AreMeasuresOf (map (instance (bound_by more)) (map tree ts)) ms × (map tree made ≡ map (instance (bound_by more)) (map tree ts))
  instances-end l more p =
      let w = so.goes more p in
      let e : map (instance (bound_by more)) (take i (map tree ts)) ≡ map (instance (bound_by more)) (map tree ts) = ap (map (instance (bound_by more))) (trees-all ts i l) in
      (none-over (bound_by more) ts i l w.over, subst (λ (xs : List Tree). AreMeasuresOf xs ms) e w.measures_are, w.made_are ∙ e)

-- a measure by the measures that are put
pub measured-by : (ms ns : List Measure) (t : Tree) (m : Measure) → ns ≡ ms → m.depth ≡ depth_with (depths_of ns) t → m.size ≡ sat (size_with (sizes_of ns) t) → IsMeasured ms t m
measured-by ms ns t m e d n = record {
  depth = d ∙ ap (λ (xs : List Measure). depth_with (depths_of xs) t) e;
  size = n ∙ ap (λ (xs : List Measure). sat (size_with (sizes_of xs) t)) e;
}

-- places, one after another
module _ (ts : List Term) (i : ℕ) (ms : List Measure) (so : (binds : List Tree) → AreMeasuresOf binds ms → first_over (map (instance (bound_by binds)) (map tree ts)) ≡ first_over (map (instance (bound_by binds)) (drop i (map tree ts))))
    (k : Term) (within : i < length ts) (at : k ≡ get_or ts i k) (m : Measure) (is : IsMeasured ms (tree k) m) where
  pub places-tell : (e : RewriteError) → IsLimited m (Err e) → (binds : List Tree) → AreMeasuresOf binds ms → Tells (first_over (map (instance (bound_by binds)) (map tree ts))) e
  places-tell e l binds h = here-tells (bound_by binds) ts i k within at m e (so binds h) l (measure-is binds ms (tree k) m h is)

  pub places-step : (m.depth ≤ 1000) × (m.size ≤ 1000000) → (binds : List Tree) → AreMeasuresOf binds ms →
      first_over (map (instance (bound_by binds)) (map tree ts)) ≡ first_over (map (instance (bound_by binds)) (drop (i + 1) (map tree ts)))
  places-step small binds h = here-passes (bound_by binds) ts i k within at (so binds h) (limited-small (instance (bound_by binds) (tree k)) m small (measure-is binds ms (tree k) m h is))

-- an error that is passed on
pub err_is : {T E : Type 0} (Q : Result T E → Type 0) (r : Result T E) (P : E → Type 0) → IsErrAnd r P → ((e : E) → P e → Q (Err e)) → Q r
err_is Q (Ok x) P h f = absurd h
err_is Q (Err e) P h f = f e h

-- terms that are not too deep
pub all-shallow : (ts : List Tree) → AreShallow ts → greatest_depth (forest ts) ≤ 1000
all-shallow [] h = omega arith
all-shallow (t ∷ ts) h =
    let a = h.0 in
    let b = all-shallow ts h.1 in omega (arith, a, b)

pub all-shallow-are : (ts us : List Term) → us ≡ ts → AreShallow (map tree ts) → greatest_depth (forest (map tree us)) ≤ 1000
all-shallow-are ts us e h = subst (λ (xs : List Term). greatest_depth (forest (map tree xs)) ≤ 1000) (sym e) (all-shallow (map tree ts) h)

-- the rule with a number, and what it asks for
pub bare-found : (rs : List RuleOf) (n : ℕ) (r : RuleOf) → slice_get (map named rs) n ≡ Some (named r) → slice_get (map rule rs) n ≡ Some (rule r)
bare-found [] n r e = cc
bare-found (x ∷ rs) zero r e = let q : named x ≡ named r = cc in ap (λ (y : NamedRule). let o : Option Rule = Some y.rule in o) q
bare-found (x ∷ rs) (suc n) r e = bare-found rs n r e

pub bare-none : (rs : List RuleOf) (n : ℕ) → slice_get (map named rs) n ≡ None → slice_get (map rule rs) n ≡ None
bare-none [] n e = refl
bare-none (x ∷ rs) zero e = cc
bare-none (x ∷ rs) (suc n) e = bare-none rs n e

pub conclusion-shallow : (rs : List RuleOf) (n : ℕ) (r : RuleOf) → RulesAreShallow (map rule rs) → slice_get (map named rs) n ≡ Some (named r) → AreShallow (map tree r.conclusion.places.items)
conclusion-shallow [] n r h e = cc
conclusion-shallow (x ∷ rs) zero r h e =
    let q : named x ≡ named r = cc in
    subst (λ (y : NamedRule). AreShallow y.rule.conclusion.places) q h.0.0
conclusion-shallow (x ∷ rs) (suc n) r h e = conclusion-shallow rs n r h.1 e
